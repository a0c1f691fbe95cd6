-- One feed: refused for a word above 3FF, and else taken; the next one finds the same readiness.
use mathlib.Core.Path.{◌≡◌, refl, ◌∙◌}
use mathlib.Core.Bool.{true, false}
use mathlib.Core.List.{List, [], ◌∷◌}
use Prim.Native.Nat.{ℕ, zero, suc}
use native.Mathlib.Omega.{arith}
use lib.ListN.{length}
use Rattle.bits.specs.Bits.{word_bits}
use Rattle.bits.specs.Words.{words10}
use Rattle.raster.specs.Table.{total_of}
use Rattle.cable.specs.Words.{unscramble_words}
use Rattle.session.specs.declared.Session.{Session}
use Rattle.stepper.specs.Step.{Run, run}
use Rattle.parts.specs.Parts.{unless_refused}
use Rattle.session.specs.Session.{in_range, feed_refusal, fed_run, fed_session, fed, fed_y, fed_c}
use Rattle.session.proofs.Refusing.{Ready}
use Rattle.law_module.specs.Runs.{Bench, bench, fed_once, fed_all}
use Rattle.law_module.proofs.Refusals.{feed_ready}
use Rattle.law_module.proofs.Ranges.{fed_in_range, fed_keeps}
use Rattle.law_module.proofs.Lengths.{length-steps}

abbrev pub ReadyOn : Bench → Type 0
ReadyOn x = Ready x.session x.y x.c

-- the bench after words that are taken
abbrev pub taken_run : List ℕ → Bench → Run
taken_run ws x = fed_run x.session ws x.y x.c

abbrev pub bench_after : List ℕ → Bench → Bench
bench_after ws x = bench (fed_session x.session ws (taken_run ws x)) (taken_run ws x).y (taken_run ws x).c

length-fed : (s : Session) (ws y c : List ℕ) → (length (fed_y s ws y c) ≡ length y) × (length (fed_c s ws y c) ≡ length c)
unfolding fed_y fed_c fed_run
length-fed s ws y c = go (feed_refusal s ws y c) (length-steps s.raster (total_of s.raster) (run s.state y c) (word_bits (unscramble_words s.history ws)))
  where
    go : (n : ℕ) → (length (fed_run s ws y c).y ≡ length y) × (length (fed_run s ws y c).c ≡ length c)
        → (length (unless_refused n (fed_run s ws y c).y y) ≡ length y) × (length (unless_refused n (fed_run s ws y c).c c) ≡ length c)
    go zero e = e
    go (suc n) e = (refl, refl)

module _ (ws : List ℕ) (x : Bench) (r : ReadyOn x) where
  pub taken_feed : words10 ws ≡ true → fed_once ws x ≡ bench_after ws x
  unfolding fed fed_y fed_c
  taken_feed w = let e : feed_refusal x.session ws x.y x.c ≡ 0 = feed_ready x.session ws x.y x.c r ∙ rw w in rw e

  pub refused_feed : words10 ws ≡ false → fed_once ws x ≡ x
  unfolding fed fed_y fed_c
  refused_feed w = let e : feed_refusal x.session ws x.y x.c ≡ 3 = feed_ready x.session ws x.y x.c r ∙ rw w in rw e

  -- refused or taken, the session stays open and in range, and the buffers as long
  pub ready-after : ReadyOn (fed_once ws x)
  ready-after =
      let k = fed_keeps x.session ws x.y x.c in
      let l = length-fed x.session ws x.y x.c in
      record {
        running = k.0 ∙ r.running;
        in_range_holds = fed_in_range x.session ws x.y x.c r.in_range_holds;
        y_room_is = rw k.1 (omega (arith, l.0, r.y_room_is));
        c_room_is = rw k.1 (omega (arith, l.1, r.c_room_is));
      }

-- ---- feed after feed

pub fed_all_in_range : (feeds : List (List ℕ)) (x : Bench) → in_range x.session ≡ true → in_range (fed_all feeds x).session ≡ true
unfolding fed_all
fed_all_in_range [] x h = h
fed_all_in_range (ws ∷ feeds) x h = fed_all_in_range feeds (fed_once ws x) (fed_in_range x.session ws x.y x.c h)

pub length-fed_all : (feeds : List (List ℕ)) (x : Bench) → (length (fed_all feeds x).y ≡ length x.y) × (length (fed_all feeds x).c ≡ length x.c)
unfolding fed_all
length-fed_all [] x = (refl, refl)
length-fed_all (ws ∷ feeds) x =
    let l = length-fed x.session ws x.y x.c in
    let rest = length-fed_all feeds (fed_once ws x) in
    (rest.0 ∙ l.0, rest.1 ∙ l.1)

pub ready-after_all : (feeds : List (List ℕ)) (x : Bench) → ReadyOn x → ReadyOn (fed_all feeds x)
unfolding fed_all
ready-after_all [] x r = r
ready-after_all (ws ∷ feeds) x r = ready-after_all feeds (fed_once ws x) (ready-after ws x r)

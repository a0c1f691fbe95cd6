-- "Cutting the words anywhere into feeds changes nothing": pieces, however many and also empty ones, leave what one feed of all the words leaves.
use mathlib.Core.Path.{◌≡◌, refl, sym, ap, ap₂, ◌∙◌}
use mathlib.Core.Bool.{Bool, true, false}
use mathlib.Core.List.{List, [], ◌∷◌, ◌++◌, flat_map}
use Prim.Native.Nat.{ℕ}
use Rattle.bits.specs.Choice.{if}
use Rattle.bits.specs.Bits.{word_bits}
use Rattle.bits.specs.Words.{words10}
use Rattle.bits.proofs.Bits.{word_bits_append}
use Rattle.bits.proofs.Words.{words10_nil, words10_cons, words10_head, words10_tail, words10_append}
use Rattle.raster.specs.Table.{total_of}
use Rattle.cable.specs.Words.{unscramble_next, unscramble_words}
use Rattle.cable.proofs.Words.{unscramble_nil, unscramble_next_none, unscramble_of_append, unscramble_next_of_append}
use Rattle.parts.specs.Parts.{end_to_end}
use Rattle.laying.specs.Laying.{laid_by}
use Rattle.session.specs.declared.Session.{Session}
use Rattle.stepper.specs.Step.{Run, run, steps}
use Rattle.session.specs.Session.{session, feed_refusal, fed_run}
use Rattle.session.proofs.Refusing.{ready_history}
use Rattle.stepper.proofs.Stepping.{steps_of_append}
use Rattle.law_module.specs.Runs.{Bench, bench, fed_once, fed_all, taken_if, taken}
use Rattle.law_module.proofs.Refusals.{feed_ready}
use Rattle.law_module.proofs.Feeds.{ReadyOn, bench_after, taken_feed, refused_feed, ready-after}

words10_first : (ws vs : List ℕ) → words10 (ws ++ vs) ≡ true → words10 ws ≡ true
words10_first [] vs t = words10_nil [] refl
words10_first (w ∷ ws) vs t = words10_cons w ws (words10_head w (ws ++ vs) t) (words10_first ws vs (words10_tail w (ws ++ vs) t))

-- ---- the bits of words after words

bits_of_append : (ws vs : List ℕ) (h : ℕ)
    → word_bits (unscramble_words h (ws ++ vs)) ≡ word_bits (unscramble_words h ws) ++ word_bits (unscramble_words (unscramble_next h ws) vs)
bits_of_append ws vs h =
    ap word_bits (unscramble_of_append ws vs h) ∙ word_bits_append (unscramble_words h ws) (unscramble_words (unscramble_next h ws) vs)

-- ---- two pieces

bench_at : Session → ℕ → Run → Bench
bench_at s next x = bench (session s.running s.raster next x.state) x.y x.c

module _ (x : Bench) (r : ReadyOn x) where
  none_fed : bench_after [] x ≡ x
  unfolding fed_run bench_at word_bits steps
  none_fed =
      ap₂ (bench_at x.session) (unscramble_next_none x.session.history (ready_history r))
      (ap (λ (vs : List ℕ). steps laid_by x.session.raster (total_of x.session.raster) (word_bits vs) (run x.session.state x.y x.c))
      (unscramble_nil x.session.history))

  two_fed : (ws vs : List ℕ) → bench_after (ws ++ vs) x ≡ bench_after vs (bench_after ws x)
  unfolding fed_run bench_at
  two_fed ws vs =
      let lay = steps laid_by x.session.raster (total_of x.session.raster) in
      let from = run x.session.state x.y x.c in
      ap₂ (bench_at x.session) (unscramble_next_of_append ws vs x.session.history)
      (ap (λ (bs : List Bool). lay bs from) (bits_of_append ws vs x.session.history)
      ∙ steps_of_append laid_by x.session.raster (total_of x.session.raster) (word_bits (unscramble_words x.session.history ws))
      (word_bits (unscramble_words (unscramble_next x.session.history ws) vs)) from)

-- ---- any number of pieces

-- what is taken of a feed: all, or nothing where a word is above 3FF
abbrev pub lawful : List ℕ → List ℕ
lawful ws = if (words10 ws) ws []

one_fed : (ws : List ℕ) (x : Bench) → ReadyOn x → fed_once ws x ≡ bench_after (lawful ws) x
one_fed ws x r = go (words10 ws) refl
  where
    go : (t : Bool) → words10 ws ≡ t → fed_once ws x ≡ bench_after (if t ws []) x
    go true e = taken_feed ws x r e
    go false e = refused_feed ws x r e ∙ sym (none_fed x r)

-- feeds leave what one of all their lawful words leaves
pub fed_all_of_lawful : (feeds : List (List ℕ)) (x : Bench) → ReadyOn x → fed_all feeds x ≡ bench_after (flat_map lawful feeds) x
unfolding fed_all flat_map
fed_all_of_lawful [] x r = sym (none_fed x r)
fed_all_of_lawful (ws ∷ feeds) x r =
    fed_all_of_lawful feeds (fed_once ws x) (ready-after ws x r)
    ∙ ap (bench_after (flat_map lawful feeds)) (one_fed ws x r)
    ∙ sym (two_fed x r (lawful ws) (flat_map lawful feeds))

-- .. which are those that were taken
pub taken_are_lawful : (feeds : List (List ℕ)) (x : Bench) → ReadyOn x → taken feeds x ≡ flat_map lawful feeds
unfolding taken flat_map
taken_are_lawful [] x r = refl
taken_are_lawful (ws ∷ feeds) x r = ap₂ (λ (vs rest : List ℕ). vs ++ rest) (first (words10 ws) refl) (taken_are_lawful feeds (fed_once ws x) (ready-after ws x r))
  where
    first : (t : Bool) → words10 ws ≡ t → taken_if (feed_refusal x.session ws x.y x.c) ws ≡ if t ws []
    first true e = rw (feed_ready x.session ws x.y x.c r, e)
    first false e = rw (feed_ready x.session ws x.y x.c r, e)

all_lawful : (feeds : List (List ℕ)) → words10 (end_to_end feeds) ≡ true → flat_map lawful feeds ≡ end_to_end feeds
unfolding flat_map
all_lawful [] w = refl
all_lawful (ws ∷ feeds) w =
    let rest = end_to_end feeds in
    let one = words10_first ws rest w in
    rw (one, all_lawful feeds (sym (words10_append ws rest one) ∙ w))

pub fed_all_of_pieces : (feeds : List (List ℕ)) (x : Bench) → ReadyOn x → words10 (end_to_end feeds) ≡ true
    → fed_all feeds x ≡ fed_once (end_to_end feeds) x
fed_all_of_pieces feeds x r w =
    fed_all_of_lawful feeds x r
    ∙ ap (λ (ws : List ℕ). bench_after ws x) (all_lawful feeds w)
    ∙ sym (taken_feed (end_to_end feeds) x r w)

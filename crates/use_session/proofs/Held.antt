-- The row buffers after the words of a module hold its open row.
use mathlib.Core.Path.{◌≡◌, refl, sym, ap, ◌∙◌}
use mathlib.Core.Bool.{true}
use mathlib.Core.List.{List}
use Prim.Native.Nat.{ℕ, ◌≤◌, min}
use native.Mathlib.Omega.{arith}
use lib.ListN.{take}
use Rattle.std.specs.Prelude.{Result, IsOkAnd}
use Rattle.bits.specs.Words.{words10}
use Rattle.refusal.specs.declared.Refusal.{Refusal}
use Rattle.raster.specs.Table.{meant, raster_ok, total_of}
use Rattle.raster.proofs.Table.{meant_ok, looked_up_range}
use Rattle.stepper.specs.Step.{run}
use Rattle.session.specs.declared.Session.{Session}
use Rattle.session.specs.Session.{start_state, begun_as, feed_refusal, fed_run, fed, fed_y, fed_c}
use Rattle.law_module.specs.Module.{begun_run, bits_of}
use Rattle.law_module.specs.Runs.{Fits, open_row, run_of}
use Rattle.law_module.proofs.Refusals.{feed_ready}
use Rattle.law_module.proofs.Follows.{Follows, steps_follow}
use Rattle.law_module.proofs.Own.{total_of_meant}
use Rattle.law_module.proofs.Opened.{opened_in_range}

module _ (code : ℕ) (ok : raster_ok code ≡ true) (ws y c : List ℕ) (w : words10 ws ≡ true) (room : Fits code y c) where
  none_refused : feed_refusal (begun_as code) ws y c ≡ 0
  none_refused =
      let t = total_of_meant code in
      feed_ready (begun_as code) ws y c
      record { running = refl; in_range_holds = opened_in_range code ok; y_room_is = omega (arith, room.0); c_room_is = omega (arith, room.1) }
      ∙ rw w

  long : 4 ≤ total_of (meant code)
  long = omega (arith, (looked_up_range (meant code) (meant_ok code ok)).total_low)

  follows : Follows (meant code) (total_of (meant code)) long (fed_run (begun_as code) ws y c) (run_of code ws)
  unfolding fed_run
  follows =
      let t = total_of_meant code in
      let none : min 0 (total_of (meant code)) ≡ 0 = omega arith in
      steps_follow (meant code) (total_of (meant code)) long (bits_of ws) (run start_state y c) begun_run
      record { state = refl; y = record { words = rw none; room = omega (arith, room.0) }; c = record { words = rw none; room = omega (arith, room.1) } }

  pairs : ℕ
  pairs = (fed_run (begun_as code) ws y c).state.sight.place.pairs

  held : (buffer row : List ℕ) → row ≡ take (min pairs (total_of (meant code))) buffer → take (min pairs (total_of code)) buffer ≡ row
  held buffer row e = sym (e ∙ ap (λ (n : ℕ). take (min pairs n) buffer) (total_of_meant code))

  module _ (s : Session) {r : Result Session Refusal} {b : List ℕ} (es : s ≡ begun_as code) (er : r ≡ fed s ws y c) where
    pub feed_holds_y : b ≡ fed_y s ws y c → IsOkAnd r (λ z. open_row code z b ≡ (run_of code ws).y)
    unfolding pairs fed fed_y
    feed_holds_y eb = rw (er, eb, es, none_refused) (held (fed_run (begun_as code) ws y c).y (run_of code ws).y follows.y.words)

    pub feed_holds_c : b ≡ fed_c s ws y c → IsOkAnd r (λ z. open_row code z b ≡ (run_of code ws).c)
    unfolding pairs fed fed_c
    feed_holds_c eb = rw (er, eb, es, none_refused) (held (fed_run (begun_as code) ws y c).c (run_of code ws).c follows.c.words)

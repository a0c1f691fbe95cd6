-- What is left to do of unscrambled words: a word taken bit by bit, and none left.
use mathlib.Core.Path.{◌≡◌, refl}
use mathlib.Core.List.{List, [], ◌∷◌}
use Prim.Native.Nat.{ℕ, ◌≤◌}
use native.Mathlib.Omega.{arith}
use lib.ListN.{length, get_or, drop}
use Rattle.bits.specs.Bits.{bits, word_bits}
use Rattle.laying.specs.Laying.{laid_by}
use Rattle.stepper.specs.Step.{Run, steps}
use Rattle.stepper.proofs.Stepping.{steps_of_append}
use Rattle.taking.specs.Hurry.{gone_on}

-- a turn of the loop over unscrambled words, and its end
pub gone_word : (code total : ℕ) (ws : List ℕ) (x : Run) {r : Run} → 1 ≤ length ws → r ≡ steps laid_by code total (bits 10 (get_or ws 0 0)) x
    → gone_on code total ws x ≡ gone_on code total (drop 1 ws) r
unfolding word_bits
gone_word code total [] x some e = absurd (omega arith)
gone_word code total (w ∷ ws) x some e = rw e (steps_of_append laid_by code total (bits 10 w) (word_bits ws) x)

pub gone_none : (code total : ℕ) (ws : List ℕ) (x : Run) → length ws ≡ 0 → gone_on code total ws x ≡ x
unfolding steps word_bits
gone_none code total [] x none = refl
gone_none code total (w ∷ ws) x none = absurd (omega arith)

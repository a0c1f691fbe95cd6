-- Two rows on the cable, word for word, and a run of their bits changed.
use Rattle.std.specs.Prelude.{◌≡◌, Bool, true, List, ◌++◌, ℕ, ◌+◌, ◌*◌, ◌≤◌, length, Result, Ok, Err}
use Rattle.bits.specs.Bits.{word_bits}
use Rattle.bits.specs.Words.{words10}
use Rattle.refusal.specs.declared.Refusal.{Refusal}
use Rattle.raster.specs.Lines.{line_refusal}
use Rattle.parts.specs.Parts.{part}
use Rattle.plan.specs.Plan.{plan_of}
use Rattle.row.specs.Before.{Carry, carry_ok}
use Rattle.row.specs.declared.Judged.{Judged}
use Rattle.row.specs.Row.{checked}

abbrev pub total : ℕ → ℕ → ℕ
total code line = (plan_of code line).places.total

-- the first of two rows
abbrev pub first_checked : ℕ → ℕ → Carry → List ℕ → List ℕ → Result Judged Refusal
first_checked code line carry y c = checked code line carry (part 0 (total code line) y) (part 0 (total code line) c)

-- a row checked, and the next one with the carry that the first leaves; where the first is refused, its answer
abbrev pub checked_after : Result Judged Refusal → (Carry → Result Judged Refusal) → Result Judged Refusal
checked_after (Ok first) second = second first.carry
checked_after (Err refusal) second = Err refusal

unfoldable pub next_checked : ℕ → ℕ → ℕ → Carry → List ℕ → List ℕ → Result Judged Refusal
next_checked code line next carry y c =
    checked_after (first_checked code line carry y c)
    (λ left. checked code next left (part (total code line) (total code line) y) (part (total code line) (total code line) c))

-- the cable words of a row and of the next one, T pairs each, with room to unscramble them and to part the channels
pub record TwoRows (code line next : ℕ) (carry : Carry) (history : ℕ) (cable : List ℕ) (room y_room c_room : ℕ) : Type 0 where
  pub ok : line_refusal code line ≡ 0
  pub ok_next : line_refusal code next ≡ 0
  pub registers : carry_ok carry ≡ true
  pub start : history ≤ 0x3ff
  pub words : words10 cable ≡ true
  pub size : length cable ≡ 4 * total code line
  pub fits : length cable ≤ room
  pub y_size : y_room ≡ 2 * total code line
  pub c_size : c_room ≡ 2 * total code line

-- a run m of at most eighteen bits is changed into n, "the run and the ten bits after it inside the stretch" from the first row's first
-- active word, after the bits before, to the next row's second line number word
pub record Struck (code line : ℕ) (one other : List ℕ) (before a m n z : List Bool) : Type 0 where
  pub of_one : word_bits one ≡ before ++ (a ++ (m ++ z))
  pub of_other : word_bits other ≡ before ++ (a ++ (n ++ z))
  pub start : length before ≡ 20 * (plan_of code line).places.active
  pub equal : length m ≡ length n
  pub short : length m ≤ 18
  pub differ : m ≡ n → ⊥
  pub inside : length a + length m + 10 ≤ 20 * ((plan_of code line).places.count + 6)

-- Laws of a row whose line is known, and of the line after it.
use mathlib.Core.Path.{◌≡◌, refl, ap}
use mathlib.Core.Bool.{Bool, true, false}
use mathlib.Core.List.{List}
use Prim.Native.Nat.{ℕ, zero, suc, ◌+◌, ◌≤◌, ◌<◌}
use native.Mathlib.Omega.{arith}
use lib.Dec.{ltb}
use borrow.Author.Tests.{ltb-true}
use Rattle.bits.specs.Choice.{if}
use Rattle.raster.specs.Table.{raster_ok, entry_of, rows_of}
use Rattle.raster.specs.Lines.{line_refusal}
use Rattle.raster.proofs.Table.{raster_given-found, looked_up_range}
use Rattle.raster.proofs.Lines.{between_yes, line_refusal_ok, ok_line_refusal}
use Rattle.row.specs.Before.{Carry}
use Rattle.row.specs.Row.{judged}
use Rattle.judging.specs.Happening.{line_of, line_after, row_judged, completed}

pub line_of_known : (code line : ℕ) (y : List ℕ) → (line ≡ 0 → ⊥) → line_of code line y ≡ line
line_of_known code zero y known = absurd (known refl)
line_of_known code (suc n) y known = refl

pub completed_numbered : (code line : ℕ) (carry : Carry) (y c : List ℕ) → (line ≡ 0 → ⊥)
    → completed code line carry y c ≡ row_judged code line carry (judged code line carry y c)
completed_numbered code zero carry y c known = absurd (known refl)
completed_numbered code (suc n) carry y c known = refl

-- the line after any number is one of the raster
pub line_after_range : (code line : ℕ) → raster_ok code ≡ true → (1 ≤ line_after code line) × (line_after code line ≤ rows_of code)
line_after_range code line raster = go (ltb line (rows_of code)) (ltb-true line (rows_of code))
  where
    go : (t : Bool) → (t ≡ true → line < rows_of code) → (1 ≤ if t (line + 1) 1) × (if t (line + 1) 1 ≤ rows_of code)
    go true below = let l = below refl in (omega arith, omega arith)
    go false below = (omega arith, omega (arith, (looked_up_range code raster).rows_low))

pub line_after_ok : (code line : ℕ) → line_refusal code line ≡ 0 → line_refusal code (line_after code line) ≡ 0
line_after_ok code line ok =
    let raster = (line_refusal_ok code line ok).0 in
    let range = line_after_range code line raster in
    let rows : rows_of code ≡ (entry_of code).rows = ap (λ r. r.rows) (raster_given-found code raster) in
    ok_line_refusal code (line_after code line) raster (between_yes 1 (entry_of code).rows (line_after code line) range.0 (omega arith))

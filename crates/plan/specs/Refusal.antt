-- Rows that are handed in to be read or corrected.
use Rattle.std.specs.Prelude.{Bool, ◌&&◌, List, ℕ, zero, suc, eqb, length}
use Rattle.bits.specs.Choice.{if}
use Rattle.bits.specs.Words.{words10}
use Rattle.raster.specs.Table.{total_of}
use Rattle.raster.specs.Lines.{line_refusal}

-- "2: row slice not of T words"
abbrev pub row_ok : ℕ → List ℕ → Bool
row_ok code ws = eqb (length ws) (total_of code)

-- "Order where several apply: .., 4, 5, 2, 3, .."; the first of two refusals, 0 being none
abbrev pub or_refusal : ℕ → ℕ → ℕ
or_refusal zero next = next
or_refusal (suc n) next = suc n

unfoldable pub row_refusal : ℕ → ℕ → List ℕ → List ℕ → ℕ
row_refusal code line y c =
    or_refusal (line_refusal code line) (if (row_ok code y && row_ok code c) (if (words10 y && words10 c) 0 3) 2)

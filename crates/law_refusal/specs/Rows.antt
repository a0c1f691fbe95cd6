-- The conditions of the refusal table, for packets and rows. A test is true where nothing is refused for it.
use Rattle.std.specs.Prelude.{◌≡◌, Bool, true, ◌&&◌, List, ℕ}
use Rattle.bits.specs.Words.{words10}
use Rattle.raster.specs.Table.{raster_ok}
use Rattle.raster.specs.Lines.{line_ok}
use Rattle.plan.specs.declared.Plan.{Plan}
use Rattle.plan.specs.Refusal.{row_ok}
use Rattle.compose.specs.Compose.{lengths_ok}

-- ---- the tests of two channels

-- "2: row slice not of T words; ..
abbrev pub rows_ok : ℕ → List ℕ → List ℕ → Bool
rows_ok code y c = row_ok code y && row_ok code c

-- .. in building, not A active words or over T-A-12 blanking words"
abbrev pub parts_ok : Plan → List ℕ → List ℕ → List ℕ → List ℕ → Bool
parts_ok p y_active c_active y_laid c_laid = lengths_ok p y_active y_laid && lengths_ok p c_active c_laid

-- "3: a word .. above 3FF"
abbrev pub words_ok : List ℕ → List ℕ → Bool
words_ok y c = words10 y && words10 c

-- ---- none of the conditions before, in the order 4, 5, 2, 3, 1

-- neither "4: raster not 0..11" nor "5: line not 1..N"
abbrev pub Listed : ℕ → ℕ → Type 0
Listed code line = (raster_ok code ≡ true) × (line_ok code line ≡ true)

-- nor 2: these lengths are right
abbrev pub Sized : ℕ → ℕ → Bool → Type 0
Sized code line lengths = Listed code line × (lengths ≡ true)

-- nor 3: these words are, and the carry where there is one
abbrev pub Sound : ℕ → ℕ → Bool → Bool → Type 0
Sound code line lengths words = Sized code line lengths × (words ≡ true)

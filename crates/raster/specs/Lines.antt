-- V and F of a line.
use Rattle.std.specs.Prelude.{Bool, false, not, ◌&&◌, ◌||◌, Result, ℕ, leb, eqb}
use Rattle.bits.specs.Choice.{if}
use Rattle.refusal.specs.declared.Refusal.{Refusal}
use Rattle.refusal.specs.Refusal.{result_of}
use Rattle.raster.specs.declared.Entry.{Entry}
use Rattle.raster.specs.declared.Kind.{Kind}
use Rattle.raster.specs.declared.Kind.TheVariants.{Progressive, TwoFields}
use Rattle.raster.specs.declared.LineFacts.{LineFacts}
use Rattle.raster.specs.Table.{raster_ok, entry_of}

-- lines first to last
abbrev pub between : ℕ → ℕ → ℕ → Bool
between first last line = leb first line && leb line last

-- "V is 0 on lines 26 to 745 (750 rows); 42 to 1121 (1125 progressive); 21 to 560 and 584 to 1123 (two fields); else 1."
abbrev pub v_of : ℕ → Kind → ℕ → Bool
v_of rows TwoFields line = not (between 21 560 line || between 584 1123 line)
v_of rows Progressive line = not (if (eqb rows 750) (between 26 745 line) (between 42 1121 line))

-- "F is 1 only in two-field rasters, lines 564 to 1125."
abbrev pub f_of : Kind → ℕ → Bool
f_of TwoFields line = between 564 1125 line
f_of Progressive line = false

-- "5: line not 1..N"
abbrev pub line_ok : ℕ → ℕ → Bool
line_ok code line = between 1 (entry_of code).rows line

-- "Order where several apply: .., 4, 5, .."
abbrev pub line_refusal : ℕ → ℕ → ℕ
line_refusal code line = if (raster_ok code) (if (line_ok code line) 0 5) 4

-- V and F of a line
abbrev pub facts_of : Entry → ℕ → LineFacts
facts_of e line = record { v = v_of e.rows e.kind line; f = f_of e.kind line }

unfoldable pub line_facts : ℕ → ℕ → Result LineFacts Refusal
line_facts code line = result_of (line_refusal code line) (facts_of (entry_of code) line)

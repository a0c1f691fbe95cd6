-- Line number words, built and read under a raster.
use Rattle.std.specs.Prelude.{Bool, ◌&&◌, Option, None, Some, Result, Ok, Err, ℕ, ◌+◌, ◌*◌, ◌/◌, ◌%◌, leb, eqb}
use Rattle.bits.specs.Choice.{if, unless_zero}
use Rattle.bits.specs.Words.{nine_of}
use Rattle.refusal.specs.declared.Refusal.{Refusal}
use Rattle.refusal.specs.Refusal.{result_of}
use Rattle.raster.specs.Table.{raster_ok}
use Rattle.raster.specs.Lines.{line_ok, line_refusal}
use Rattle.timing.specs.declared.LineWords.{LineWords}

-- "LN0: bits 8..2 are line bits 6..0." "All other low bits are 0; bit 9 is the inverse of bit 8."
abbrev pub ln0_of : ℕ → ℕ
ln0_of line = nine_of (line % 128 * 4)

-- "LN1: bits 5..2 are line bits 10..7."
abbrev pub ln1_of : ℕ → ℕ
ln1_of line = nine_of (line / 128 % 16 * 4)

-- the words of a line
abbrev pub words_of : ℕ → LineWords
words_of line = record { ln0 = ln0_of line; ln1 = ln1_of line }

unfoldable pub line_words : ℕ → ℕ → Result LineWords Refusal
line_words code line = result_of (line_refusal code line) (words_of line)

-- the line whose bits 6..0 stand in bits 8..2 of LN0, and bits 10..7 in bits 5..2 of LN1
abbrev pub line_in : ℕ → ℕ → ℕ
line_in ln0 ln1 = ln0 / 4 % 128 + ln1 / 4 % 16 * 128

-- both words are, in all ten bits, those of that line
abbrev pub exact_line : ℕ → ℕ → Bool
exact_line ln0 ln1 = eqb ln0 (ln0_of (line_in ln0 ln1)) && eqb ln1 (ln1_of (line_in ln0 ln1))

-- "reading answers the line, or 0 if not exact or not in 1..N"
abbrev pub line_from : ℕ → ℕ → ℕ → ℕ
line_from code ln0 ln1 = if (exact_line ln0 ln1 && line_ok code (line_in ln0 ln1)) (line_in ln0 ln1) 0

-- 4, then 3 for a word above 3FF
abbrev pub read_refusal : ℕ → ℕ → ℕ → ℕ
read_refusal code ln0 ln1 = if (raster_ok code) (if (leb ln0 0x3ff && leb ln1 0x3ff) 0 3) 4

unfoldable pub line_read : ℕ → ℕ → ℕ → Result (Option ℕ) Refusal
line_read code ln0 ln1 = result_of (read_refusal code ln0 ln1) (unless_zero (line_from code ln0 ln1))

-- the paper's number of each case
abbrev pub line_told : Result (Option ℕ) Refusal → ℕ
line_told (Err refusal) = 0
line_told (Ok None) = 0
line_told (Ok (Some line)) = line

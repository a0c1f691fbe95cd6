-- The conditions of the refusal table, for a byte of a bench file and for a desk.
use Rattle.std.specs.Prelude.{Bool, true, not, ◌&&◌, ◌||◌, List, ℕ, leb, ltb, length}
use Rattle.raster.specs.Table.{raster_ok}
use Rattle.session.specs.Session.{in_range}
use Rattle.reader.specs.declared.Stage.{Stage}
use Rattle.reader.specs.declared.Stage.TheVariants.{TagCount, TagBytes, OptionsCount, RasterByte, WipeByte, WordCount, LowByte, HighByte, Stopped}
use Rattle.reader.specs.declared.Reader.{Reader}
use Rattle.reader.specs.Reader.{counted, tag_size_ok, printable, options_size_ok, wipe_ok, word_of, word_ok}
use Rattle.desk.specs.declared.Desk.{Desk}
use Rattle.desk.specs.Desk.{words_at, longest}

-- ---- a byte

-- one of the first three bytes of a count, or the count is as it should be
abbrev pub count_ok : (ℕ → Bool) → Reader → ℕ → Bool
count_ok size_ok r b = ltb r.count.seen 3 || size_ok (counted b r.count)

-- none of "9: .. tag not of 1 to 32 bytes or not printable ASCII without spaces, options not two bytes or wipe not 0 or 1",
-- "4: raster not 0..11" and "3: a word .. above 3FF", at the byte that would show it
abbrev pub lawful : Stage → Reader → ℕ → Bool
lawful TagCount r b = count_ok tag_size_ok r b
lawful TagBytes r b = printable b
lawful OptionsCount r b = count_ok options_size_ok r b
lawful RasterByte r b = true
lawful WipeByte r b = wipe_ok b && raster_ok r.options.raster
lawful WordCount r b = true
lawful LowByte r b = true
lawful HighByte r b = word_ok (word_of r.low b)
lawful Stopped r b = true

-- ---- a desk

-- not "7: .. feed or end when not [open]; a session number outside the range": while words are read, the session is open and in range
abbrev pub ready : Desk → Bool
ready d = not (words_at d.reader.stage) || (d.session.running && in_range d.session)

-- not "1: .. row buffer too short .. for T": both are long enough for the longest row
abbrev pub roomy : List ℕ → List ℕ → Bool
roomy y c = leb longest (length y) && leb longest (length c)

-- A bench file, a byte at a time: "Each: tag, options (raster, wipe), words; every section after its count".
use Rattle.std.specs.Prelude.{Bool, true, false, not, ◌&&◌, ℕ, ◌+◌, ◌-◌, ◌*◌, ◌/◌, leb, ltb, eqb, replicate, set, Result, Ok, Err}
use Rattle.bits.specs.Choice.{if}
use Rattle.refusal.specs.declared.Refusal.{Refusal}
use Rattle.refusal.specs.declared.Refusal.TheVariants.{TooHigh, NoRaster, BadFile}
use Rattle.raster.specs.Table.{raster_ok}
use Rattle.reader.specs.declared.Stage.{Stage}
use Rattle.reader.specs.declared.Stage.TheVariants.{TagCount, TagBytes, OptionsCount, RasterByte, WipeByte, WordCount, LowByte, HighByte, Stopped}
use Rattle.reader.specs.declared.Count.{Count}
use Rattle.reader.specs.declared.Tag.{Tag}
use Rattle.reader.specs.declared.Options.{Options}
use Rattle.reader.specs.declared.Reader.{Reader}
use Rattle.reader.specs.declared.Piece.{Piece}
use Rattle.reader.specs.declared.Piece.TheVariants.{More, Chosen, Word}
use Rattle.reader.specs.declared.Read.{Read}

-- ---- the tests of the sections

-- "tag .. of 1 to 32 bytes"
abbrev pub tag_size_ok : ℕ → Bool
tag_size_ok n = leb 1 n && leb n 32

-- "printable ASCII without spaces"
abbrev pub printable : ℕ → Bool
printable b = leb 0x21 b && leb b 0x7e

-- "options .. two bytes"
abbrev pub options_size_ok : ℕ → Bool
options_size_ok n = eqb n 2

-- "wipe .. 0 or 1"
abbrev pub wipe_ok : ℕ → Bool
wipe_ok b = leb b 1

-- "words 16 bits little-endian"
abbrev pub word_of : ℕ → ℕ → ℕ
word_of low high = low + high * 256

-- "3: a word .. above 3FF"
abbrev pub word_ok : ℕ → Bool
word_ok w = leb w 0x3ff

-- ---- where a reader stands

abbrev pub count : ℕ → ℕ → Count
count left seen = record { left = left; seen = seen }

abbrev pub options : ℕ → Bool → Options
options raster wipe = record { raster = raster; wipe = wipe }

abbrev pub no_tag : Tag
no_tag = record { bytes = replicate 32 0; size = 0 }

abbrev pub reader : Stage → Count → ℕ → Tag → Options → Reader
reader stage n low t o = record { stage = stage; count = n; low = low; tag = t; options = o }

-- with nothing of any job
abbrev pub blank : Stage → Reader
blank stage = reader stage (count 0 0) 0 no_tag (options 0 false)

-- before a job
abbrev pub fresh : Reader
fresh = blank TagCount

-- after a refusal
abbrev pub stopped : Reader
stopped = blank Stopped

-- a job goes on at a stage; so many of a section that has a count to be followed are left
abbrev pub goes_on : Reader → Stage → ℕ → Reader
goes_on r stage left = reader stage (count left 0) r.low r.tag r.options

-- .. with these options, no count being followed
abbrev pub chooses : Reader → Stage → Options → Reader
chooses r stage o = reader stage (count 0 0) r.low r.tag o

-- ---- what a byte brings, or why it is refused

abbrev pub Answer : Type 0
Answer = Result Read Refusal

abbrev pub brings : Piece → Reader → Answer
brings piece r = Ok (record { piece = piece; ends = false; reader = r })

-- the last byte of a job
abbrev pub ends : Piece → Answer
ends piece = Ok (record { piece = piece; ends = true; reader = fresh })

-- "its count, 32 bits little-endian": the bytes of a count so far, in the highest places, with one more
abbrev pub counted : ℕ → Count → ℕ
counted b n = n.left / 256 + b * 0x1000000

abbrev pub waits : Reader → ℕ → Answer
waits r left = brings More (reader r.stage (count left (r.count.seen + 1)) r.low r.tag r.options)

-- a byte of a count: with the fourth it is there
abbrev pub counting : Reader → ℕ → (ℕ → Answer) → Answer
counting r b whole = if (ltb r.count.seen 3) (waits r (counted b r.count)) (whole (counted b r.count))

unfoldable pub of_tag_count : Reader → ℕ → Answer
of_tag_count r b =
    counting r b (λ n. if (tag_size_ok n) (brings More (goes_on fresh TagBytes n)) (Err BadFile))

-- a tag with one more byte; one of 32 takes none
unfoldable pub tag_with : ℕ → Tag → Tag
tag_with b t = if (ltb t.size 32) (record { bytes = set t.bytes t.size b; size = t.size + 1 }) t

unfoldable pub tagged : Reader → ℕ → Reader
tagged r b = reader r.stage r.count r.low (tag_with b r.tag) r.options

unfoldable pub of_tag_byte : Reader → ℕ → Answer
of_tag_byte r b =
    if (printable b)
    (brings More (if (ltb r.count.left 2) (goes_on (tagged r b) OptionsCount 0) (goes_on (tagged r b) TagBytes (r.count.left - 1))))
    (Err BadFile)

unfoldable pub of_options_count : Reader → ℕ → Answer
of_options_count r b = counting r b (λ n. if (options_size_ok n) (brings More (goes_on r RasterByte 0)) (Err BadFile))

abbrev pub of_raster_byte : Reader → ℕ → Answer
of_raster_byte r b = brings More (chooses r WipeByte (options b false))

-- 9 before 4: "the order above decides only within one section or one word"
unfoldable pub of_wipe_byte : Reader → ℕ → Answer
of_wipe_byte r b =
    if (wipe_ok b)
    (if (raster_ok r.options.raster)
    (brings (Chosen r.options.raster) (chooses r WordCount (options r.options.raster (eqb b 1))))
    (Err NoRaster))
    (Err BadFile)

unfoldable pub of_word_count : Reader → ℕ → Answer
of_word_count r b = counting r b (λ n. if (eqb n 0) (ends More) (brings More (goes_on r LowByte n)))

abbrev pub of_low_byte : Reader → ℕ → Answer
of_low_byte r b = brings More (reader HighByte r.count b r.tag r.options)

-- of words the unit is the word: one above 3FF is met before whatever is wrong after it
unfoldable pub of_high_byte : Reader → ℕ → Answer
of_high_byte r b =
    let w : ℕ = word_of r.low b in
    if (word_ok w)
    (if (ltb r.count.left 2) (ends (Word w)) (brings (Word w) (goes_on r LowByte (r.count.left - 1))))
    (Err TooHigh)

abbrev pub read_at : Stage → Reader → ℕ → Answer
read_at TagCount r b = of_tag_count r b
read_at TagBytes r b = of_tag_byte r b
read_at OptionsCount r b = of_options_count r b
read_at RasterByte r b = of_raster_byte r b
read_at WipeByte r b = of_wipe_byte r b
read_at WordCount r b = of_word_count r b
read_at LowByte r b = of_low_byte r b
read_at HighByte r b = of_high_byte r b
read_at Stopped r b = brings More r

unfoldable pub read_of : Reader → ℕ → Answer
read_of r b = read_at r.stage r b

-- the reader that a byte leaves: "on a refusal .. stops"
abbrev pub left_by : Answer → Reader
left_by (Ok x) = x.reader
left_by (Err refusal) = stopped

-- "cut short": the input ends inside a job
abbrev pub cut_at : Stage → ℕ → Bool
cut_at TagCount seen = not (eqb seen 0)
cut_at TagBytes seen = true
cut_at OptionsCount seen = true
cut_at RasterByte seen = true
cut_at WipeByte seen = true
cut_at WordCount seen = true
cut_at LowByte seen = true
cut_at HighByte seen = true
cut_at Stopped seen = false

unfoldable pub is_cut : Reader → Bool
is_cut r = cut_at r.stage r.count.seen

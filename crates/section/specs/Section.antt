-- Words of a section read at once, all but its last: "words 16 bits little-endian".
use Rattle.std.specs.Prelude.{Bool, true, false, List, [], ◌∷◌, ◌++◌, ℕ, zero, suc, ◌-◌, ◌*◌, ◌/◌, min, length, get_or, take, drop}
use Rattle.bits.specs.Choice.{if}
use Rattle.reader.specs.declared.Stage.{Stage}
use Rattle.reader.specs.declared.Stage.TheVariants.{TagCount, TagBytes, OptionsCount, RasterByte, WipeByte, WordCount, LowByte, HighByte, Stopped}
use Rattle.reader.specs.declared.Reader.{Reader}
use Rattle.reader.specs.Reader.{count, reader, word_of}
use Rattle.section.specs.declared.Run.{Run}

-- the words of bytes
unfoldable pub words_in : List ℕ → List ℕ
words_in [] = []
words_in (a ∷ []) = []
words_in (a ∷ b ∷ bs) = word_of a b ∷ words_in bs

-- the first of them laid over words, of which the others stay
abbrev pub words_over : ℕ → List ℕ → List ℕ → List ℕ
words_over n bs ws = take n (words_in bs) ++ drop n ws

abbrev pub starts_no_word : Stage → Bool
starts_no_word TagCount = true
starts_no_word TagBytes = true
starts_no_word OptionsCount = true
starts_no_word RasterByte = true
starts_no_word WipeByte = true
starts_no_word WordCount = true
starts_no_word LowByte = false
starts_no_word HighByte = true
starts_no_word Stopped = true

-- all words that are left but the last, which ends a job; none where no word starts
unfoldable pub words_ahead : Reader → ℕ
words_ahead r = if (starts_no_word r.stage) 0 (r.count.left - 1)

-- .. as many of them as there are bytes and room for
abbrev pub run_size : Reader → List ℕ → ℕ → ℕ
run_size r bs room = min (words_ahead r) (min (length bs / 2) room)

-- after so many words, where so many may be read at once, as if their bytes were read one by one and none refused: the low byte of the last stays
unfoldable pub after_words : ℕ → Reader → List ℕ → Reader
after_words zero r bs = r
after_words (suc n) r bs = reader LowByte (count (r.count.left - suc n) 0) (get_or bs (2 * n) 0) r.tag r.options

abbrev pub run_of : Reader → List ℕ → ℕ → Run
run_of r bs room = record { reader = after_words (run_size r bs room) r bs; words = run_size r bs room }

abbrev pub run_words : Reader → List ℕ → List ℕ → List ℕ
run_words r bs ws = words_over (run_size r bs (length ws)) bs ws

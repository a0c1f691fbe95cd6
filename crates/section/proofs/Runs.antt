-- Laws of words that are read at once: how many may be, and that their bytes, read one by one, leave the same reader.
use mathlib.Core.Path.{◌≡◌, refl}
use mathlib.Core.Bool.{Bool, true, false}
use mathlib.Core.List.{List, ◌∷◌}
use Prim.Native.Nat.{ℕ, zero, suc, ◌-◌, ◌*◌, ◌≤◌, ◌<◌}
use native.Mathlib.Omega.{arith}
use borrow.Author.Tests.{le-leb, le-ltb}
use Rattle.bits.specs.Choice.{if}
use Rattle.reader.specs.declared.Stage.{Stage}
use Rattle.reader.specs.declared.Stage.TheVariants.{TagCount, TagBytes, OptionsCount, RasterByte, WipeByte, WordCount, LowByte, HighByte, Stopped}
use Rattle.reader.specs.declared.Piece.TheVariants.{More, Word}
use Rattle.reader.specs.declared.Reader.{Reader}
use Rattle.reader.specs.Reader.{reader, word_of, brings, of_high_byte, read_of}
use Rattle.section.specs.Section.{starts_no_word, words_ahead, after_words}

-- at most all but the last that are left
pub ahead_within : (r : Reader) → words_ahead r ≤ r.count.left - 1
unfolding words_ahead
ahead_within r = go (starts_no_word r.stage)
  where
    go : (t : Bool) → if t 0 (r.count.left - 1) ≤ r.count.left - 1
    go true = omega arith
    go false = omega arith

-- some only where a word starts
ahead_low : (r : Reader) → 0 < words_ahead r → r.stage ≡ LowByte
unfolding words_ahead
ahead_low r = go r.stage
  where
    go : (s : Stage) → 0 < if (starts_no_word s) 0 (r.count.left - 1) → s ≡ LowByte
    go TagCount h = absurd (omega arith)
    go TagBytes h = absurd (omega arith)
    go OptionsCount h = absurd (omega arith)
    go RasterByte h = absurd (omega arith)
    go WipeByte h = absurd (omega arith)
    go WordCount h = absurd (omega arith)
    go LowByte h = refl
    go HighByte h = absurd (omega arith)
    go Stopped h = absurd (omega arith)

-- ---- byte by byte

-- the reader after the first byte of a word
abbrev pub half_read : Reader → ℕ → Reader
half_read r a = reader HighByte r.count a r.tag r.options

-- the two bytes of a word that may be read so
module _ (r : Reader) (a : ℕ) (some : 0 < words_ahead r) where
  pub low_read : read_of r a ≡ brings More (half_read r a)
  unfolding read_of
  low_read = rw (ahead_low r some)

  pub high_read : (b : ℕ) (bs : List ℕ) → word_of a b ≤ 0x3ff → read_of (half_read r a) b ≡ brings (Word (word_of a b)) (after_words 1 r (a ∷ b ∷ bs))
  unfolding read_of of_high_byte after_words
  high_read b bs ten = rw (le-leb (word_of a b) 0x3ff ten, le-ltb r.count.left 2 (omega (arith, ahead_within r)))

-- a word, and then the others
pub after_step : (n : ℕ) (r : Reader) (a b : ℕ) (bs : List ℕ) → after_words n (after_words 1 r (a ∷ b ∷ bs)) bs ≡ after_words (suc n) r (a ∷ b ∷ bs)
unfolding after_words
after_step zero r a b bs = refl
after_step (suc n) r a b bs =
    let left : r.count.left - 1 - suc n ≡ r.count.left - suc (suc n) = omega arith in
    let last : 2 * suc n ≡ suc (suc (2 * n)) = omega arith in
    rw (left, last)

pub ahead_step : (n : ℕ) (r : Reader) (bs : List ℕ) → suc n ≤ words_ahead r → n ≤ words_ahead (after_words 1 r bs)
unfolding words_ahead after_words
ahead_step n r bs h = omega (arith, ahead_within r)

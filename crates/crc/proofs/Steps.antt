-- The register over bits and words: one step, stretches one after the other, the bits of words.
use mathlib.Core.Path.{◌≡◌, refl, ◌∙◌, sym}
use mathlib.Core.Bool.{Bool}
use mathlib.Core.List.{List, [], ◌∷◌, ◌++◌}
use Prim.Native.Nat.{ℕ, ◌+◌, ◌<◌}
use native.Mathlib.Numerals.{add-one}
use lib.ListN.{length, get_or, drop}
use lib.Seq.{drop-cons, drop-length}
use Rattle.bits.specs.Bits.{bits, word_bits}
use Rattle.crc.specs.Crc.{crc_bit, crc_bits, crc_word, crc_words}

-- ---- a turn of the loop over words, and its end

pub crc_words_step : (r i : ℕ) (ws : List ℕ) → i < length ws → crc_words r (drop i ws) ≡ crc_words (crc_word r (get_or ws i 0)) (drop (i + 1) ws)
unfolding crc_words
crc_words_step r i ws h = rw (add-one, drop-cons ws i 0)

pub crc_words_end : (r i : ℕ) (ws : List ℕ) → i ≡ length ws → crc_words r (drop i ws) ≡ r
unfolding crc_words
crc_words_end r i ws e = rw (e, drop-length)

-- ---- stretches one after the other

pub crc_of_append : (r : ℕ) (xs ys : List Bool) → crc_bits r (xs ++ ys) ≡ crc_bits (crc_bits r xs) ys
unfolding crc_bits
crc_of_append r [] ys = refl
crc_of_append r (x ∷ xs) ys = crc_of_append (crc_bit r x) xs ys

pub crc_words_of_append : (r : ℕ) (ws vs : List ℕ) → crc_words r (ws ++ vs) ≡ crc_words (crc_words r ws) vs
unfolding crc_words
crc_words_of_append r [] vs = refl
crc_words_of_append r (w ∷ ws) vs = crc_words_of_append (crc_word r w) ws vs

-- ---- the register over words is the register over their bits

pub crc_words-bits : (r : ℕ) (ws : List ℕ) → crc_words r ws ≡ crc_bits r (word_bits ws)
unfolding crc_words crc_word crc_bits word_bits
crc_words-bits r [] = refl
crc_words-bits r (w ∷ ws) = crc_words-bits (crc_word r w) ws ∙ sym (crc_of_append r (bits 10 w) (word_bits ws))

-- The register stays below 2^18.
use mathlib.Core.Path.{◌≡◌}
use mathlib.Core.Bool.{Bool, true, false}
use mathlib.Core.List.{List, [], ◌∷◌}
use Prim.Native.Nat.{ℕ, ◌/◌, ◌^◌, ◌<◌}
use native.Mathlib.Omega.{arith}
use lib.Bits.{bit_xor, xor_lt}
use borrow.Author.Tests.{le-leb}
use Rattle.bits.specs.Choice.{if}
use Rattle.bits.specs.Bits.{◌⊕◌, odd, bits}
use Rattle.crc.specs.Crc.{crc_bit, crc_bits, crc_word, crc_words, crc_start, register_ok}

pub crc_bit_range : (r : ℕ) (b : Bool) → r < 2 ^ 18 → crc_bit r b < 2 ^ 18
unfolding crc_bit
crc_bit_range r b h = go (odd r ⊕ b)
  where
    go : (t : Bool) → if t (bit_xor (r / 2) 0x23000) (r / 2) < 2 ^ 18
    go true = xor_lt 18 (r / 2) 0x23000 (omega arith) (omega arith)
    go false = omega arith

pub crc_range : (r : ℕ) (bs : List Bool) → r < 2 ^ 18 → crc_bits r bs < 2 ^ 18
unfolding crc_bits
crc_range r [] h = h
crc_range r (b ∷ bs) h = crc_range (crc_bit r b) bs (crc_bit_range r b h)

pub crc_word_range : (r w : ℕ) → r < 2 ^ 18 → crc_word r w < 2 ^ 18
unfolding crc_word
crc_word_range r w h = crc_range r (bits 10 w) h

pub crc_words_range : (r : ℕ) (ws : List ℕ) → r < 2 ^ 18 → crc_words r ws < 2 ^ 18
unfolding crc_words
crc_words_range r [] h = h
crc_words_range r (w ∷ ws) h = crc_words_range (crc_word r w) ws (crc_word_range r w h)

pub crc_words_ok : (ws : List ℕ) → register_ok (crc_words crc_start ws) ≡ true
crc_words_ok ws = le-leb (crc_words crc_start ws) 0x3ffff (omega (arith, crc_words_range crc_start ws (omega arith)))

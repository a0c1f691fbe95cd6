-- "CRC: X^18+X^5+X^4+1, from zero, each channel alone, lowest bit first."
use Rattle.std.specs.Prelude.{Bool, ◌&&◌, List, [], ◌∷◌, ℕ, ◌/◌, leb, Result, Ok, Err}
use Rattle.std.specs.Int.Bits.{bit_xor}
use Rattle.std.specs.Result.{result_unwrap_or}
use Rattle.bits.specs.Choice.{if}
use Rattle.bits.specs.Bits.{◌⊕◌, odd, bits}
use Rattle.bits.specs.Words.{words10, nine_of}
use Rattle.refusal.specs.declared.Refusal.{Refusal}
use Rattle.refusal.specs.declared.Refusal.TheVariants.{TooHigh}
use Rattle.crc.specs.declared.CrcWords.{CrcWords}

-- "Per bit: if register bit 0 differs from the data bit, shift right by one and xor 23000, else shift right."
unfoldable pub crc_bit : ℕ → Bool → ℕ
crc_bit r b = if (odd r ⊕ b) (bit_xor (r / 2) 0x23000) (r / 2)

-- bit after bit
unfoldable pub crc_bits : ℕ → List Bool → ℕ
crc_bits r [] = r
crc_bits r (b ∷ bs) = crc_bits (crc_bit r b) bs

-- "lowest bit first": the ten bits of a word
unfoldable pub crc_word : ℕ → ℕ → ℕ
crc_word r w = crc_bits r (bits 10 w)

-- word after word
unfoldable pub crc_words : ℕ → List ℕ → ℕ
crc_words r [] = r
crc_words r (w ∷ ws) = crc_words (crc_word r w) ws

-- "from zero"
abbrev pub crc_start : ℕ
crc_start = 0

-- "3: a word or history above 3FF, a carry above 3FFFF"
abbrev pub register_ok : ℕ → Bool
register_ok r = leb r 0x3ffff

-- the register after words, or 3
unfoldable pub ran : ℕ → List ℕ → Result ℕ Refusal
ran r ws = if (register_ok r && words10 ws) (Ok (crc_words r ws)) (Err TooHigh)

-- "CR0 holds register bits 8..0, CR1 bits 17..9; bit 9 is the inverse of bit 8."
abbrev pub cr0 : ℕ → ℕ
cr0 r = nine_of r

abbrev pub cr1 : ℕ → ℕ
cr1 r = nine_of (r / 512)

-- both
abbrev pub crc_pair : ℕ → CrcWords
crc_pair r = record { cr0 = cr0 r; cr1 = cr1 r }

-- the words of a register, or 3
unfoldable pub cr_words : ℕ → Result CrcWords Refusal
cr_words r = if (register_ok r) (Ok (crc_pair r)) (Err TooHigh)

-- .. or zeros, where words are wanted all the same
abbrev pub words_given : ℕ → CrcWords
words_given r = result_unwrap_or (cr_words r) (record { cr0 = 0; cr1 = 0 })

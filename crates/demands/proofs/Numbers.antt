-- The paper's numbers, by computation.
use mathlib.Core.Path.{refl}
use Rattle.bits.specs.Bits.{odd, bits, number, word_bits}
use Rattle.bits.specs.Words.{nine_of}
use Rattle.crc.specs.Crc.{crc_bit, crc_bits, crc_word, crc_words}
use Rattle.cable.specs.Bits.{scrambler, descrambler, nrzi, unnrzi, levels, scrambled, unscrambled, past}
use Rattle.cable.specs.Words.{grouped, scramble_words, unscramble_words}
use Rattle.timing.specs.Xyz.{xyz_of}
use Rattle.scan.specs.Packet.{sum_of, checksum_of}
use Rattle.demands.specs.Numbers.{NumbersHold}

pub numbers : NumbersHold
unfolding NumbersHold odd bits number word_bits nine_of crc_bit crc_bits crc_word crc_words scrambler descrambler nrzi unnrzi levels scrambled unscrambled past grouped scramble_words unscramble_words xyz_of sum_of checksum_of
numbers = refl

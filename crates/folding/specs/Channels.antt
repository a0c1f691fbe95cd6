-- The CRC registers of both channels.
use Rattle.std.specs.Prelude.{List, ℕ}
use Rattle.crc.specs.Crc.{crc_words, crc_start}
use Rattle.folding.specs.declared.Registers.{Registers}

-- "CRC: .., from zero, each channel alone, ..": the registers after the words of Y and C
abbrev pub crc_channels : List ℕ → List ℕ → Registers
crc_channels y c = record { y = crc_words crc_start y; c = crc_words crc_start c }

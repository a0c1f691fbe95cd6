-- "Numbers to hold it to: proved together, one table and a single statement".
use Rattle.std.specs.Prelude.{◌≡◌, List, [], ◌∷◌, map, ℕ, ◌/◌}
use Rattle.bits.specs.Bits.{odd}
use Rattle.crc.specs.Crc.{crc_start, crc_words, cr0, cr1}
use Rattle.cable.specs.Words.{start_history, scramble_words, unscramble_words}
use Rattle.timing.specs.Xyz.{xyz_of}
use Rattle.timing.specs.Line.{ln0_of, ln1_of}
use Rattle.scan.specs.Packet.{right_checksum}

-- the XYZ word of the number F V H
abbrev pub xyz_at : ℕ → ℕ
xyz_at n = xyz_of (odd (n / 4)) (odd (n / 2)) (odd n)

abbrev pub line_at : ℕ → List ℕ
line_at line = ln0_of line ∷ ln1_of line ∷ []

-- the register after words, and its two words
abbrev pub crc_of : List ℕ → List ℕ
crc_of ws = crc_words crc_start ws ∷ cr0 (crc_words crc_start ws) ∷ cr1 (crc_words crc_start ws) ∷ []

abbrev pub packet : List ℕ
packet = 0x000 ∷ 0x3ff ∷ 0x3ff ∷ 0x241 ∷ 0x101 ∷ 0x104 ∷ 0x185 ∷ 0x206 ∷ 0x101 ∷ 0x200 ∷ []

-- what the definitions give, one row a number of the paper
abbrev pub given : List (List ℕ)
given =
    map xyz_at (0 ∷ 1 ∷ 2 ∷ 3 ∷ 4 ∷ 5 ∷ 6 ∷ 7 ∷ [])
    ∷ line_at 1
    ∷ line_at 1125
    ∷ line_at 64
    ∷ scramble_words start_history (0x001 ∷ [])
    ∷ unscramble_words start_history (0x001 ∷ 0x000 ∷ [])
    ∷ crc_of []
    ∷ crc_of (0x200 ∷ [])
    ∷ (right_checksum packet ∷ [])
    ∷ []

-- what the paper prints
abbrev pub printed : List (List ℕ)
printed =
    (0x200 ∷ 0x274 ∷ 0x2ac ∷ 0x2d8 ∷ 0x31c ∷ 0x368 ∷ 0x3b0 ∷ 0x3c4 ∷ [])
    ∷ (0x204 ∷ 0x200 ∷ [])
    ∷ (0x194 ∷ 0x220 ∷ [])
    ∷ (0x100 ∷ 0x200 ∷ [])
    ∷ (0x21f ∷ [])
    ∷ (0x263 ∷ 0x001 ∷ [])
    ∷ (0 ∷ 0x200 ∷ 0x200 ∷ [])
    ∷ (0x23000 ∷ 0x200 ∷ 0x118 ∷ [])
    ∷ (0x2d2 ∷ [])
    ∷ []

unfoldable pub NumbersHold : Type 0
NumbersHold = given ≡ printed

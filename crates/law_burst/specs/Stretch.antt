-- Demand 3 (README), at the row: "In a stretch of cable bits from the first active words of a line through the next line number ..".
use Rattle.std.specs.Prelude.{◌≡◌, Bool, true, false, ◌||◌, List, ◌++◌, ℕ, ◌+◌, ◌*◌, ◌/◌, ◌≤◌, length, take, drop, Some}
use Rattle.bits.specs.Bits.{odd}
use Rattle.crc.specs.Crc.{crc_start, crc_words}
use Rattle.cable.specs.Bits.{unscrambled, past}
use Rattle.cable.specs.Words.{grouped}
use Rattle.cable.specs.Channels.{channel_bits}
use Rattle.raster.specs.Lines.{line_refusal}
use Rattle.plan.specs.declared.Plan.{Plan}
use Rattle.plan.specs.Plan.{plan_of}
use Rattle.row.specs.Before.{Carry}
use Rattle.row.specs.Row.{flags_of}

-- the words of Y (true) or C in unscrambled bits that start with a pair
abbrev pub channel_words : Bool → List Bool → List ℕ
channel_words y bs = grouped (length (channel_bits y 0 bs) / 10) (channel_bits y 0 bs)

-- unscrambled after a history, and "cut at the same place": what follows the bits before
abbrev pub received : ℕ → List Bool → List Bool → List Bool
received h before cable = drop (length before) (unscrambled (past h) (before ++ cable))

-- of a stretch that holds row k's active pairs and then row k+1: row k's carry, from its own received active words
abbrev pub carry_in : Plan → List Bool → Carry
carry_in p bs =
    Some
    (record {
      y = crc_words crc_start (take p.places.count (channel_words true bs));
      c = crc_words crc_start (take p.places.count (channel_words false bs));
    })

-- .. and the flags of row k+1
abbrev pub flags_in : Plan → List Bool → ℕ
flags_in p bs =
    flags_of p (carry_in p bs) (drop p.places.count (channel_words true bs))
    (drop p.places.count (channel_words false bs))

-- "3 Y CRC, 4 C CRC": one of the two is set
abbrev pub crc_flagged : ℕ → Bool
crc_flagged flags = odd (flags / 8) || odd (flags / 16)

-- For every raster and line (code, line: of row k+1), every history h and every number of bits before, so every alignment: a stretch of
-- row k's active pairs and row k+1, and a run m of at most eighteen of its bits changed into n, "the run and the ten bits
-- after it inside the stretch" from row k's first active word to row k+1's second line number word. With both check codes
-- right on the one, "at least one check code is flagged" on the other.
unfoldable pub BurstFlagged : Type 0
BurstFlagged =
    (code line h : ℕ) (before a m n z : List Bool)
    → line_refusal code line ≡ 0
    → length (a ++ (m ++ z)) ≡ 20 * ((plan_of code line).places.count + (plan_of code line).places.total)
    → length m ≡ length n
    → length m ≤ 18
    → (m ≡ n → ⊥)
    → length a + length m + 10 ≤ 20 * ((plan_of code line).places.count + 6)
    → crc_flagged (flags_in (plan_of code line) (received h before (a ++ (m ++ z)))) ≡ false
    → crc_flagged (flags_in (plan_of code line) (received h before (a ++ (n ++ z)))) ≡ true

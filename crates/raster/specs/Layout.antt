-- The layout of a row. All places are counted in units (for HD a pair, one word of each channel) from the row's start.
use Rattle.std.specs.Prelude.{Bool, true, false, List, ◌++◌, ℕ, ◌+◌, ◌-◌, ◌*◌, replicate}
use Rattle.raster.specs.declared.Layout.{Layout}

-- "A row of T pairs: EAV 4, LN 2, CRC 2, blanking T-A-12, SAV 4, active A."
-- The EAV stands at 0; each part follows the one before it.
abbrev pub line_at : Layout → ℕ
line_at l = 4

abbrev pub crc_at : Layout → ℕ
crc_at l = line_at l + l.lines

abbrev pub blank_at : Layout → ℕ
blank_at l = crc_at l + l.checks

abbrev pub sav_at : Layout → ℕ
sav_at l = l.total - l.active - 4

abbrev pub active_at : Layout → ℕ
active_at l = l.total - l.active

-- "blanking T-A-12"
abbrev pub blanks : Layout → ℕ
blanks l = sav_at l - blank_at l

-- "A sync is 20 ones then 40 zeros": unit ones, then twice as many zeros
abbrev pub sync_of : ℕ → List Bool
sync_of unit = replicate unit true ++ replicate (2 * unit) false

-- HD: the unit is a pair of ten-bit words; two line number and two CRC words
abbrev pub hd_unit : ℕ
hd_unit = 20

abbrev pub hd : ℕ → ℕ → Layout
hd total active = record { unit = hd_unit; total = total; active = active; lines = 2; checks = 2 }

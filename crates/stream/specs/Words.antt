-- The words of one stream of a row (a channel) outside its regions: timing codes, line number, CRC; as they should be and as they stand.
use Rattle.std.specs.Prelude.{List, [], ◌∷◌, ◌++◌, ℕ, take}
use Rattle.crc.specs.Crc.{crc_start, crc_words, words_given}
use Rattle.parts.specs.Parts.{part}
use Rattle.plan.specs.declared.Plan.{Plan}
use Rattle.region.specs.Ancillary.{active_of}

-- a timing code, the sync and its XYZ word
abbrev pub trs : ℕ → List ℕ
trs xyz = 0x3ff ∷ 0x000 ∷ 0x000 ∷ xyz ∷ []

-- "Blanking is 040 in Y, 200 in C."
abbrev pub y_blank : ℕ
y_blank = 0x040

abbrev pub c_blank : ℕ
c_blank = 0x200

-- as they should be: line number; EAV and line number, which head the row
abbrev pub line_words_of : Plan → List ℕ
line_words_of p = take p.places.lines (p.codes.ln0 ∷ p.codes.ln1 ∷ [])

abbrev pub head_words : Plan → List ℕ
head_words p = trs p.codes.eav ++ line_words_of p

-- the CRC words of a register (zeros for one above 3FFFF, which no carry in range leads to)
abbrev pub check_words : Plan → ℕ → List ℕ
check_words p r = take p.places.checks ((words_given r).cr0 ∷ (words_given r).cr1 ∷ [])

-- as they stand, "at their fixed places"
abbrev pub eav_of : Plan → List ℕ → List ℕ
eav_of p ws = part 0 4 ws

abbrev pub lines_of : Plan → List ℕ → List ℕ
lines_of p ws = part 4 p.places.lines ws

abbrev pub head_of : Plan → List ℕ → List ℕ
head_of p ws = part 0 p.places.crc ws

abbrev pub checks_of : Plan → List ℕ → List ℕ
checks_of p ws = part p.places.crc p.places.checks ws

abbrev pub sav_of : Plan → List ℕ → List ℕ
sav_of p ws = part p.places.sav 4 ws

-- "Covered words: the active words of the row before, then EAV, LN0, LN1 of this row.": the register, from the one carried
abbrev pub covered_by : Plan → ℕ → List ℕ → ℕ
covered_by p r ws = crc_words r (head_of p ws)

-- "The carry is each channel's CRC register after a row's active words"
abbrev pub register_after : Plan → List ℕ → ℕ
register_after p ws = crc_words crc_start (active_of p ws)

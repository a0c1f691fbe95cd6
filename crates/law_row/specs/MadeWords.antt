-- The words of a stream that are made where a row is built or corrected.
use Rattle.std.specs.Prelude.{Bool, ℕ, drop}
use mathlib.Core.List.{List, [], ◌∷◌, ◌++◌, flat_map}
use Rattle.bits.specs.Choice.{if}
use Rattle.scan.specs.Packet.{checksum_in}
use Rattle.scan.specs.Scan.{Piece, Word, Marker, Packet}
use Rattle.plan.specs.declared.Plan.{Plan}
use Rattle.region.specs.Ancillary.{ancillary}
use Rattle.stream.specs.Words.{eav_of, lines_of, checks_of, sav_of}

-- the XYZ words of EAV and SAV, the line number, and where they are made the CRC words, as they stand
abbrev pub made_words : Plan → Bool → List ℕ → List ℕ
made_words p crc ws = drop 3 (eav_of p ws) ++ (lines_of p ws ++ (drop 3 (sav_of p ws) ++ if crc (checks_of p ws) []))

-- the checksums of the whole packets, as they stand
abbrev pub sum_words : Piece → List ℕ
sum_words (Word w) = []
sum_words Marker = []
sum_words (Packet packet) = checksum_in packet ∷ []

abbrev pub sums_of : Plan → List ℕ → List ℕ
sums_of p ws = flat_map sum_words (ancillary p ws)

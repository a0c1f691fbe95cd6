-- What is laid into a row that has no flag.
use Rattle.std.specs.Prelude.{Bool, not, ◌&&◌, List, ℕ, eqb, length}
use Rattle.parts.specs.Parts.{any}
use Rattle.scan.specs.Packet.{marked, size_of, checksum_in, right_checksum}

-- a whole packet with a right checksum
abbrev pub right_packet : List ℕ → Bool
right_packet p = marked p && (eqb (length p) (size_of p) && eqb (checksum_in p) (right_checksum p))

abbrev pub all_right : List (List ℕ) → Bool
all_right packets = not (any (λ p. not (right_packet p)) packets)

-- An ancillary packet: "000 3FF 3FF, DID, SDID, DC, then DC's low eight bits' worth of user words, then a checksum".
use Rattle.std.specs.Prelude.{Bool, ◌&&◌, List, [], ◌∷◌, ℕ, ◌+◌, ◌%◌, leb, length, get_or, take}
use Rattle.bits.specs.Words.{nine_of}
use Rattle.parts.specs.Parts.{part, same}

-- "000 3FF 3FF"
abbrev pub marker : List ℕ
marker = 0x000 ∷ 0x3ff ∷ 0x3ff ∷ []

-- a packet starts here
unfoldable pub marked : List ℕ → Bool
marked ws = same (take 3 ws) marker

-- "DC's low eight bits' worth of user words"
abbrev pub user_count : List ℕ → ℕ
user_count ws = get_or ws 5 0 % 256

-- "7 + DC words"
abbrev pub size_of : List ℕ → ℕ
size_of ws = user_count ws + 7

-- "A packet whose DC, or whose 7 + DC words, do not fit in the region is cut"
unfoldable pub fits : List ℕ → Bool
fits ws = leb 6 (length ws) && leb (size_of ws) (length ws)

-- "the sum of the low nine bits"
unfoldable pub sum_of : List ℕ → ℕ
sum_of [] = 0
sum_of (w ∷ ws) = w % 512 + sum_of ws

-- "modulo 512, bit 9 the inverse of bit 8"
unfoldable pub checksum_of : List ℕ → ℕ
checksum_of ws = nine_of (sum_of ws % 512)

-- "from DID to the last user word", of a packet
abbrev pub summed : List ℕ → List ℕ
summed packet = part 3 (user_count packet + 3) packet

-- the checksum that a packet should have, and the one that it has
abbrev pub right_checksum : List ℕ → ℕ
right_checksum packet = checksum_of (summed packet)

abbrev pub checksum_in : List ℕ → ℕ
checksum_in packet = get_or packet (user_count packet + 6) 0

-- Words: "A word is held in 16 bits and must be at most 3FF".
use Rattle.std.specs.Prelude.{Bool, true, false, List, [], ◌∷◌, ℕ, ◌+◌, ◌/◌, ◌%◌, leb}
use Rattle.bits.specs.Choice.{if}
use Rattle.bits.specs.Bits.{odd}

-- no word is above 3FF
unfoldable pub words10 : List ℕ → Bool
words10 [] = true
words10 (w ∷ ws) = if (leb w 0x3ff) (words10 ws) false

-- "reserved code (000-003, 3FC-3FF)"
unfoldable pub reserved_code : ℕ → Bool
reserved_code w = if (leb w 0x003) true (if (leb 0x3fc w) (leb w 0x3ff) false)

-- the low nine bits of n, and "bit 9 is the inverse of bit 8"
unfoldable pub nine_of : ℕ → ℕ
nine_of n = n % 512 + if (odd (n / 256)) 0 512

-- Bits as lists, lowest first; words and registers are their numbers.
use Rattle.std.specs.Prelude.{Bool, true, false, not, List, [], ◌∷◌, ◌++◌, ℕ, zero, suc, ◌+◌, ◌*◌, ◌/◌, ◌%◌, eqb}

infixl 60 ◌⊕◌
-- "xor": the bits differ
abbrev pub ◌⊕◌ : Bool → Bool → Bool
◌⊕◌ true b = not b
◌⊕◌ false b = b

-- a bit as a number
abbrev pub digit : Bool → ℕ
digit true = 1
digit false = 0

-- bit 0 of a number
unfoldable pub odd : ℕ → Bool
odd n = eqb (n % 2) 1

-- the k low bits of n, lowest first
unfoldable pub bits : ℕ → ℕ → List Bool
bits zero n = []
bits (suc k) n = odd n ∷ bits k (n / 2)

-- the number with these bits, lowest first
unfoldable pub number : List Bool → ℕ
number [] = 0
number (b ∷ bs) = number bs * 2 + digit b

-- xor, place by place
unfoldable pub xors : List Bool → List Bool → List Bool
xors [] ys = ys
xors (x ∷ xs) [] = x ∷ xs
xors (x ∷ xs) (y ∷ ys) = (x ⊕ y) ∷ xors xs ys

-- "a count of ones"
abbrev pub count : List Bool → ℕ
count [] = 0
count (b ∷ bs) = digit b + count bs

-- ", odd or even": 1 where it is odd
abbrev pub parity : List Bool → Bool
parity bs = odd (count bs)

-- "each lowest bit first": the bits of ten-bit words, one word after the other
unfoldable pub word_bits : List ℕ → List Bool
word_bits [] = []
word_bits (w ∷ ws) = bits 10 w ++ word_bits ws

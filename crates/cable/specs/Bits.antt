-- Cable bits: scramble, then NRZI; and back.
-- A past is the list of earlier bits, the latest first.
use Rattle.std.specs.Prelude.{Bool, false, List, [], ◌∷◌, reverse, ℕ, ◌-◌, get_or}
use Rattle.bits.specs.Bits.{◌⊕◌, bits}

-- x(n-k), k from 1: the bit k before the present one; before all bits of a past there are zeros
abbrev pub ago : ℕ → List Bool → Bool
ago k p = get_or p (k - 1) false

-- "Scramble (X^9+X^4+1): s(n) = d(n) xor s(n-5) xor s(n-9)", after past s
unfoldable pub scrambler : List Bool → List Bool → List Bool
scrambler p [] = []
scrambler p (d ∷ ds) = (d ⊕ ago 5 p ⊕ ago 9 p) ∷ scrambler ((d ⊕ ago 5 p ⊕ ago 9 p) ∷ p) ds

-- "NRZI (X+1): w(n) = s(n) xor w(n-1)", after the cable bit w
unfoldable pub nrzi : Bool → List Bool → List Bool
nrzi w [] = []
nrzi w (s ∷ ss) = (s ⊕ w) ∷ nrzi (s ⊕ w) ss

-- "Unscramble: s(n) = w(n) xor w(n-1);", after the cable bit w
unfoldable pub unnrzi : Bool → List Bool → List Bool
unnrzi w [] = []
unnrzi w (x ∷ xs) = (x ⊕ w) ∷ unnrzi x xs

-- "d(n) = s(n) xor s(n-5) xor s(n-9)", after past s
unfoldable pub descrambler : List Bool → List Bool → List Bool
descrambler p [] = []
descrambler p (s ∷ ss) = (s ⊕ ago 5 p ⊕ ago 9 p) ∷ descrambler (s ∷ p) ss

-- the past s of past cable bits: "s(n) = w(n) xor w(n-1)"; the oldest s, whose w(n-1) is not there, is out of reach of the taps
unfoldable pub levels : List Bool → List Bool
levels [] = []
levels (w ∷ p) = (w ⊕ ago 1 p) ∷ levels p

-- the cable bits of data bits, after past cable bits
unfoldable pub scrambled : List Bool → List Bool → List Bool
scrambled p ds = nrzi (ago 1 p) (scrambler (levels p) ds)

-- the data bits of cable bits, after past cable bits
unfoldable pub unscrambled : List Bool → List Bool → List Bool
unscrambled p ws = descrambler (levels p) (unnrzi (ago 1 p) ws)

-- "A history is the last ten cable bits as one word, oldest lowest": its past
unfoldable pub past : ℕ → List Bool
past h = reverse (bits 10 h)

-- Words taken out of a stretch and xor-ed into those that follow.
use Rattle.std.specs.Prelude.{◌≡◌, List, [], ◌∷◌, ℕ, ◌+◌, ◌<◌, get_or, drop}
use Rattle.std.specs.Int.Bits.{bit_xor}

-- words xor-ed in, place by place, as far as they go
unfoldable pub adds : List ℕ → List ℕ → List ℕ
adds ws [] = ws
adds [] (v ∷ vs) = []
adds (w ∷ ws) (v ∷ vs) = bit_xor w v ∷ adds ws vs

-- words with those that were taken out before them, the last 304, xor-ed in
unfoldable pub loaded : List ℕ → List ℕ → List ℕ
loaded p ws = adds (adds (adds ws p) (drop 128 p)) (drop 152 p)

-- the next word that is taken out, and a list in which so many after the first 304 are that
abbrev pub next : List ℕ → List ℕ → ℕ → ℕ
next words s j = bit_xor (bit_xor (bit_xor (get_or words j 0) (get_or s j 0)) (get_or s (j + 128) 0)) (get_or s (j + 152) 0)

abbrev pub Folded : List ℕ → List ℕ → ℕ → Type 0
Folded words s n = (j : ℕ) → j < n → get_or s (j + 304) 0 ≡ next words s j

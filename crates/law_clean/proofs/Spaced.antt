-- Words of a channel in which a 000 is followed by a 3FF, outside of timing codes.
use mathlib.Core.Path.{◌≡◌, refl}
use mathlib.Core.List.{List, [], ◌∷◌, ◌++◌}
use Prim.Native.Nat.{ℕ}
use native.Mathlib.Omega.{arith}

pub data Spaced : List ℕ → Type 0 where
  done : Spaced []
  word : {w : ℕ} {ws : List ℕ} → (w ≡ 0 → ⊥) → Spaced ws → Spaced (w ∷ ws)
  mark : {ws : List ℕ} → Spaced ws → Spaced (0x000 ∷ 0x3ff ∷ ws)

pub spaced_append : {vs ws : List ℕ} → Spaced vs → Spaced ws → Spaced (vs ++ ws)
spaced_append done s = s
spaced_append (word h r) s = word h (spaced_append r s)
spaced_append (mark r) s = mark (spaced_append r s)

-- after a word that is not 000
pub spaced_after : (w v : ℕ) (ws : List ℕ) → Spaced (w ∷ v ∷ ws) → (w ≡ 0 → v ≡ 0x3ff) × Spaced (v ∷ ws)
spaced_after w v ws (word h r) = (λ e. absurd (h e), r)
spaced_after w v ws (mark r) = (λ e. refl, word full r)
  where
    full : ◌≡◌ {A = ℕ} 0x3ff 0 → ⊥
    full e = omega arith

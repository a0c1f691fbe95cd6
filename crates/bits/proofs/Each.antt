-- A test at every entry of a list, computed once.
use mathlib.Core.Path.{◌≡◌, sym, subst}
use mathlib.Core.Bool.{Bool, true, ◌&&◌}
use mathlib.Core.List.{List, [], ◌∷◌}
use Prim.Native.Nat.{ℕ, zero, suc, ◌+◌, ◌<◌}
use native.Mathlib.Omega.{arith}
use native.Mathlib.Nat.{add-zero, zero-add}
use lib.Dec.{T}
use lib.ListN.{length, get_or}
use Rattle.bits.proofs.Below.{both_left, both_right}

-- the test passes at every entry and its place, counted from i
abbrev pub each_from : {A : Type 0} → (ℕ → A → Bool) → ℕ → List A → Bool
each_from f i [] = true
each_from f i (x ∷ xs) = f i x && each_from f (suc i) xs

from_at : {A : Type 0} (f : ℕ → A → Bool) (xs : List A) (d : A) (i : ℕ) → T (each_from f i xs) → (k : ℕ) → k < length xs → T (f (i + k) (get_or xs k d))
from_at f [] d i t k h = absurd (omega arith)
from_at f (x ∷ xs) d i t zero h = subst (λ (m : ℕ). T (f m x)) (sym (add-zero i)) (both_left (f i x) (each_from f (suc i) xs) t)
from_at f (x ∷ xs) d i t (suc k) h =
    let e : suc i + k ≡ i + suc k = omega arith in
    subst (λ (m : ℕ). T (f m (get_or xs k d))) e (from_at f xs d (suc i) (both_right (f i x) (each_from f (suc i) xs) t) k (omega arith))

-- what passes at every place of a list passes at each below its length
pub each_from_at : {A : Type 0} (f : ℕ → A → Bool) (xs : List A) (d : A) → T (each_from f 0 xs) → (k : ℕ) → k < length xs → T (f k (get_or xs k d))
each_from_at f xs d t k h = subst (λ (m : ℕ). T (f m (get_or xs k d))) (zero-add k) (from_at f xs d 0 t k h)

-- the same where the place does not count
abbrev pub each : {A : Type 0} → (A → Bool) → List A → Bool
each f xs = each_from (λ _ x. f x) 0 xs

pub each_at : {A : Type 0} (f : A → Bool) (xs : List A) (d : A) → T (each f xs) → (k : ℕ) → k < length xs → T (f (get_or xs k d))
each_at f xs d t k h = each_from_at (λ _ x. f x) xs d t k h

-- A test at every entry of two lists side by side, of one length, computed once.
use mathlib.Core.Bool.{Bool, true, false, ◌&&◌}
use mathlib.Core.List.{List, [], ◌∷◌}
use Prim.Native.Nat.{ℕ, zero, suc, ◌<◌}
use native.Mathlib.Nat.{le_of_suc-le-suc, not-suc-le-zero}
use lib.Dec.{T}
use lib.ListN.{length, get_or}
use Rattle.bits.proofs.Below.{both_left, both_right}

abbrev pub each2 : {A B : Type 0} → (A → B → Bool) → List A → List B → Bool
each2 f [] [] = true
each2 f [] (y ∷ ys) = false
each2 f (x ∷ xs) [] = false
each2 f (x ∷ xs) (y ∷ ys) = f x y && each2 f xs ys

pub each2_at : {A B : Type 0} (f : A → B → Bool) (xs : List A) (ys : List B) (d : A) (e : B) → T (each2 f xs ys) → (k : ℕ) → k < length xs
    → T (f (get_or xs k d) (get_or ys k e))
each2_at f [] ys d e t k h = absurd (not-suc-le-zero h)
each2_at f (x ∷ xs) [] d e t k h = absurd t
each2_at f (x ∷ xs) (y ∷ ys) d e t zero h = both_left (f x y) (each2 f xs ys) t
each2_at f (x ∷ xs) (y ∷ ys) d e t (suc k) h = each2_at f xs ys d e (both_right (f x y) (each2 f xs ys) t) k (le_of_suc-le-suc h)

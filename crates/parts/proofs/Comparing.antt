-- Laws of same and any.
use mathlib.Core.Path.{◌≡◌, refl, sym, ap, ◌∙◌}
use mathlib.Core.Bool.{Bool, true, false, ◌&&◌, ◌||◌, or_assoc, or-false}
use mathlib.Core.List.{List, [], ◌∷◌, ◌++◌, map}
use Prim.Native.Nat.{ℕ, zero, suc}
use lib.Dec.{eqb}
use lib.ListN.{replicate}
use borrow.Author.Tests.{eq-eqb, eqb-true}
use Rattle.std.specs.Cmp.Lexicographic.{pointwise}
use Rattle.std.specs.List.{fold, list_any}
use Rattle.bits.specs.Choice.{if}
use Rattle.bits.proofs.Choice.{false_not_true, if_true, or_none}
use Rattle.bits.proofs.Lists.{cons_equal}
use Rattle.parts.specs.Parts.{same, any}

-- ---- same

-- the library's equality of slices
pub pointwise-same : (vs ws : List ℕ) → pointwise eqb vs ws ≡ same vs ws
unfolding same
pointwise-same [] [] = refl
pointwise-same [] (w ∷ ws) = refl
pointwise-same (v ∷ vs) [] = refl
pointwise-same (v ∷ vs) (w ∷ ws) = go (eqb v w) (pointwise-same vs ws)
  where
    go : (b : Bool) → pointwise eqb vs ws ≡ same vs ws → (b && pointwise eqb vs ws) ≡ if b (same vs ws) false
    go true e = e
    go false e = refl

pub same_refl : (ws : List ℕ) → same ws ws ≡ true
unfolding same
same_refl [] = refl
same_refl (w ∷ ws) = rw (eq-eqb w w refl) (same_refl ws)

pub same_true : (vs ws : List ℕ) → same vs ws ≡ true → vs ≡ ws
unfolding same
same_true [] [] e = refl
same_true [] (w ∷ ws) e = absurd (false_not_true e)
same_true (v ∷ vs) [] e = absurd (false_not_true e)
same_true (v ∷ vs) (w ∷ ws) e =
    let both = if_true (eqb v w) (same vs ws) e in
    cons_equal (eqb-true v w both.0) (same_true vs ws both.1)

-- ---- any

-- the library's `any`, and its fold with no early return
pub list_any-any : {A : Type 0} (p : A → Bool) (xs : List A) → list_any p xs ≡ any p xs
unfolding any
list_any-any p [] = refl
list_any-any p (x ∷ xs) = ap (λ (b : Bool). p x || b) (list_any-any p xs)

pub any_fold : {A : Type 0} (p : A → Bool) (found : Bool) (xs : List A) → fold (λ b x. b || p x) found xs ≡ (found || any p xs)
unfolding any
any_fold p found [] = sym (or-false found)
any_fold p found (x ∷ xs) = any_fold p (found || p x) xs ∙ or_assoc found (p x) (any p xs)

pub any_of_append : {A : Type 0} (p : A → Bool) (xs ys : List A) → any p (xs ++ ys) ≡ (any p xs || any p ys)
unfolding any
any_of_append p [] ys = refl
any_of_append p (x ∷ xs) ys = go (p x) (any_of_append p xs ys)
  where
    go : (b : Bool) → any p (xs ++ ys) ≡ (any p xs || any p ys) → (b || any p (xs ++ ys)) ≡ (b || any p xs || any p ys)
    go true e = refl
    go false e = e

pub any_cons : {A : Type 0} (p : A → Bool) (x : A) (xs : List A) → any p (x ∷ xs) ≡ false → (p x ≡ false) × (any p xs ≡ false)
unfolding any
any_cons p x xs e = or_none (p x) (any p xs) e

pub any_weaken : {A : Type 0} (p q : A → Bool) → ((x : A) → p x ≡ false → q x ≡ false) → (xs : List A) → any p xs ≡ false → any q xs ≡ false
unfolding any
any_weaken p q w [] e = refl
any_weaken p q w (x ∷ xs) e =
    let b = any_cons p x xs e in
    rw (w x b.0) (any_weaken p q w xs b.1)

pub any_of_map : {A B : Type 0} (p : B → Bool) (f : A → B) (xs : List A) → any p (map f xs) ≡ any (λ x. p (f x)) xs
unfolding any
any_of_map p f [] = refl
any_of_map p f (x ∷ xs) = ap (λ (b : Bool). p (f x) || b) (any_of_map p f xs)

pub any_of_replicate : {A : Type 0} (p : A → Bool) (n : ℕ) (x : A) → p x ≡ false → any p (replicate n x) ≡ false
unfolding any
any_of_replicate p zero x e = refl
any_of_replicate p (suc n) x e = rw e (any_of_replicate p n x e)

-- The number of an answer that is told by tests.
use mathlib.Core.Path.{◌≡◌, refl}
use mathlib.Core.Bool.{Bool, true, false, ◌||◌}
use Prim.Native.Nat.{ℕ}
use Rattle.bits.specs.Choice.{if}

module _ {A : Type 0} (number : A → ℕ) where
  pub of_test : (t : Bool) (x y : A) → number (if t x y) ≡ if t (number x) (number y)
  of_test true x y = refl
  of_test false x y = refl

  pub of_tests : (t u : Bool) (x y z : A) → number (if t (if u x y) z) ≡ if t (if u (number x) (number y)) (number z)
  of_tests true u x y z = of_test u x y
  of_tests false u x y z = refl

  -- where the second test leads to no refusal
  pub of_either : (t u : Bool) (x y z : A) → number x ≡ 0 → number y ≡ 0 → number (if t (if u x y) z) ≡ if t 0 (number z)
  of_either true true x y z ex ey = ex
  of_either true false x y z ex ey = ey
  of_either false u x y z ex ey = refl

  -- where either test suffices
  pub of_any : (t u : Bool) (x y z : A) → number x ≡ 0 → number y ≡ 0 → number (if t x (if u y z)) ≡ if (t || u) 0 (number z)
  of_any true u x y z ex ey = ex
  of_any false true x y z ex ey = ey
  of_any false false x y z ex ey = refl

-- A fact of each number below a bound, by one computed test.
use mathlib.Core.Path.{◌≡◌, subst}
use mathlib.Core.Bool.{Bool, true, false, ◌&&◌}
use Prim.Native.Nat.{ℕ, zero, suc, ◌<◌}
use native.Mathlib.Omega.{arith}
use native.Mathlib.Decide.{dec_lt}
use lib.Dec.{T}

pub both_left : (a b : Bool) → T (a && b) → T a
both_left true b t = tt
both_left false b t = t

pub both_right : (a b : Bool) → T (a && b) → T b
both_right true b t = t
both_right false b t = absurd t

-- the test passes at each number below n
abbrev pub all : (ℕ → Bool) → ℕ → Bool
all f zero = true
all f (suc n) = f n && all f n

pub below : (f : ℕ → Bool) (n : ℕ) → T (all f n) → (k : ℕ) → k < n → T (f k)
below f zero t k h = absurd (omega arith)
below f (suc n) t k h = go (λ l. below f n (both_right (f n) (all f n) t) k l) (dec_lt k n)
  where
    go : (k < n → T (f k)) → Dec (k < n) → T (f k)
    go less (yes l) = less l
    go less (no g) = let e : n ≡ k = omega arith in subst (λ (m : ℕ). T (f m)) e (both_left (f n) (all f n) t)

-- a test that passes at both bools passes at each
abbrev pub every : (Bool → Bool) → Bool
every t = t true && t false

pub every_at : (t : Bool → Bool) → T (every t) → (b : Bool) → T (t b)
every_at t p true = both_left (t true) (t false) p
every_at t p false = both_right (t true) (t false) p

-- Laws of Bool and of a case by a test.
use mathlib.Core.Path.{◌≡◌, refl, sym}
use mathlib.Core.Bool.{Bool, true, false, ◌&&◌, ◌||◌, false≢true}
use Prim.Native.Nat.{ℕ, zero, suc, ◌≤◌}
use native.Mathlib.Omega.{arith}
use mir.Val.{bool_byte}
use Rattle.std.specs.Prelude.{Some}
use Rattle.bits.specs.Choice.{if, unless_zero}

pub false_not_true : false ≡ true → ⊥
false_not_true e = false≢true e

pub and-true : (a b : Bool) → (a && b) ≡ true → (a ≡ true) × (b ≡ true)
and-true true b e = (refl, e)
and-true false b e = absurd (false_not_true e)

pub or_none : (a b : Bool) → (a || b) ≡ false → (a ≡ false) × (b ≡ false)
or_none true b e = absurd (false_not_true (sym e))
or_none false b e = (refl, e)

pub if_true : (b x : Bool) → if b x false ≡ true → (b ≡ true) × (x ≡ true)
if_true true x e = (refl, e)
if_true false x e = absurd (false_not_true e)

-- no refusal, so the test held
pub if_zero : (b : Bool) (x n : ℕ) → if b x (suc n) ≡ 0 → (b ≡ true) × (x ≡ 0)
if_zero true x n e = (refl, e)
if_zero false x n e = absurd (omega arith)

-- a cast of a bool
pub bool_le : (b : Bool) → bool_byte b ≤ 1
bool_le true = omega arith
bool_le false = omega arith

-- what holds at each of the eight triples holds at every one
pub by_three :
    (P : Bool → Bool → Bool → Type 0)
    → P false false false → P false false true → P false true false → P false true true
    → P true false false → P true false true → P true true false → P true true true
    → (a b c : Bool) → P a b c
by_three P p0 p1 p2 p3 p4 p5 p6 p7 false false false = p0
by_three P p0 p1 p2 p3 p4 p5 p6 p7 false false true = p1
by_three P p0 p1 p2 p3 p4 p5 p6 p7 false true false = p2
by_three P p0 p1 p2 p3 p4 p5 p6 p7 false true true = p3
by_three P p0 p1 p2 p3 p4 p5 p6 p7 true false false = p4
by_three P p0 p1 p2 p3 p4 p5 p6 p7 true false true = p5
by_three P p0 p1 p2 p3 p4 p5 p6 p7 true true false = p6
by_three P p0 p1 p2 p3 p4 p5 p6 p7 true true true = p7

pub some_unless_zero : (n : ℕ) → 1 ≤ n → unless_zero n ≡ Some n
some_unless_zero zero h = absurd (omega arith)
some_unless_zero (suc n) h = refl

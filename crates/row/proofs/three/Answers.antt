use mathlib.Core.Path.{◌≡◌, refl}
use mathlib.Core.Bool.{Bool}
use mathlib.Core.List.{[], ◌∷◌}
use Prim.Native.Nat.{◌+◌, ◌*◌, ◌≤◌}
use native.Mathlib.Omega.{arith}
use mir.Val.{bool_byte}
use Rattle.bits.specs.Bits.{number}
use Rattle.bits.proofs.Choice.{bool_le, by_three}
use Rattle.row.proofs.three.Goals as goal
use Rattle.row.proofs.three.Goals.{Start}

small : (c : Start) → (bool_byte c.args.low ≤ 1) × (bool_byte c.args.middle ≤ 1) × (bool_byte c.args.high ≤ 1)
small c = (bool_le c.args.low, bool_le c.args.middle, bool_le c.args.high)

counted : (l m h : Bool) → bool_byte l + bool_byte m * 2 + bool_byte h * 4 ≡ number (l ∷ m ∷ h ∷ [])
unfolding number
counted = by_three (λ l m h. bool_byte l + bool_byte m * 2 + bool_byte h * 4 ≡ number (l ∷ m ∷ h ∷ [])) refl refl refl refl refl refl refl refl

pub overflow_mul-result : goal.overflow_mul-result
overflow_mul-result c = omega (arith, small (goal.at.overflow_mul-result c).Start)

pub overflow_add-result : goal.overflow_add-result
overflow_add-result c = omega (arith, small (goal.at.overflow_add-result c).Start)

pub overflow_mul-result-2 : goal.overflow_mul-result-2
overflow_mul-result-2 c = omega (arith, small (goal.at.overflow_mul-result-2 c).Start)

pub overflow_add-result-2 : goal.overflow_add-result-2
overflow_add-result-2 c = omega (arith, small (goal.at.overflow_add-result-2 c).Start)

pub returns : goal.returns
returns c = (counted c.args.low c.args.middle c.args.high, omega (arith, small (goal.at.returns c).Start))

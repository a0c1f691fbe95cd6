use Prim.Native.Nat.{◌≤◌}
use native.Mathlib.Omega.{arith}
use mir.Val.{bool_byte}
use Rattle.bits.proofs.Choice.{bool_le}
use Rattle.timing.proofs.Codes.{xyz_counted}
use Rattle.timing.proofs.xyz.Goals as goal
use Rattle.timing.proofs.xyz.Goals.{Start}

small : (c : Start) → (bool_byte c.args.f ≤ 1) × (bool_byte c.args.v ≤ 1) × (bool_byte c.args.h ≤ 1)
small c = (bool_le c.args.f, bool_le c.args.v, bool_le c.args.h)

pub overflow_mul-k : goal.overflow_mul-k
overflow_mul-k c = omega (arith, small (goal.at.overflow_mul-k c).Start)

pub overflow_mul-k-2 : goal.overflow_mul-k-2
overflow_mul-k-2 c = omega (arith, small (goal.at.overflow_mul-k-2 c).Start)

pub overflow_add-k : goal.overflow_add-k
overflow_add-k c = omega (arith, small (goal.at.overflow_add-k c).Start)

pub overflow_add-k-2 : goal.overflow_add-k-2
overflow_add-k-2 c = omega (arith, small (goal.at.overflow_add-k-2 c).Start)

pub overflow_mul-result : goal.overflow_mul-result
overflow_mul-result c = omega (arith, small (goal.at.overflow_mul-result c).Start)

pub overflow_add-result : goal.overflow_add-result
overflow_add-result c = omega (arith, small (goal.at.overflow_add-result c).Start)

pub overflow_add-result-2 : goal.overflow_add-result-2
overflow_add-result-2 c = omega (arith, small (goal.at.overflow_add-result-2 c).Start)

pub overflow_add-result-3 : goal.overflow_add-result-3
overflow_add-result-3 c = omega (arith, small (goal.at.overflow_add-result-3 c).Start)

pub overflow_add-result-4 : goal.overflow_add-result-4
overflow_add-result-4 c = omega (arith, small (goal.at.overflow_add-result-4 c).Start)

pub overflow_add-result-5 : goal.overflow_add-result-5
overflow_add-result-5 c = omega (arith, small (goal.at.overflow_add-result-5 c).Start)

pub overflow_cast-result : goal.overflow_cast-result
overflow_cast-result c = omega (arith, small (goal.at.overflow_cast-result c).Start)

pub returns : goal.returns
returns c = xyz_counted c.args.f c.args.v c.args.h

use native.Mathlib.Omega.{arith}
use Rattle.bits.specs.Bits.{number}
use Rattle.row.specs.Row.{joined}
use Rattle.row.proofs.join.Goals as goal

pub returns : goal.returns
unfolding joined number
returns c =
    omega (arith, c.three-rest.ensures.0, c.three-sums.ensures.0, c.three-codes.ensures.0)

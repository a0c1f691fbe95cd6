-- walk: a round of what is taken ahead and one byte more.
use mathlib.Core.Path.{sym}
use native.Mathlib.Omega.{arith}
use Rattle.desk.proofs.Walking.{walked_step}
use Rattle.desk.proofs.Desk.walk.Goals as goal

pub loop-walk-preserved : goal.loop-walk-preserved
loop-walk-preserved c =
    let e = c.turn-outcome.ensures in (
      omega (arith, c.hasten-at.ensures.within),
      walked_step _ _ _ _ _ _ _ _ _ _ c.loop-walk.invariant.1 c.loop-walk-test.true (sym c.if-is_nothing.ensures) c.hasten-at.ensures e.answer e.yrow e.crow,
    )

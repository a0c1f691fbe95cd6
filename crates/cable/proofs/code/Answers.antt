-- code: a turn adds a step.
use mathlib.Core.Path.{refl}
use mathlib.Core.List.{[]}
use native.Mathlib.Omega.{arith}
use Rattle.cable.specs.Stepwise.{none}
use Rattle.cable.proofs.Coding.{stepwise_turn, stepwise_end}
use Rattle.cable.proofs.code.Goals as goal

pub loop-i-init : goal.loop-i-init
loop-i-init g c = ([], none, refl)

pub loop-i-preserved : goal.loop-i-preserved
loop-i-preserved g c = stepwise_turn _ _ _ c.loop-i.invariant (omega arith) (omega arith) c.step.ensures

pub returns : goal.returns
returns g c = stepwise_end _ _ _ c.loop-i.invariant (omega arith)

use mathlib.Core.Path.{refl}
use native.Mathlib.Omega.{arith}
use Rattle.cable.specs.Channels.{paired}
use Rattle.use_row.proofs.Parting.{parting_end, parting_step}
use Rattle.use_row.proofs.shows.parted.Goals as goal

pub loop-i-init : goal.loop-i-init
unfolding paired
loop-i-init c = refl

pub loop-i-preserved : goal.loop-i-preserved
loop-i-preserved c =
    parting_step c.args.words.now c.loop-i.y c.loop-i.c (omega arith) c.loop-i.i c.loop-i.invariant (omega arith) (omega arith)

pub returns : goal.returns
returns c = λ _ whole.
    (refl, parting_end c.args.words.now c.loop-i.y c.loop-i.c (omega arith) c.loop-i.i c.loop-i.invariant (omega arith) (omega (arith, whole)))

use mathlib.Core.Path.{◌≡◌}
use lib.ListN.{length}
use Rattle.bits.specs.Bits.{word_bits}
use Rattle.laying.specs.Laying.{laid_by}
use Rattle.stepper.specs.Step.{run, steps}
use Rattle.taking.specs.Hurry.{gone_on}
use Rattle.taking.proofs.take_block.Given as goal

-- take_block: the words that are left give what all give.
abbrev pub invariant-loop-left : goal.invariant-loop-left
invariant-loop-left l = steps laid_by l.raster l.total (word_bits l.block.words.now) (run l.initial.s l.initial.y l.initial.c) ≡ gone_on l.raster l.total l.left.words.now (run l.s l.y l.c)

abbrev pub decreases-loop-left : goal.decreases-loop-left
decreases-loop-left l = length l.left.words.now

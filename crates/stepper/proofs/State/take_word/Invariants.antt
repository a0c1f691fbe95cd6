use mathlib.Core.Path.{◌≡◌}
use Rattle.bits.specs.Bits.{bits}
use Rattle.laying.specs.Laying.{laid_by}
use Rattle.stepper.specs.Step.{run, steps}
use Rattle.stepper.proofs.State.take_word.Given as goal

-- take_word: what the bits so far give.
abbrev pub invariant-loop-bit : goal.invariant-loop-bit
invariant-loop-bit l =
    run l.state l.y l.c ≡ steps laid_by l.raster l.total (bits l.bit l.word) (run l.initial.state l.initial.y l.initial.c)

use Rattle.std.proofs.Common.{◌≡◌, take}
use Rattle.folding.specs.Folding.{Folded}
use Rattle.folding.proofs.fold_block.Given as goal

-- `fold_block`: a store leaves what stands before it, and adds the next word that is taken out.
abbrev pub invariant-loop-i : goal.invariant-loop-i
invariant-loop-i l = (take 304 l.s ≡ take 304 l.initial.s) × Folded l.words l.s l.i

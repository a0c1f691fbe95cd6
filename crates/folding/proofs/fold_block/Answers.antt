-- `fold_block`: a store leaves what stands before it, and adds the next word that is taken out.
use Rattle.std.proofs.Common.{arith, ◌+◌, ◌∙◌}
use Rattle.std.proofs.Math.Seq.{take-set-le}
use Rattle.folding.proofs.Folding.{folded_step}
use Rattle.folding.proofs.fold_block.Goals as goal

pub loop-i-preserved : goal.loop-i-preserved
loop-i-preserved c =
    let at = c.loop-i in
    (take-set-le 304 at.s (at.i + 304) _ (omega arith) ∙ at.invariant.0, folded_step c.args.words.now at.s at.i (omega arith) at.invariant.1)

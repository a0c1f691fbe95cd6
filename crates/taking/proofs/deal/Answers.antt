-- deal: the pairs so far are dealt; no word is above 3FF.
use mathlib.Core.Path.{refl}
use Prim.Native.Nat.{◌+◌, ◌*◌}
use native.Mathlib.Omega.{arith}
use Rattle.taking.proofs.Dealing.{dealt_one}
use Rattle.taking.proofs.deal.Goals as goal

pub loop-k-preserved : goal.loop-k-preserved
loop-k-preserved c =
    let at = c.loop-k in
    let ws = c.args.block.words.now in
    let from = c.args.from in
    let k = 2 * at.k in
    let y = c.args.y.now in
    let c' = c.args.c.now in (
      dealt_one ws 1 from (k + 1) (2 * (at.k + 1)) y (dealt_one ws 1 from k (k + 1) y at.invariant.0 refl (omega arith) (omega arith)) (omega arith) (omega arith) (omega arith),
      dealt_one ws 0 from (k + 1) (2 * (at.k + 1)) c' (dealt_one ws 0 from k (k + 1) c' at.invariant.1 refl (omega arith) (omega arith)) (omega arith) (omega arith) (omega arith),
    )

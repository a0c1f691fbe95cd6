-- last_after: what all pairs leave, or the last three of them, of which that is left.
use mathlib.Core.Path.{◌≡◌, sym, ◌∙◌}
use Prim.Native.Nat.{◌-◌, ◌*◌}
use native.Mathlib.Omega.{arith}
use lib.ListN.{drop}
use Rattle.bits.proofs.Words.{tens_drop}
use Rattle.taking.proofs.Words.{last_none, last_turn, last_ended}
use Rattle.taking.proofs.tens.Block.last_after.Goals as goal

pub loop-k-init : goal.loop-k-init
loop-k-init c =
    let k = c.args.pairs - 3 in
    let ws = c.args.self.words.now in
    let e : c.saturating_sub-k.result - k ≡ 0 = omega arith in
    rw e (sym (last_none (drop (2 * k) ws) (tens_drop (2 * k) ws c.args.self.tens) c.args.last.bits))

pub loop-k-preserved : goal.loop-k-preserved
loop-k-preserved c =
    let at = c.loop-k in
    let block = c.args.self in
    last_turn block.words.now block.tens c.args.last.bits (c.args.pairs - 3) at.k (omega arith) (omega arith) at.invariant c.slide-l.ensures

pub returns : goal.returns
returns c =
    let at = c.loop-k in
    let block = c.args.self in
    let e : at.k ≡ c.args.pairs = omega arith in
    at.invariant ∙ rw e (last_ended block.words.now block.tens c.args.last.bits c.args.pairs c.requires c.args.last.sixty)

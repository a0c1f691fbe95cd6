-- calm_pairs: all pairs where no two neighbours are zeros, else as far as each was found calm.
use mathlib.Core.Path.{sym, ap, subst, ◌∙◌}
use Prim.Native.Nat.{ℕ, ◌+◌, ◌*◌, ◌/◌}
use native.Mathlib.Omega.{arith}
use Rattle.taking.specs.Hurry.{Calm}
use Rattle.taking.proofs.Words.{pair_at, last_next, last_none}
use Rattle.taking.proofs.Gaps.{calm_more, calm_no_gap}
use Rattle.taking.proofs.tens.Block.calm_pairs.Goals as goal

pub returns-then-not-has_gap : goal.returns-then-not-has_gap
returns-then-not-has_gap c =
    let block = c.args.self in
    let calm = c.is_calm.ensures (c.if-not-is_calm.false) in
    (omega arith, calm_no_gap block.words.now block.tens c.args.last.bits c.args.most calm (c.has_gap.ensures (c.if-not-has_gap.true)) c.requires)

pub loop-k-init : goal.loop-k-init
loop-k-init c = (sym (last_none c.args.self.words.now c.args.self.tens c.args.last.bits), λ k h. absurd (omega arith))

pub loop-k-preserved : goal.loop-k-preserved
loop-k-preserved c =
    let at = c.loop-k in
    let ws = c.args.self.words.now in
    let tens = c.args.self.tens in
    let last = c.args.last.bits in
    let calm = c.is_calm-in-loop-k.ensures (c.if-not-is_calm-2.false) in (
      c.slide-l.ensures ∙ ap (λ (n : ℕ). n / 0x100000 + pair_at ws tens (2 * at.k) * 0x10000000000) at.invariant.0 ∙ sym (last_next ws tens last at.k (omega arith)),
      calm_more ws tens last at.k at.invariant.1 (subst Calm at.invariant.0 calm),
    )

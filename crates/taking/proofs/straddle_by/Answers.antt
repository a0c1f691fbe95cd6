-- straddle_by: every word so far is cut so.
use mathlib.Core.Path.{◌≡◌, ap, ◌∙◌}
use Prim.Native.Nat.{◌+◌, ◌-◌, ◌*◌, ◌/◌, ◌%◌, ◌^◌}
use native.Mathlib.Omega.{arith}
use lib.ListN.{get_or, set}
use lib.Seq.{get_or-set_same, get_or-set_other}
use borrow.Author.Count.{below_more}
use Rattle.bits.proofs.Words.{words10_at}
use Rattle.taking.specs.Deal.{straddling}
use Rattle.taking.proofs.Straddling.{joins}
use Rattle.taking.proofs.straddle_by.Goals as goal

pub loop-i-preserved : goal.loop-i-preserved
loop-i-preserved g c =
    let at = c.loop-i in
    let words = c.args.block.words.now in
    let up = g.row.UP in
    let n = at.i - 1 in
    let v = get_or words n 0 / 2 ^ (10 - up) + get_or words at.i 0 * 2 ^ up % 65536 % 1024 in
    let e : at.i ≡ n + 1 = omega arith in
    let low = words10_at words n c.args.block.tens (omega arith) in
    let joined = joins up (10 - up) (omega arith) (get_or words n 0) (get_or words at.i 0) low ∙ ap (λ m. (get_or words n 0 + get_or words m 0 * 1024) / 2 ^ (10 - up) % 1024) e in
    λ j h.
    below_more (λ m. get_or (set at.out n v) m 0 ≡ straddling words m up) n
    (λ m b. get_or-set_other at.out n m v 0 (λ f. omega arith) ∙ at.invariant m (omega arith)) (get_or-set_same at.out n v 0 (omega arith) ∙ joined) j (omega arith)

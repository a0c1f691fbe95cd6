use mathlib.Core.Path.{◌≡◌, refl, sym, ◌∙◌}
use mathlib.Core.Bool.{true, false}
use native.Mathlib.Omega.{arith}
use Rattle.scan.specs.Scan.{Packet}
use Rattle.finding.specs.Find.{wanted, found}
use Rattle.finding.proofs.Walk.{NextWhole, next_whole, none_whole}
use Rattle.finding.proofs.find_in.Goals as goal
use Rattle.finding.proofs.find_in.Goals.{After-part-packet}

-- no packet before the next whole one is wanted
next : (c : After-part-packet) → NextWhole (found c.args.did c.args.sdid) c.args.region.now c.loop-place.next c.in-Some.place.end c.part-packet.result.now
unfolding found
next c = next_whole (found c.args.did c.args.sdid) (λ w ps. refl) (λ ps. refl) _ _ c.in-Some.ensures.found c.len.ensures.value c.part-packet.ensures

pub is_wanted-requires : goal.is_wanted-requires
is_wanted-requires c = (next (goal.at.is_wanted-requires c).After-part-packet).seven

pub returns-then-is_wanted : goal.returns-then-is_wanted
unfolding found
returns-then-is_wanted c =
    let n = next (goal.at.returns-then-is_wanted c).After-part-packet in
    let right : wanted c.args.did c.args.sdid (Packet c.part-packet.result.now) ≡ true = sym c.is_wanted.ensures ∙ c.if-is_wanted.true in
    (sym (c.loop-place.invariant ∙ n.same ∙ rw right), omega (arith, n.seven))

pub loop-place-smaller : goal.loop-place-smaller
loop-place-smaller c = omega (arith, next (goal.at.loop-place-smaller c).After-part-packet)

pub loop-place-preserved : goal.loop-place-preserved
unfolding found
loop-place-preserved c =
    let n = next (goal.at.loop-place-preserved c).After-part-packet in
    let other : wanted c.args.did c.args.sdid (Packet c.part-packet.result.now) ≡ false = sym c.is_wanted.ensures ∙ c.if-is_wanted.false in
    c.loop-place.invariant ∙ n.same ∙ rw other

pub returns : goal.returns
unfolding found
returns c = c.loop-place.invariant ∙ none_whole (found c.args.did c.args.sdid) (λ w ps. refl) (λ ps. refl) _ _ c.in_default.ensures.found

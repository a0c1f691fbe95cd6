use mathlib.Core.Path.{◌≡◌, refl, sym, ap, ◌∙◌}
use mathlib.Core.List.{List, [], flat_map}
use Prim.Native.Nat.{ℕ, ◌+◌}
use native.Mathlib.Omega.{arith}
use native.Mathlib.Nat.{add-zero}
use lib.ListN.{length, drop, length-append}
use Rattle.parts.specs.Parts.{laid}
use Rattle.parts.proofs.Laid.{laid_of_append}
use Rattle.scan.specs.Scan.{packets_of, scan}
use Rattle.finding.proofs.Walk.{NextWhole, next_whole, none_whole}
use Rattle.finding.proofs.copy_region.Goals as goal
use Rattle.finding.proofs.copy_region.Goals.{After-part-packet, In_default}

next : (c : After-part-packet) → NextWhole packets_of c.args.region.now c.loop-place.next c.in-Some.place.end c.part-packet.result.now
unfolding packets_of flat_map
next c = next_whole packets_of (λ w ps. refl) (λ ps. refl) _ _ c.in-Some.ensures.found c.len.ensures.value c.part-packet.ensures

longer : (c : After-part-packet)
    → length (packets_of (scan (drop c.loop-place.next c.args.region.now)))
    ≡ length c.part-packet.result.now + length (packets_of (scan (drop c.in-Some.place.end c.args.region.now)))
unfolding packets_of flat_map
longer c = ap length (next c).same ∙ length-append _ _

none : (c : In_default) → packets_of (scan (drop c.loop-place.next c.args.region.now)) ≡ packets_of []
unfolding packets_of flat_map
none c = none_whole packets_of (λ w ps. refl) (λ ps. refl) _ _ c.in_default.ensures.found

pub loop-place-smaller : goal.loop-place-smaller
loop-place-smaller c = omega (arith, next (goal.at.loop-place-smaller c).After-part-packet)

pub loop-place-preserved : goal.loop-place-preserved
unfolding packets_of flat_map
loop-place-preserved c =
    let inv = c.loop-place.invariant in
    let here = (goal.at.loop-place-preserved c).After-part-packet in (
      c.lay.auto.buffer ∙ inv.0,
      omega (arith, longer here, inv.1),
      inv.2
          ∙ ap (λ (ws : List ℕ). laid c.loop-place.at ws c.loop-place.out) (next here).same
          ∙ laid_of_append c.loop-place.at c.part-packet.result.now _ c.loop-place.out
          ∙ rw c.lay.ensures,
    )

pub returns : goal.returns
unfolding packets_of flat_map laid
returns c =
    let inv = c.loop-place.invariant in
    let end = none (goal.at.returns c).In_default in
    record { answer = sym (inv.1 ∙ rw (end, add-zero)); buffer = sym (inv.2 ∙ rw end) }

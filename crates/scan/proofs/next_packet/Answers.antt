use mathlib.Core.Path.{sym, ◌∙◌}
use native.Mathlib.Omega.{arith}
use Rattle.parts.proofs.Inside.{length_part}
use Rattle.scan.specs.declared.Here.TheVariants.{Nothing, Cut, Whole}
use Rattle.scan.specs.Scan.{next_packet}
use Rattle.scan.proofs.Pieces.{scan-turn, scan_end}
use Rattle.scan.proofs.next_packet.Goals as goal

pub loop-at-preserved-in-Nothing : goal.loop-at-preserved-in-Nothing
unfolding next_packet
loop-at-preserved-in-Nothing c =
    (omega arith, c.loop-at.invariant.1 ∙ rw (scan-turn _ _ Nothing c.loop-at-test.true (sym c.in-Nothing.ensures)).next)

pub loop-at-preserved : goal.loop-at-preserved
unfolding next_packet
loop-at-preserved c = (omega arith, c.loop-at.invariant.1 ∙ rw (scan-turn _ _ Cut c.loop-at-test.true (sym c.in-Cut.ensures)).next)

pub overflow_add-result : goal.overflow_add-result
overflow_add-result c = omega (arith, scan-turn _ _ (Whole c.in-Whole.size) c.loop-at-test.true (sym c.in-Whole.ensures))

pub returns-in-Whole : goal.returns-in-Whole
unfolding next_packet
returns-in-Whole c =
    let t = scan-turn _ _ (Whole c.in-Whole.size) c.loop-at-test.true (sym c.in-Whole.ensures) in
    record {
      found = sym (c.loop-at.invariant.1 ∙ rw (t.next, length_part c.loop-at.at c.in-Whole.size c.args.region.now t.room));
      place = (c.loop-at.invariant.0, omega (arith, t.least), t.room);
    }

pub returns-clause-found : goal.returns-clause-found
unfolding next_packet
returns-clause-found c = sym (c.loop-at.invariant.1 ∙ rw (scan_end _ _ c.loop-at-test.false))

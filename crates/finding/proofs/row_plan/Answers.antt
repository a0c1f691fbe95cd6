use mathlib.Core.Path.{sym, ◌∙◌}
use Rattle.refusal.proofs.Answers.{result_of_ok}
use Rattle.plan.specs.Plan.{planned}
use Rattle.plan.proofs.Rows.{row_refusal_ok}
use Rattle.finding.proofs.row_plan.Goals as goal

pub returns : goal.returns
unfolding planned
returns c =
    let ok = (result_of_ok (tt {0}) _ (sym c.in_ok-row_refusal.ensures)).0 in
    c.plan_of.ensures ∙ rw (ok, (row_refusal_ok _ _ _ _ ok).ok)

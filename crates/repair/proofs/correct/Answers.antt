use mathlib.Core.Path.{◌≡◌, sym}
use Rattle.std.proofs.lemmas.Result.{err_from_is_err_and}
use Rattle.bits.proofs.Clauses.{answer_luma_chroma}
use Rattle.refusal.proofs.Answers.{result_of_ok, result_of_bad, result_of_err}
use Rattle.parts.proofs.Laid.{unless_refused-refused}
use Rattle.raster.specs.Lines.{line_refusal}
use Rattle.plan.proofs.Plans.{planned_ok, planned_err}
use Rattle.plan.proofs.Rows.{row_refusal_ok}
use Rattle.row.specs.Row.{check_refusal}
use Rattle.row.proofs.Rows.{check_refusal_ok}
use Rattle.repair.specs.Answer.{corrected}
use Rattle.repair.proofs.correct.Goals as goal
use Rattle.repair.proofs.correct.Goals.{In_ok-check_refusal}

-- past the first `?` the row is not refused, and so its raster and line are right
taken : (c : In_ok-check_refusal)
    → let at = c.args in
    (check_refusal at.raster at.line at.carry at.y.now at.c.now ≡ 0) × (line_refusal at.raster at.line ≡ 0)
taken c =
    let at = c.args in
    let ok = (result_of_ok (tt {0}) (check_refusal at.raster at.line at.carry at.y.now at.c.now) (sym c.in_ok-check_refusal.ensures)).0 in
    (ok, (row_refusal_ok at.raster at.line _ _ (check_refusal_ok at.raster at.line at.carry _ _ ok).0).ok)

pub returns-in_err-check_refusal : goal.returns-in_err-check_refusal
unfolding corrected
returns-in_err-check_refusal c =
    let at = c.args in
    let n = check_refusal at.raster at.line at.carry at.y.now at.c.now in
    let bad = result_of_err (tt {0}) n (sym c.in_err-check_refusal.ensures) in
    let p = err_from_is_err_and c.from_residual.result c.from_residual.ensures.1 in
    answer_luma_chroma (
      rw (p.1, p.2, bad.1) (sym (result_of_bad _ n bad.0)),
      (sym (unless_refused-refused n _ _ bad.0), sym (unless_refused-refused n _ _ bad.0)),
    )

pub returns-in_err-plan : goal.returns-in_err-plan
returns-in_err-plan c =
    absurd ((planned_err c.args.raster c.args.line (sym c.in_err-plan.ensures)).0 (taken (goal.at.returns-in_err-plan c).In_ok-check_refusal).1)

pub returns : goal.returns
unfolding corrected
returns c =
    let known = planned_ok c.args.raster c.args.line (sym c.in_ok-plan.ensures) in
    let ok = (taken (goal.at.returns c).In_ok-check_refusal).0 in
    answer_luma_chroma (
      rw (ok, c.correct_rows.ensures.answer, known.plan),
      (rw (ok, c.correct_rows.ensures.luma, known.plan), rw (ok, c.correct_rows.ensures.chroma, known.plan)),
    )

use mathlib.Core.Path.{sym}
use Rattle.std.proofs.lemmas.Result.{err_from_is_err_and}
use Rattle.refusal.proofs.Answers.{result_of_ok, result_of_bad, result_of_err}
use Rattle.row.specs.Row.{check_refusal, checked}
use Rattle.row.proofs.check.Goals as goal

pub returns-in_err-check_refusal : goal.returns-in_err-check_refusal
unfolding checked
returns-in_err-check_refusal c =
    let at = c.args in
    let n = check_refusal at.raster at.line at.carry at.y.now at.c.now in
    let bad = result_of_err (tt {0}) n (sym c.in_err-check_refusal.ensures) in
    let p = err_from_is_err_and c.from_residual.result c.from_residual.ensures.1 in
    rw (p.1, p.2, bad.1) (sym (result_of_bad _ n bad.0))

pub returns : goal.returns
unfolding checked
returns c =
    let at = c.args in
    let ok = (result_of_ok (tt {0}) (check_refusal at.raster at.line at.carry at.y.now at.c.now) (sym c.in_ok-check_refusal.ensures)).0 in
    rw (ok, c.judge.ensures)

use mathlib.Core.Path.{sym}
use Rattle.std.proofs.lemmas.Result.{err_from_is_err_and}
use Rattle.refusal.specs.Refusal.{refusal_numbered}
use Rattle.refusal.proofs.Answers.{result_of_ok, result_of_bad, result_of_err}
use Rattle.plan.specs.Refusal.{row_refusal}
use Rattle.row.specs.Row.{check_refusal}
use Rattle.row.proofs.Rows.{check_refusal_row}
use Rattle.row.proofs.check_refusal.Goals as goal

pub returns-in_err-row_refusal : goal.returns-in_err-row_refusal
returns-in_err-row_refusal c =
    let at = c.args in
    let n = row_refusal at.raster at.line at.y.now at.c.now in
    let bad = result_of_err (tt {0}) n (sym c.in_err-row_refusal.ensures) in
    let p = err_from_is_err_and c.from_residual.result c.from_residual.ensures.1 in
    rw (p.1, p.2, bad.1, check_refusal_row at.raster at.line at.carry _ _ bad.0, result_of_bad (tt {0}) n bad.0)

pub returns-then-not-carry_ok : goal.returns-then-not-carry_ok
unfolding check_refusal refusal_numbered
returns-then-not-carry_ok c =
    let at = c.args in
    let ok = (result_of_ok (tt {0}) (row_refusal at.raster at.line at.y.now at.c.now) (sym c.in_ok-row_refusal.ensures)).0 in
    rw (ok, ← c.carry_ok.ensures, c.if-not-carry_ok.true)

pub returns : goal.returns
unfolding check_refusal
returns c =
    let at = c.args in
    let ok = (result_of_ok (tt {0}) (row_refusal at.raster at.line at.y.now at.c.now) (sym c.in_ok-row_refusal.ensures)).0 in
    rw (ok, ← c.carry_ok.ensures, c.if-not-carry_ok.false)

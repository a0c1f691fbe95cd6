-- take: a refusal, or the walk.
use mathlib.Core.Path.{sym}
use Rattle.std.proofs.lemmas.Result.{err_from_is_err_and}
use Rattle.parts.proofs.Laid.{unless_refused-refused}
use Rattle.refusal.proofs.Answers.{result_of_ok, result_of_bad, result_of_err}
use Rattle.desk.specs.Desk.{take_refusal, taken, taken_y, taken_c}
use Rattle.desk.proofs.Desk.take.Goals as goal

pub returns-in_err-take_refusal : goal.returns-in_err-take_refusal
unfolding taken taken_y taken_c
returns-in_err-take_refusal c =
    let at = c.args in
    let n = take_refusal at.self at.y.now at.c.now in
    let bad = result_of_err (tt {0}) n (sym c.in_err-take_refusal.ensures) in
    let p = err_from_is_err_and c.from_residual.result c.from_residual.ensures.1 in
    record {
      answer = rw (p.1, p.2, bad.1) (sym (result_of_bad _ n bad.0));
      yrow = sym (unless_refused-refused n _ _ bad.0);
      crow = sym (unless_refused-refused n _ _ bad.0);
    }

pub returns : goal.returns
unfolding taken taken_y taken_c
returns c =
    let at = c.args in
    let ok = (result_of_ok (tt {0}) (take_refusal at.self at.y.now at.c.now) (sym c.in_ok-take_refusal.ensures)).0 in
    record { answer = rw (ok, c.walk.ensures); yrow = rw (ok, c.walk.ensures); crow = rw (ok, c.walk.ensures) }

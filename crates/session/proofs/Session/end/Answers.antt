use mathlib.Core.Path.{sym, ap}
use Rattle.std.proofs.lemmas.Result.{err_from_is_err_and}
use Rattle.refusal.specs.Refusal.{refusal_numbered}
use Rattle.raster.specs.declared.Raster.{Raster}
use Rattle.session.specs.Session.{end_refusal, ended, said}
use Rattle.session.proofs.Refusing.{opened_ok, opened_err}
use Rattle.session.proofs.Session.end.Goals as goal

pub returns-in_err-rows : goal.returns-in_err-rows
unfolding end_refusal ended said refusal_numbered
returns-in_err-rows c =
    let shut = opened_err c.args.self (sym c.in_err-rows.ensures) in
    let p = err_from_is_err_and c.from_residual.result c.from_residual.ensures.1 in
    record { answer = rw (p.1, p.2, shut.1, shut.0); means = rw (p.1, shut.0) }

pub returns : goal.returns
unfolding end_refusal ended said
returns c =
    let found = opened_ok c.args.self (sym c.in_ok-rows.ensures) in
    let rows = ap (λ (r : Raster). r.rows) found.1 in
    record {
      answer = rw (found.0, c.fresh.ensures, c.verdict_of.ensures.answer, rows);
      means = rw (found.0, c.verdict_of.ensures.means, rows);
    }

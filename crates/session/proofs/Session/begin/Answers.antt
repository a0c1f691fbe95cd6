use mathlib.Core.Path.{sym}
use Rattle.std.proofs.lemmas.Result.{err_from_is_err_and}
use Rattle.refusal.specs.Refusal.{refusal_numbered}
use Rattle.raster.proofs.Table.{looked_up_ok, looked_up_err, raster_given-found}
use Rattle.session.specs.Session.{begin_refusal, begun}
use Rattle.session.proofs.Session.begin.Goals as goal

pub returns-then-not-is_idle : goal.returns-then-not-is_idle
unfolding begun begin_refusal refusal_numbered
returns-then-not-is_idle c = rw (← c.is_idle.ensures, c.if-not-is_idle.true)

pub returns-in_err-raster : goal.returns-in_err-raster
unfolding begun begin_refusal refusal_numbered
returns-in_err-raster c =
    let bad = looked_up_err c.args.raster (sym c.in_err-raster.ensures) in
    let p = err_from_is_err_and c.from_residual.result c.from_residual.ensures.1 in
    rw (p.1, p.2, bad.1, ← c.is_idle.ensures, c.if-not-is_idle.false, bad.0)

pub returns : goal.returns
unfolding begun begin_refusal
returns c =
    let found = looked_up_ok c.args.raster (sym c.in_ok-raster.ensures) in
    rw (← c.is_idle.ensures, c.if-not-is_idle.false, found.0, found.1, raster_given-found c.args.raster found.0, c.start.ensures)

use mathlib.Core.Path.{sym}
use Rattle.plan.proofs.Plans.{planned_ok, planned_err}
use Rattle.row.specs.Row.{judged}
use Rattle.row.proofs.Rows.{judged_by-refused}
use Rattle.row.proofs.judge.Goals as goal

pub returns-in_default : goal.returns-in_default
unfolding judged
returns-in_default c =
    let bad = planned_err c.args.raster c.args.line (sym c.in_default.ensures) in
    sym (judged_by-refused _ _ _ _ _ bad.0)

pub returns : goal.returns
unfolding judged
returns c =
    let known = planned_ok c.args.raster c.args.line (sym c.in-Ok.ensures) in
    rw (known.ok, c.flags.ensures, c.carry_after.ensures, known.plan)

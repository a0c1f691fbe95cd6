use mathlib.Core.Path.{◌≡◌, sym, ap}
use Rattle.std.proofs.lemmas.Result.{err_from_is_err_and}
use Rattle.refusal.proofs.Answers.{ok_not_err, ok_same, result_of_ok}
use Rattle.raster.specs.Lines.{line_refusal}
use Rattle.plan.proofs.Plans.{planned_err, planned_ok}
use Rattle.law_row.proofs.BuiltRow.{built-fits, built-number, row_answered, row_clean}
use Rattle.use_row.proofs.shows.built_and_checked.Goals as goal
use Rattle.use_row.proofs.shows.built_and_checked.Goals.{In_ok-left}

-- a row that is built is of a line of a raster
listed : (c : In_ok-left) → let at = c.args in line_refusal at.raster at.line ≡ 0
listed c =
    let at = c.args in
    (built-fits at.raster at.line at.carry at.yactive.now at.cactive.now at.ylaid.now at.claid.now at.y.now at.c.now
    (result_of_ok _ _ (sym c.in_ok-left.ensures.answer)).0).ok

pub returns-in_err-left-clause-number : goal.returns-in_err-left-clause-number
returns-in_err-left-clause-number c =
    let p = err_from_is_err_and c.from_residual.result c.from_residual.ensures.1 in
    rw (p.1, p.2) (built-number _ _ _ _ _ _ _ _ _ c.in_err-left.ensures.answer)

pub returns-in_err-total : goal.returns-in_err-total
returns-in_err-total c =
    absurd ((planned_err c.args.raster c.args.line (sym c.in_err-total.ensures)).0 (listed (goal.at.returns-in_err-total c).In_ok-left))

pub returns-in_err-judged : goal.returns-in_err-judged
returns-in_err-judged c =
    let plan = planned_ok c.args.raster c.args.line (sym c.in_ok-total.ensures) in
    absurd (ok_not_err
    (row_answered _ _ _ _ _ _ _ _ _ c.build.ensures.answer c.build.ensures.luma c.build.ensures.chroma plan.plan c.part.ensures c.part-2.ensures
    c.check.ensures c.in_ok-left.was)
    c.in_err-judged.was)

pub returns-clause-checked : goal.returns-clause-checked
returns-clause-checked c =
    let plan = planned_ok c.args.raster c.args.line (sym c.in_ok-total.ensures) in
    ap (λ j. j.carry)
    (ok_same c.in_ok-judged.was
    (row_answered _ _ _ _ _ _ _ _ _ c.build.ensures.answer c.build.ensures.luma c.build.ensures.chroma plan.plan c.part.ensures c.part-2.ensures
    c.check.ensures c.in_ok-left.was))

pub returns-clause-clean : goal.returns-clause-clean
returns-clause-clean c = λ y_packets c_packets lawful.
    let plan = planned_ok c.args.raster c.args.line (sym c.in_ok-total.ensures) in
    ap (λ j. j.flags)
    (ok_same c.in_ok-judged.was
    (row_clean _ _ _ _ _ _ _ _ _ c.build.ensures.answer c.build.ensures.luma c.build.ensures.chroma plan.plan c.part.ensures c.part-2.ensures
    c.check.ensures c.in_ok-left.was y_packets c_packets lawful))

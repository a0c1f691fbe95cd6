use mathlib.Core.Path.{◌≡◌, sym, ◌∙◌}
use Prim.Native.Nat.{◌≤◌}
use lib.ListN.{length}
use Rattle.std.proofs.lemmas.Result.{err_from_is_err_and}
use Rattle.bits.proofs.Clauses.{answer_luma_chroma}
use Rattle.refusal.specs.Refusal.{result_of}
use Rattle.refusal.proofs.Answers.{result_of_ok, result_of_bad, result_of_err}
use Rattle.parts.proofs.Laid.{unless_refused-refused}
use Rattle.raster.specs.Lines.{line_refusal}
use Rattle.plan.specs.Fits.{Fits}
use Rattle.plan.proofs.Plans.{planned_ok, planned_err}
use Rattle.compose.specs.Compose.{build_refusal}
use Rattle.compose.proofs.Refusal.{build_refusal_line, build_refusal_under, build_refusal-fits}
use Rattle.row.proofs.Rows.{carried_y, carried_c}
use Rattle.compose.proofs.build.Goals as goal
use Rattle.compose.proofs.build.Goals.{After-refusal_under, In_ok-refusal_under}

-- past the first `?` it is that under the plan
under : (c : After-refusal_under)
    → let at = c.args in
    c.refusal_under.result
    ≡ result_of (build_refusal at.raster at.line at.carry at.yactive.now at.cactive.now at.ylaid.now at.claid.now (length at.y.now) (length at.c.now)) (tt {0})
under c =
    let at = c.args in
    let known = planned_ok at.raster at.line (sym c.in_ok-plan.ensures) in
    rw (c.refusal_under.ensures, build_refusal_under at.raster at.line at.carry at.yactive.now at.cactive.now at.ylaid.now at.claid.now (length at.y.now) (length at.c.now) c.in_ok-plan.plan known.plan known.ok)

-- past the second there is none
none : (c : In_ok-refusal_under)
    → let at = c.args in
    c.refusal_under.result
    ≡ result_of (build_refusal at.raster at.line at.carry at.yactive.now at.cactive.now at.ylaid.now at.claid.now (length at.y.now) (length at.c.now)) (tt {0})
    → build_refusal at.raster at.line at.carry at.yactive.now at.cactive.now at.ylaid.now at.claid.now (length at.y.now) (length at.c.now) ≡ 0
none c e = (result_of_ok (tt {0}) _ (sym e ∙ c.in_ok-refusal_under.was)).0

pub returns-in_err-plan : goal.returns-in_err-plan
returns-in_err-plan c =
    let at = c.args in
    let bad = planned_err at.raster at.line (sym c.in_err-plan.ensures) in
    let p = err_from_is_err_and c.from_residual.result c.from_residual.ensures.1 in
    let first = build_refusal_line at.raster at.line at.carry at.yactive.now at.cactive.now at.ylaid.now at.claid.now (length at.y.now) (length at.c.now) bad.0 in
    answer_luma_chroma (
      rw (p.1, p.2, bad.1, first) (sym (result_of_bad _ (line_refusal at.raster at.line) bad.0)),
      (rw first (sym (unless_refused-refused _ _ _ bad.0)), rw first (sym (unless_refused-refused _ _ _ bad.0))),
    )

pub returns-in_err-refusal_under : goal.returns-in_err-refusal_under
returns-in_err-refusal_under c =
    let bad = result_of_err (tt {0}) _ (sym (under (goal.at.returns-in_err-refusal_under c).After-refusal_under) ∙ c.in_err-refusal_under.was) in
    let p = err_from_is_err_and c.from_residual-in_err-refusal_under.result c.from_residual-in_err-refusal_under.ensures.1 in
    answer_luma_chroma (
      rw (p.1, p.2, bad.1) (sym (result_of_bad _ _ bad.0)),
      (sym (unless_refused-refused _ _ _ bad.0), sym (unless_refused-refused _ _ _ bad.0)),
    )

-- so the parts of the row lie in their places
placed : (c : In_ok-refusal_under)
    → let at = c.args in
    let places = c.in_ok-plan.plan.places in
    build_refusal at.raster at.line at.carry at.yactive.now at.cactive.now at.ylaid.now at.claid.now (length at.y.now) (length at.c.now) ≡ 0
    → Fits places × (length at.ylaid.now ≤ places.blanks) × (length at.claid.now ≤ places.blanks)
placed c ok =
    let at = c.args in
    let known = planned_ok at.raster at.line (sym c.in_ok-plan.ensures) in
    build_refusal-fits at.raster at.line at.carry at.yactive.now at.cactive.now at.ylaid.now at.claid.now (length at.y.now) (length at.c.now) c.in_ok-plan.plan known.plan ok

pub lay_stream-requires : goal.lay_stream-requires
lay_stream-requires c =
    let at = goal.at.lay_stream-requires c in
    let known = placed at.In_ok-refusal_under (none at.In_ok-refusal_under (under at.After-refusal_under)) in
    record { places = known.0; room = known.1 }

pub lay_stream-requires-2 : goal.lay_stream-requires-2
lay_stream-requires-2 c =
    let at = goal.at.lay_stream-requires-2 c in
    let known = placed at.In_ok-refusal_under (none at.In_ok-refusal_under (under at.After-refusal_under)) in
    record { places = known.0; room = known.2 }

pub returns : goal.returns
returns c =
    let at = goal.at.returns c in
    let ok = none at.In_ok-refusal_under (under at.After-refusal_under) in
    let known = planned_ok c.args.raster c.args.line (sym c.in_ok-plan.ensures) in
    let y = carried_y c.args.carry in
    let c' = carried_c c.args.carry in
    answer_luma_chroma (
      rw (ok, c.step_words.ensures, c.step_words-2.ensures),
      (
        rw (ok, c.lay_stream.ensures, c.carried-before.ensures, y.known, y.value, known.plan),
        rw (ok, c.lay_stream-2.ensures, c.carried-before.ensures, c'.known, c'.value, known.plan),
      ),
    )

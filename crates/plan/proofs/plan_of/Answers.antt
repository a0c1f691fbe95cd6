use mathlib.Core.Path.{◌≡◌, sym, ◌∙◌}
use native.Mathlib.Omega.{arith}
use Rattle.std.proofs.lemmas.Result.{err_from_is_err_and}
use Rattle.raster.specs.Lines.{line_refusal}
use Rattle.raster.proofs.Table.{InRange, looked_up_ok, looked_up_err, looked_up_range, raster_given-found}
use Rattle.raster.proofs.Lines.{line_facts_ok, line_facts_err, line_refusal_ok}
use Rattle.timing.proofs.Line.{line_words_ok, line_words_err}
use Rattle.plan.proofs.Plans.{planned_found, planned_refused}
use Rattle.plan.proofs.plan_of.Goals as goal
use Rattle.plan.proofs.plan_of.Goals.{In_ok-facts, In_ok-layout}
use Rattle.bits.proofs.Choice.{false_not_true}

-- past the first `?` raster and line are right
ok : (c : In_ok-facts) → line_refusal c.args.raster c.args.line ≡ 0
ok c = (line_facts_ok c.args.raster c.args.line (sym c.in_ok-facts.ensures)).0

-- and what was looked up is in range
range : (c : In_ok-layout) → InRange c.in_ok-layout.field-0
range c =
    let found = looked_up_ok c.args.raster (sym c.in_ok-layout.ensures) in
    rw found.1 (looked_up_range c.args.raster found.0)

pub returns-in_err-facts : goal.returns-in_err-facts
returns-in_err-facts c =
    let at = c.args in
    let bad = line_facts_err at.raster at.line (sym c.in_err-facts.ensures) in
    let p = err_from_is_err_and c.from_residual.result c.from_residual.ensures.1 in
    rw (p.1, p.2, bad.1, planned_refused at.raster at.line bad.0)

pub returns-in_err-words : goal.returns-in_err-words
returns-in_err-words c =
    absurd (line_words_err c.args.raster c.args.line (sym c.in_err-words.ensures) (ok (goal.at.returns-in_err-words c).In_ok-facts))

pub returns-in_err-layout : goal.returns-in_err-layout
returns-in_err-layout c =
    let right = line_refusal_ok c.args.raster c.args.line (ok (goal.at.returns-in_err-layout c).In_ok-facts) in
    absurd (false_not_true (sym (looked_up_err c.args.raster (sym c.in_err-layout.ensures)).0 ∙ right.0))

pub overflow_add-crc : goal.overflow_add-crc
overflow_add-crc c = omega (arith, range (goal.at.overflow_add-crc c).In_ok-layout)

pub overflow_add-blank : goal.overflow_add-blank
overflow_add-blank c = omega (arith, range (goal.at.overflow_add-blank c).In_ok-layout)

pub overflow_sub-active : goal.overflow_sub-active
overflow_sub-active c = omega (arith, range (goal.at.overflow_sub-active c).In_ok-layout)

pub overflow_sub-sav : goal.overflow_sub-sav
overflow_sub-sav c = omega (arith, range (goal.at.overflow_sub-sav c).In_ok-layout)

pub overflow_sub-places : goal.overflow_sub-places
overflow_sub-places c = omega (arith, range (goal.at.overflow_sub-places c).In_ok-layout)

pub returns : goal.returns
returns c =
    let at = c.args in
    let facts = line_facts_ok at.raster at.line (sym c.in_ok-facts.ensures) in
    let given = looked_up_ok at.raster (sym c.in_ok-layout.ensures) in
    rw (
      planned_found at.raster at.line facts.0,
      c.xyz.ensures,
      c.xyz-2.ensures,
      facts.1,
      (line_words_ok at.raster at.line (sym c.in_ok-words.ensures)).1,
      given.1,
      raster_given-found at.raster given.0,
    )

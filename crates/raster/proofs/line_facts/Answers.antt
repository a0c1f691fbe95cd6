use mathlib.Core.Path.{◌≡◌, sym, ap, ◌∙◌}
use mathlib.Core.Bool.{true}
use Rattle.std.proofs.lemmas.Result.{err_from_is_err_and}
use Rattle.raster.proofs.Table.{raster_given-found, looked_up_ok, looked_up_err}
use Rattle.raster.proofs.Lines.{line_facts_found, line_facts_bad, line_facts_off}
use Rattle.raster.specs.Lines.{between, line_ok}
use Rattle.raster.specs.Table.{raster_ok}
use Rattle.raster.proofs.line_facts.Goals as goal
use Rattle.raster.proofs.line_facts.Goals.{After-inside}

-- past the `?` the raster is one of 0..11, and the test is that of the line
test : (c : After-inside) → (raster_ok c.args.raster ≡ true) × (c.inside.result ≡ line_ok c.args.raster c.args.line)
test c =
    let found = looked_up_ok _ (sym c.in_ok-found.ensures) in
    let rows = ap (λ r. between 1 r.rows c.args.line) (found.1 ∙ raster_given-found _ found.0) in
    (found.0, c.inside.ensures ∙ rows)

pub returns-in_err-found : goal.returns-in_err-found
returns-in_err-found c =
    let bad = looked_up_err c.args.raster (sym c.in_err-found.ensures) in
    let p = err_from_is_err_and c.from_residual.result c.from_residual.ensures.1 in
    rw (p.1, p.2, bad.1, line_facts_bad c.args.raster c.args.line bad.0)

pub returns-then-not-inside : goal.returns-then-not-inside
returns-then-not-inside c =
    let t = test (goal.at.returns-then-not-inside c).After-inside in
    sym (line_facts_off _ _ t.0 (sym t.1 ∙ c.if-not-inside.true))

pub returns : goal.returns
returns c =
    let t = test (goal.at.returns c).After-inside in
    let found = looked_up_ok _ (sym c.in_ok-found.ensures) in
    rw (
      line_facts_found _ _ t.0 (sym t.1 ∙ c.if-not-inside.false),
      c.v_of.ensures,
      c.f_of.ensures,
      found.1,
      raster_given-found _ t.0,
    )

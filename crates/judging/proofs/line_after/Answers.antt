use mathlib.Core.Path.{◌≡◌, sym, ap, ◌∙◌}
use native.Mathlib.Omega.{arith}
use borrow.Author.Tests.{lt-ltb, le-ltb}
use Rattle.raster.specs.declared.Raster.{Raster}
use Rattle.raster.specs.Table.{rows_of}
use Rattle.raster.proofs.Table.{raster_given-none, looked_up_ok, looked_up_err}
use Rattle.judging.proofs.line_after.Goals as goal
use Rattle.judging.proofs.line_after.Goals.{In-Ok}

rows : (c : In-Ok) → c.in-Ok.found.rows ≡ rows_of c.args.raster
rows c = ap (λ (r : Raster). r.rows) (looked_up_ok c.args.raster (sym c.in-Ok.ensures)).1

pub returns-in-Ok : goal.returns-in-Ok
returns-in-Ok c = rw (lt-ltb c.args.line (rows_of c.args.raster) (rw (rows (goal.at.returns-in-Ok c).In-Ok) at c.if-line-found.true))

pub returns-in_default : goal.returns-in_default
returns-in_default c = rw (le-ltb c.args.line (rows_of c.args.raster) (rw (rows (goal.at.returns-in_default c).In-Ok) at c.if-line-found.false))

pub returns-in_default-2 : goal.returns-in_default-2
returns-in_default-2 c =
    let bad = (looked_up_err c.args.raster (sym c.raster_of.ensures ∙ c.in_default.is)).0 in
    let none : rows_of c.args.raster ≡ 0 = ap (λ (r : Raster). r.rows) (raster_given-none c.args.raster bad) in
    rw (le-ltb c.args.line (rows_of c.args.raster) (omega (arith, none)))

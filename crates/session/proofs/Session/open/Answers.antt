use mathlib.Core.Path.{◌≡◌, sym, ◌∙◌}
use mathlib.Core.Bool.{and-false}
use Rattle.raster.proofs.Table.{looked_up_ok, looked_up_err}
use Rattle.session.specs.Session.{in_range, opened}
use Rattle.session.proofs.Ranges.{raster_in_listed}
use Rattle.session.proofs.Session.open.Goals as goal
use Rattle.session.proofs.Session.open.Goals.{After-is_in}

-- under the raster that is found, the test is that of the ranges
ranged : (c : After-is_in) → c.is_in.result ≡ in_range c.args.self
unfolding in_range
ranged c = let found = looked_up_ok c.args.self.raster (sym c.in-Ok.ensures) in rw (c.is_in.ensures, found.1)

pub returns-in-Ok : goal.returns-in-Ok
unfolding opened
returns-in-Ok c =
    let found = looked_up_ok c.args.self.raster (sym c.in-Ok.ensures) in
    let same = ranged (goal.at.returns-in-Ok c).After-is_in in
    rw (sym same ∙ c.if-is_in.true, c.if-self.true, found.1)

pub returns-in_default : goal.returns-in_default
unfolding opened
returns-in_default c =
    let same = ranged (goal.at.returns-in_default c).After-is_in in
    rw (sym same ∙ c.if-is_in.false, and-false c.args.self.running)

pub returns-in_default-2 : goal.returns-in_default-2
unfolding opened
returns-in_default-2 c = rw (c.if-self.false)

pub returns-in_default-3 : goal.returns-in_default-3
unfolding opened in_range
returns-in_default-3 c =
    let self = c.args.self in
    let bad = (looked_up_err self.raster (sym c.in_default.ensures)).0 in
    rw (raster_in_listed self.running self.raster bad, and-false self.running)

use mathlib.Core.Path.{sym}
use Rattle.raster.proofs.Table.{looked_up_ok, looked_up_err}
use Rattle.session.specs.Session.{in_range}
use Rattle.session.proofs.Ranges.{raster_in_listed}
use Rattle.session.proofs.Session.is_in_range.Goals as goal

pub returns-in-Ok : goal.returns-in-Ok
unfolding in_range
returns-in-Ok c = let found = looked_up_ok c.args.self.raster (sym c.in-Ok.ensures) in rw (c.is_in.ensures, found.1)

pub returns-in-Err : goal.returns-in-Err
unfolding in_range
returns-in-Err c =
    let self = c.args.self in
    let bad = (looked_up_err self.raster (sym c.in-Err.ensures)).0 in
    rw (raster_in_listed self.running self.raster bad)

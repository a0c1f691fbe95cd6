use mathlib.Core.Path.{sym}
use native.Mathlib.Omega.{arith}
use borrow.Author.Tests.{le-leb, lt-leb}
use Rattle.raster.specs.Table.{entry_of}
use Rattle.raster.proofs.Table.{meant_range, raster_given-found, looked_up_found, looked_up_none}
use Rattle.raster.proofs.raster_of.Goals as goal

pub returns-then-code-gt-HIGHEST : goal.returns-then-code-gt-HIGHEST
returns-then-code-gt-HIGHEST c = sym (looked_up_none _ (lt-leb _ _ c.if-code-gt-HIGHEST.true))

pub overflow_sub-meant : goal.overflow_sub-meant
overflow_sub-meant c =
    let r = meant_range c.args.code (le-leb _ _ c.if-code-gt-HIGHEST.false) in
    omega (arith, c.meant_code-meant.ensures)

pub entry_at-entry-requires : goal.entry_at-entry-requires
entry_at-entry-requires c =
    let r = meant_range c.args.code (le-leb _ _ c.if-code-gt-HIGHEST.false) in
    omega (arith, c.meant_code-meant.ensures)

pub returns : goal.returns
unfolding entry_of
returns c =
    let ok = le-leb _ _ c.if-code-gt-HIGHEST.false in
    rw (looked_up_found _ ok, raster_given-found _ ok, c.entry_at-entry.ensures, c.meant_code-meant.ensures)

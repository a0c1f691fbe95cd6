use mathlib.Core.Path.{◌≡◌, refl, sym, ◌∙◌}
use Prim.Native.Nat.{suc, ◌+◌, ◌-◌}
use native.Mathlib.Omega.{arith}
use Rattle.bits.proofs.Choice.{some_unless_zero}
use Rattle.raster.specs.Table.{table, name_of, named}
use Rattle.raster.proofs.Table.{name_from_step, name_from_stop, name_from_end}
use Rattle.raster.proofs.name.Goals as goal

pub loop-code-init : goal.loop-code-init
unfolding name_of
loop-code-init c = refl

pub returns-then-fits_entry : goal.returns-then-fits_entry
unfolding named
returns-then-fits_entry c =
    let at = c.loop-code in
    let stop = name_from_stop _ _ _ _ at.code (at.code - 1) table (omega arith) c.entry_at-entry.ensures c.fits_entry.ensures c.if-fits_entry.true in
    rw (sym at.invariant, stop, some_unless_zero at.code (omega (arith, at.auto.code)))

pub loop-code-preserved : goal.loop-code-preserved
loop-code-preserved c =
    let at = c.loop-code in
    let i : suc (at.code - 1) ≡ at.code + 1 - 1 = omega arith in
    let n : suc at.code ≡ at.code + 1 = omega arith in
    let step = name_from_step _ _ _ _ at.code (at.code - 1) table (omega arith) c.entry_at-entry.ensures c.fits_entry.ensures c.if-fits_entry.false in
    rw (← i, ← n) (sym step ∙ at.invariant)

pub returns : goal.returns
unfolding named
returns c =
    let at = c.loop-code in
    rw (sym at.invariant, name_from_end _ _ _ _ at.code (at.code - 1) table (omega arith))

use mathlib.Core.Path.{◌≡◌}
use Prim.Native.Nat.{◌-◌}
use lib.ListN.{drop}
use Rattle.raster.specs.Table.{table, name_from, name_of}
use Rattle.raster.proofs.name.Given as goal

abbrev pub invariant-loop-code : goal.invariant-loop-code
invariant-loop-code l = (name_from l.code (drop (l.code - 1) table) l.total l.active l.rows l.kind ≡ name_of l.total l.active l.rows l.kind)

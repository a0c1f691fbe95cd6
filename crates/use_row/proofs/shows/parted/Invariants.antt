use Prim.Native.Nat.{◌*◌}
use mathlib.Core.Path.{◌≡◌}
use lib.ListN.{take}
use Rattle.cable.specs.Channels.{paired}
use Rattle.use_row.proofs.shows.parted.Given as goal

abbrev pub invariant-loop-i : goal.invariant-loop-i
invariant-loop-i l = paired (take l.i l.c) (take l.i l.y) ≡ take (2 * l.i) l.words

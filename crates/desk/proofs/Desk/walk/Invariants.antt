use mathlib.Core.Path.{◌≡◌}
use Prim.Native.Nat.{◌-◌, ◌≤◌}
use lib.ListN.{length, drop}
use Rattle.desk.specs.Desk.{standing, walk, walked, walk_of}
use Rattle.desk.proofs.Desk.walk.Given as goal

-- walk: the bytes that are left, from here, give what all give from the start.
abbrev pub invariant-loop-walk : goal.invariant-loop-walk
invariant-loop-walk l = (l.walk.taken ≤ length l.bytes)
    × (walk_of l.initial.walk.desk l.bytes l.initial.y l.initial.c ≡ walked (drop l.walk.taken l.bytes) (walk (standing l.walk.desk l.y l.c) l.walk.taken l.walk.outcome))

abbrev pub decreases-loop-walk : goal.decreases-loop-walk
decreases-loop-walk l = length l.bytes - l.walk.taken

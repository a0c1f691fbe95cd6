use mathlib.Core.Path.{◌≡◌}
use Prim.Native.Nat.{◌-◌, ◌*◌}
use lib.ListN.{drop}
use Rattle.taking.specs.Hurry.{last_after}
use Rattle.taking.proofs.tens.Block.last_after.Given as goal

-- last_after: what all pairs leave, or the last three of them, of which that is left.
abbrev pub invariant-loop-k : goal.invariant-loop-k
invariant-loop-k l = l.l.bits ≡ last_after l.fn.last.bits (drop (2 * (l.pairs - 3)) l.self.words.now) (l.k - (l.pairs - 3))

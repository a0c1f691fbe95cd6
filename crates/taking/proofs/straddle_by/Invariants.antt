use mathlib.Core.Path.{◌≡◌}
use Prim.Native.Nat.{ℕ, ◌+◌, ◌<◌}
use lib.ListN.{get_or}
use Rattle.taking.specs.Deal.{straddling}
use Rattle.taking.proofs.straddle_by.Given as goal

-- straddle_by: every word so far is cut so.
abbrev pub invariant-loop-i : goal.invariant-loop-i
invariant-loop-i g l = (j : ℕ) → j + 1 < l.i → get_or l.out j 0 ≡ straddling l.words j g.row.UP

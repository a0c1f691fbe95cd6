use mathlib.Core.Path.{◌≡◌}
use Prim.Native.Nat.{◌*◌}
use Rattle.taking.specs.Deal.{dealt}
use Rattle.taking.proofs.deal.Given as goal

-- deal: the pairs so far are dealt; no word is above 3FF.
abbrev pub invariant-loop-k : goal.invariant-loop-k
invariant-loop-k l = (l.y ≡ dealt l.words 1 l.from (2 * l.k) l.initial.y) × (l.c ≡ dealt l.words 0 l.from (2 * l.k) l.initial.c)

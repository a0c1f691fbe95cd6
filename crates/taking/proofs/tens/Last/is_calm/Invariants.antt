use mathlib.Core.Path.{◌≡◌}
use Prim.Native.Nat.{ℕ, ◌/◌, ◌^◌, ◌≤◌, ◌<◌}
use Rattle.taking.proofs.tens.Last.is_calm.Given as goal

-- is_calm: zeros with none of which a sync ends.
abbrev pub invariant-loop-k : goal.invariant-loop-k
invariant-loop-k l = (j : ℕ) → 1 ≤ j → j < l.k → l.bits / 2 ^ j ≡ 0xfffff → ⊥

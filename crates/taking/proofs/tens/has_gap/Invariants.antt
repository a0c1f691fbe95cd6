use mathlib.Core.Path.{◌≡◌}
use mathlib.Core.Bool.{false}
use Prim.Native.Nat.{ℕ, ◌+◌, ◌<◌}
use lib.ListN.{get_or}
use Rattle.taking.proofs.tens.has_gap.Given as goal

-- has_gap: where none was found so far, of no two neighbours so far both are zeros.
abbrev pub invariant-loop-i : goal.invariant-loop-i
invariant-loop-i l = l.found ≡ false → (j : ℕ) → j + 1 < l.i → get_or l.words j 0 ≡ 0 → get_or l.words (j + 1) 0 ≡ 0 → ⊥

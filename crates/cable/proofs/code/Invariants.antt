use mathlib.Core.Path.{◌≡◌}
use mathlib.Core.List.{List, ◌++◌}
use Prim.Native.Nat.{ℕ}
use lib.ListN.{take, drop}
use Rattle.cable.specs.Stepwise.{Stepwise}
use Rattle.cable.proofs.code.Given as goal

-- code: the words so far, step by step, and behind them the output as it was
abbrev pub invariant-loop-i : goal.invariant-loop-i
invariant-loop-i g l =
    (made : List ℕ) × Stepwise (goal.F-post g l.step) l.history (take l.i l.words) made l.h × (l.out ≡ made ++ drop l.i l.initial.out)

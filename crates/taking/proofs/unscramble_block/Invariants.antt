use mathlib.Core.Path.{◌≡◌}
use mathlib.Core.List.{◌++◌}
use Prim.Native.Nat.{◌-◌}
use lib.ListN.{get_or, take, drop}
use Rattle.cable.specs.Words.{unscramble_words}
use Rattle.taking.proofs.unscramble_block.Given as goal

-- unscramble_block: what is left, after the word before, gives the rest of the block.
abbrev pub invariant-loop-i : goal.invariant-loop-i
invariant-loop-i l = unscramble_words l.history l.words ≡ take l.i l.block ++ unscramble_words (get_or l.words (l.i - 1) 0) (drop l.i l.words)

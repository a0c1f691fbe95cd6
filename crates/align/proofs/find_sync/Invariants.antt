use mathlib.Core.Path.{◌≡◌}
use Prim.Native.Nat.{◌*◌}
use lib.ListN.{drop}
use Rattle.bits.specs.Bits.{word_bits}
use Rattle.align.proofs.Search.{ends}
use Rattle.align.proofs.find_sync.Given as goal

-- find_sync: what is left ends where the whole does
abbrev pub invariant-loop-i : goal.invariant-loop-i
invariant-loop-i l = ends (l.i * 10) l.last (word_bits (drop l.i l.words)) ≡ ends 0 0 (word_bits l.words)

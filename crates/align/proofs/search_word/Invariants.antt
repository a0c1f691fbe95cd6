use mathlib.Core.Path.{◌≡◌}
use Prim.Native.Nat.{◌-◌}
use Rattle.bits.specs.Bits.{bits}
use Rattle.align.specs.Search.{searched}
use Rattle.align.proofs.search_word.Given as goal

-- search_word: the bits left decide as the whole word does
abbrev pub invariant-loop-bit : goal.invariant-loop-bit
invariant-loop-bit l = searched l.bit l.l (bits (10 - l.bit) l.w) ≡ searched 0 l.last (bits 10 l.word)

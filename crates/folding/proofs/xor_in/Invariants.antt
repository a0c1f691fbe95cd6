use Rattle.std.proofs.Common.{◌≡◌, take}
use Rattle.folding.specs.Folding.{adds}
use Rattle.folding.proofs.xor_in.Given as goal

-- `xor_in`: so many words are xor-ed in.
abbrev pub invariant-loop-i : goal.invariant-loop-i
invariant-loop-i l = l.tail ≡ adds l.initial.tail (take l.i l.words)

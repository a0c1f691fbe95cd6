use Rattle.std.proofs.Common.{take}
use Rattle.label.specs.Writing.{Writes}
use Rattle.label.proofs.Label.write.Given as goal

-- write: the bytes so far are written.
abbrev pub invariant-loop-byte : goal.invariant-loop-byte
invariant-loop-byte l = Writes l.initial.self (take l.byte-index l.text) l.self

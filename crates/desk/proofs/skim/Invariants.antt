use Rattle.desk.specs.Desk.{AheadAlone}
use Rattle.desk.proofs.skim.Given as goal

-- skim: the bytes from here, at any desk with the reader as it is now, give what those from the start give with the reader as it was.
abbrev pub invariant-loop-i : goal.invariant-loop-i
invariant-loop-i l = AheadAlone l.bytes l.initial.reader l.at l.reader l.i

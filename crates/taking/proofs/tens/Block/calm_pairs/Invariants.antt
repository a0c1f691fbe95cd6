use mathlib.Core.Path.{◌≡◌}
use Rattle.taking.specs.Hurry.{CalmFor, last_after}
use Rattle.taking.proofs.tens.Block.calm_pairs.Given as goal

-- calm_pairs: as far as each pair was found calm.
abbrev pub invariant-loop-k : goal.invariant-loop-k
invariant-loop-k l = (l.l.bits ≡ last_after l.fn.last.bits l.self.words.now l.k) × CalmFor l.fn.last.bits l.self.words.now l.k

use mathlib.Core.Path.{◌≡◌}
use lib.ListN.{drop}
use Rattle.crc.specs.Crc.{crc_words}
use Rattle.crc.proofs.Entries.{Rule}
use Rattle.crc.proofs.step_words.Given as goal

-- `step_words`: the sheet's rule holds of the code's own table, and what the words left do to the register stays the same.
abbrev pub invariant-loop-word : goal.invariant-loop-word
invariant-loop-word l = Rule l.steps × (crc_words l.r (drop l.word-index l.words) ≡ crc_words l.register l.words)

use mathlib.Core.Path.{refl}
use Rattle.finding.specs.Extract.{extracted}
use Rattle.use_row.proofs.Buffers.{beyond_words}
use Rattle.use_row.proofs.refusals.extract.Goals as goal

pub returns-clause-beyond : goal.returns-clause-beyond
unfolding extracted
returns-clause-beyond c = beyond_words _ _ _ _ c.extract.ensures.answer c.extract.ensures.buffer refl

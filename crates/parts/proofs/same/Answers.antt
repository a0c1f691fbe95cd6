use mathlib.Core.Path.{◌∙◌}
use Rattle.parts.proofs.Comparing.{pointwise-same}
use Rattle.parts.proofs.same.Goals as goal

pub returns : goal.returns
returns c = c.eq.ensures ∙ pointwise-same c.args.first.now c.args.second.now

use mathlib.Core.Path.{◌∙◌}
use borrow.Author.Rules.{rules}
use Rattle.packet.proofs.Words.{header_counted}
use Rattle.packet.proofs.header.Goals as goal

pub returns : goal.returns
returns c = c.nine.ensures ∙ header_counted c.args.byte (search rules)

use mathlib.Core.Path.{sym, ◌∙◌}
use borrow.Author.Rules.{rules}
use Rattle.std.proofs.lemmas.Iterator.{YieldsList-from_slice}
use Rattle.std.proofs.lemmas.Iterator.Search.{any_from_yields_List}
use Rattle.bits.specs.Words.{reserved_code}
use Rattle.bits.proofs.Words.{reserved_of_low}
use Rattle.parts.proofs.Comparing.{any_weaken, list_any-any}
use Rattle.parts.proofs.any_reserved.Goals as goal

pub returns-then-any_low_reserved : goal.returns-then-any_low_reserved
returns-then-any_low_reserved c =
    any_from_yields_List reserved_code _ _ _ c.any.ensures.ran (YieldsList-from_slice c.args.words.now cc) (λ x b q k. search rules)
    ∙ list_any-any reserved_code c.args.words.now

pub returns-else-any_low_reserved : goal.returns-else-any_low_reserved
returns-else-any_low_reserved c =
    let none = c.if-any_low_reserved.false in
    none ∙ sym (any_weaken _ reserved_code reserved_of_low _ (sym c.any_low_reserved.ensures ∙ none))

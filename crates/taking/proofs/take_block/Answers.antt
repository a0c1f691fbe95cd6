-- take_block: the words that are left give what all give.
use mathlib.Core.Path.{sym, ◌∙◌}
use native.Mathlib.Omega.{arith}
use borrow.Author.Tests.{eqb-true, eqb-false}
use Rattle.taking.proofs.Gone.{gone_word, gone_none}
use Rattle.taking.proofs.take_block.Goals as goal

pub returns-then-is_empty : goal.returns-then-is_empty
returns-then-is_empty c =
    let at = c.loop-left in
    let none = eqb-true _ _ (sym c.is_empty.ensures ∙ c.if-is_empty.true) in
    sym (at.invariant ∙ c.hurry-hurried.ensures.rest _ at.s ∙ gone_none _ _ _ _ none)

pub loop-left-preserved : goal.loop-left-preserved
loop-left-preserved c =
    let at = c.loop-left in
    let some = eqb-false _ _ (sym c.is_empty.ensures ∙ c.if-is_empty.false) in
    at.invariant
    ∙ c.hurry-hurried.ensures.rest _ at.s
    ∙ gone_word _ _ c.hurry-hurried.result.left.words.now _ (omega (arith, some)) c.take_word-s.ensures
    ∙ rw c.after-left.ensures

use mathlib.Core.Path.{◌∙◌}
use borrow.Author.Rules.{rules}
use Rattle.std.proofs.Common.{tests}
use Rattle.std.proofs.lemmas.Iterator.{YieldsList-from_slice}
use Rattle.std.proofs.lemmas.Iterator.Consumers.{count_from_yields_List}
use Rattle.std.proofs.lemmas.Iterator.Search.{YieldsList-from_take_while}
use Rattle.std.proofs.lemmas.List.{take_rest}
use Rattle.std.proofs.lemmas.List.Folds.{length-prefix_len}
use Rattle.scan.proofs.Pieces.{none_zero, scanned_onward}
use Rattle.scan.proofs.onward.Goals as goal

pub returns-clause-rest : goal.returns-clause-rest
returns-clause-rest c =
    let chunks = c.as_chunks.result.0.now in
    scanned_onward 16 _ _ _ c.args.region.now chunks (rw take_rest at c.as_chunks.ensures.front)
    (count_from_yields_List c.take_while.result _ c.count-passed.ensures.ran
    (YieldsList-from_take_while _ none_zero (YieldsList-from_slice chunks cc) c.take_while.ensures.closure c.take_while.ensures.done (λ x b q k. search (rules, tests)))
    ∙ length-prefix_len none_zero chunks)

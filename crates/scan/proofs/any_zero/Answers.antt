use mathlib.Core.Path.{◌∙◌}
use mathlib.Core.Bool.{false, ◌||◌}
use borrow.Author.Rules.{rules}
use lib.Dec.{eqb}
use Rattle.std.proofs.lemmas.Iterator.{YieldsList-from_slice}
use Rattle.std.proofs.lemmas.Iterator.Consumers.{fold_from_yields_List}
use Rattle.parts.proofs.Comparing.{any_fold}
use Rattle.scan.proofs.any_zero.Goals as goal

pub returns : goal.returns
returns c =
    fold_from_yields_List _ (λ found w. found || eqb w 0) false _ c.fold.ensures.ran (YieldsList-from_slice c.args.words.now cc) (λ a x b q k. search rules)
    ∙ any_fold (λ w. eqb w 0) false c.args.words.now

use mathlib.Core.Path.{◌∙◌}
use mathlib.Core.Bool.{true, ◌&&◌}
use lib.Dec.{leb}
use borrow.Author.Rules.{rules}
use Rattle.std.proofs.lemmas.Iterator.{YieldsList-from_slice}
use Rattle.std.proofs.lemmas.Iterator.Consumers.{fold_from_yields_List}
use Rattle.bits.proofs.Words.{words10_fold}
use Rattle.bits.proofs.all_words.Goals as goal

pub returns : goal.returns
returns c =
    fold_from_yields_List _ (λ all w. all && leb w 0x3ff) true _ c.fold.ensures.ran (YieldsList-from_slice c.args.words.now cc) (λ a x b q k. search rules)
    ∙ words10_fold true c.args.words.now

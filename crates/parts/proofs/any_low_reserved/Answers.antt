use mathlib.Core.Path.{◌∙◌}
use mathlib.Core.Bool.{Bool, false, ◌||◌}
use Prim.Native.Nat.{ℕ, ◌%◌}
use borrow.Author.Rules.{rules}
use Rattle.std.proofs.lemmas.Iterator.{YieldsList-from_slice}
use Rattle.std.proofs.lemmas.Iterator.Consumers.{fold_from_yields_List}
use Rattle.bits.specs.Words.{reserved_code}
use Rattle.bits.proofs.Words.{reserved_low}
use Rattle.parts.proofs.Comparing.{any_fold}
use Rattle.parts.proofs.any_low_reserved.Goals as goal

low : ℕ → Bool
low w = reserved_code (w % 1024)

pub returns : goal.returns
unfolding low
returns c =
    fold_from_yields_List _ (λ found w. found || low w) false _ c.fold.ensures.ran (YieldsList-from_slice c.args.words.now cc) (λ a x b q k. rw (← reserved_low) (search rules))
    ∙ any_fold low false c.args.words.now

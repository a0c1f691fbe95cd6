use mathlib.Core.Path.{◌≡◌, ◌∙◌}
use Prim.Native.Nat.{◌+◌, ◌%◌}
use native.Mathlib.Omega.{arith}
use borrow.Author.Rules.{rules}
use Rattle.std.specs.List.{fold}
use Rattle.std.proofs.lemmas.Iterator.{YieldsList-from_slice}
use Rattle.std.proofs.lemmas.Iterator.Consumers.{fold_from_yields_List}
use Rattle.scan.proofs.Packets.{sum_fold, checksum_by_sum}
use Rattle.scan.proofs.checksum.Goals as goal

pub returns : goal.returns
returns c =
    let ws = c.args.words.now in
    let sum : c.fold-sum.result ≡ fold (λ sum w. (sum + w) % 65536) 0 ws =
    fold_from_yields_List _ (λ sum w. (sum + w) % 65536) 0 _ c.fold-sum.ensures.ran (YieldsList-from_slice ws cc) (λ a x b q k. search rules) in
    c.nine.ensures ∙ checksum_by_sum _ ws (rw sum (sum_fold 0 ws ∙ omega arith))

use borrow.Author.Rules.{rules}
use Rattle.finding.proofs.Finding.{found_or_else, found_of_ancillary}
use Rattle.finding.proofs.find_channel.Goals as goal

pub returns : goal.returns
returns c =
    let at = c.args in
    rw (found_of_ancillary at.did at.sdid at.plan at.words.now)
    (found_or_else _ _ _ _ (rw c.part-blanking.ensures at c.find_in.ensures) c.or_else.ensures (λ q. search rules))

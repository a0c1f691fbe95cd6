use Rattle.use_leaf.proofs.ThereAndBack.{there_and_back}
use Rattle.use_leaf.proofs.shows.there_and_back.Goals as goal

pub returns-clause-words : goal.returns-clause-words
returns-clause-words c =
    let there = c.scramble-there.ensures in
    let back = c.unscramble-back.ensures in
    let at = c.args in there_and_back at.history at.words.now at.cable.now at.back.now _ there.answer there.output c.part.ensures back.answer back.output

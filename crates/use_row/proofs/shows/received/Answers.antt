use mathlib.Core.Path.{ap, ◌∙◌}
use lib.ListN.{length}
use Rattle.cable.proofs.Words.{length_unscramble}
use Rattle.use_row.proofs.Received.{unscramble_words_sent}
use Rattle.use_row.proofs.shows.received.Goals as goal

pub returns : goal.returns
returns c = λ ok same size.
    let at = c.args in
    let sent = unscramble_words_sent at.history at.cable.now at.words.now _ ok c.unscramble.ensures.output c.part.ensures in
    let done = c.parted.ensures same (ap length sent ∙ length_unscramble at.history at.cable.now ∙ size) in
    (done.0, done.1 ∙ sent)

-- Words that are taken in one feed may be cut into feeds anywhere.
use Rattle.law_module.proofs.Refusals.{feed_taken}
use Rattle.law_module.proofs.Cuts.{fed_all_of_pieces}
use Rattle.parts.specs.Parts.{end_to_end}
use Rattle.demands.specs.Demands.{FeedsCut}

pub feeds_cut : FeedsCut
unfolding FeedsCut
feeds_cut feeds x ok =
    let ready = feed_taken x.session (end_to_end feeds) x.y x.c ok in
    fed_all_of_pieces feeds x ready.0 ready.1

use borrow.Author.Rules.{rules}
use Rattle.parts.specs.Parts.{in_part}
use Rattle.region.specs.Region.{wipe_packet, wiped}
use Rattle.region.proofs.wipe.Goals as goal

pub returns : goal.returns
unfolding wiped in_part
returns c = c.change_packets.ensures (wipe_packet c.args.blank) (λ lent left e. search rules)

use Rattle.parts.specs.Parts.{in_part}
use Rattle.region.specs.Region.{mend_packet, mended}
use Rattle.region.proofs.mend.Goals as goal

pub returns : goal.returns
unfolding mended in_part
returns c = c.change_packets.ensures mend_packet (λ lent left e. e)

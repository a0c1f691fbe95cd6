-- A packet that is built is whole and has a right checksum.
use mathlib.Core.Path.{ap, ◌∙◌}
use lib.ListN.{length}
use Rattle.packet.proofs.Refusals.{lawful_of_built}
use Rattle.law_row.specs.Lawful.{right_packet}
use Rattle.law_row.proofs.FoundPacket as Found
use Rattle.demands.specs.Demands.{PacketRight}
use Rattle.demands.proofs.BuiltPackets.{none_refused, built_whole}

pub packet_right : PacketRight
unfolding PacketRight
packet_right did sdid user out made =
    ap right_packet (built_whole did sdid user out made)
    ∙ Found.packet_right did sdid user (lawful_of_built did user (length out) (none_refused did sdid user out made)).0.few

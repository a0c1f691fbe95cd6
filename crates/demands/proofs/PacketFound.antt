-- A packet that is built and laid into blanking is found.
use mathlib.Core.Path.{refl}
use Rattle.parts.specs.Parts.{laid}
use Rattle.parts.proofs.Comparing.{same_true}
use Rattle.finding.specs.Find.{find_of}
use Rattle.law_row.proofs.FoundPacket.{sought_found}
use Rattle.demands.specs.Demands.{built_packet, PacketFound}
use Rattle.demands.proofs.BuiltPackets.{built_done, built_size}

pub packet-found : PacketFound
unfolding PacketFound
packet-found code line did sdid at user out y c packets d s made free placed =
    let packet = built_packet did sdid user out in
    let size = built_size did sdid user out made in
    same_true (find_of code line did sdid (laid at packet y) c) packet
    (sought_found code line did sdid user out y c refl at refl size refl refl refl d s free (built_done did sdid user out made) packets placed)

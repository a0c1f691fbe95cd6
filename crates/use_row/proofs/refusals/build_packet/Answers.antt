use Rattle.packet.specs.Build.{built}
use Rattle.packet.proofs.Packets.{length-packet}
use Rattle.use_row.proofs.Buffers.{beyond_words}
use Rattle.use_row.proofs.refusals.build_packet.Goals as goal

pub returns-clause-beyond : goal.returns-clause-beyond
unfolding built
returns-clause-beyond c =
    let at = c.args in beyond_words _ _ _ _ c.build.ensures.answer c.build.ensures.buffer (length-packet at.did at.sdid at.user.now)

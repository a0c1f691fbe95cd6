use mathlib.Core.Path.{sym}
use Rattle.packet.proofs.Words.{checksum_sum_fits, checksum_of_append}
use Rattle.packet.proofs.Packets.{packet-laid}
use Rattle.packet.proofs.lay_packet.Goals as goal

pub overflow_add-checksum : goal.overflow_add-checksum
overflow_add-checksum c = rw (c.checksum.ensures, c.checksum-2.ensures) (record { fits = checksum_sum_fits _ _ })

pub returns : goal.returns
returns c =
    rw (
      c.put.ensures,
      c.lay-3.ensures,
      c.lay-2.ensures,
      c.lay.ensures,
      c.nine-checksum.ensures,
      c.checksum-2.ensures,
      c.checksum.ensures,
      ← checksum_of_append,
      c.header.ensures,
      c.header-2.ensures,
      c.header-3.ensures,
    ) (sym (packet-laid _ _ _ _))

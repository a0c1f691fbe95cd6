use Rattle.compose.proofs.Laying.{laid_head}
use Rattle.compose.proofs.lay_head.Goals as goal

pub returns : goal.returns
returns c =
    rw (
      c.lay_pair-2.ensures,
      c.lay_pair.ensures,
      c.lay.ensures,
      c.trs.ensures,
      laid_head c.args.plan c.requires,
      c.crc_for-made.ensures,
    )

use mathlib.Core.Path.{sym}
use Rattle.std.specs.Prelude.{is_some, unwrap_or}
use Rattle.compose.proofs.Laying.{laid-stream_of}
use Rattle.compose.proofs.lay_stream.Goals as goal

pub returns : goal.returns
returns c =
    let at = c.args in
    rw (c.lay-3.ensures, c.lay-2.ensures, c.trs.ensures, c.fill.ensures, c.lay.ensures, c.lay_head.ensures)
    (sym (laid-stream_of at.plan c.requires.places (is_some at.carried) (unwrap_or at.carried 0) at.blank at.active.now at.blanking.now at.out.now c.requires.room))

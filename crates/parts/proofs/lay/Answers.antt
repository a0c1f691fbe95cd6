use mathlib.Core.Path.{sym, ◌∙◌}
use lib.ListN.{length}
use Rattle.parts.proofs.Inside.{part_between, put_in_part}
use Rattle.parts.proofs.Laid.{laid_over}
use Rattle.parts.proofs.lay.Goals as goal

pub returns : goal.returns
returns c =
    let a = c.args in
    let r = c.range-here.ensures in
    let count = length a.words.now in
    put_in_part a.at count a.buffer.now r.start r.end c.copy_from_slice.new.self
    ∙ rw (c.copy_from_slice.ensures.after, c.part.ensures, part_between a.at count a.buffer.now r.start r.end) (sym (laid_over a.at a.words.now a.buffer.now))

use mathlib.Core.Path.{sym, ◌∙◌}
use Rattle.parts.proofs.Inside.{part_between, put_in_part}
use Rattle.parts.proofs.Laid.{laid_repeat}
use Rattle.parts.proofs.fill.Goals as goal

pub returns : goal.returns
returns c =
    let a = c.args in
    let r = c.range-here.ensures in
    put_in_part a.at a.count a.buffer.now r.start r.end c.fill.new.self
    ∙ rw (c.fill.ensures.after (λ y e. e), part_between a.at a.count a.buffer.now r.start r.end) (sym (laid_repeat a.at a.count a.word a.buffer.now))

use mathlib.Core.Path.{sym}
use Rattle.std.proofs.lemmas.Result.{err_from_is_err_and}
use Rattle.raster.proofs.Lines.{line_facts_ok, line_facts_err}
use Rattle.timing.proofs.Line.{line_words_made, line_words_refused}
use Rattle.timing.proofs.line_words.Goals as goal

pub returns-in_err-line_facts : goal.returns-in_err-line_facts
returns-in_err-line_facts c =
    let at = c.args in
    let bad = line_facts_err at.raster at.line (sym c.in_err-line_facts.ensures) in
    let p = err_from_is_err_and c.from_residual.result c.from_residual.ensures.1 in
    rw (p.1, p.2, bad.1, line_words_refused at.raster at.line bad.0)

pub returns : goal.returns
returns c =
    let at = c.args in
    rw (c.nine-ln0.ensures, c.nine-ln1.ensures, line_words_made at.raster at.line (line_facts_ok at.raster at.line (sym c.in_ok-line_facts.ensures)).0)

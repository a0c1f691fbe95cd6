use mathlib.Core.Path.{sym}
use Rattle.std.proofs.lemmas.Result.{err_from_is_err_and}
use Rattle.refusal.proofs.Answers.{result_of_ok, result_of_bad, result_of_err}
use Rattle.parts.proofs.Laid.{unless_refused-refused}
use Rattle.finding.specs.Extract.{packets_in, extract_refusal, extracted}
use Rattle.finding.proofs.Extracting.{refused_first}
use Rattle.finding.proofs.extract.Goals as goal

pub returns-in_err-plan : goal.returns-in_err-plan
unfolding extracted
returns-in_err-plan c =
    let at = c.args in
    let bad = result_of_err _ _ (sym c.in_err-plan.ensures) in
    let p = err_from_is_err_and c.from_residual.result c.from_residual.ensures.1 in
    record {
      answer = rw (p.1, p.2, bad.1, refused_first at.raster at.line at.channel at.y.now at.c.now _ bad.0, result_of_bad _ _ bad.0);
      buffer = rw (refused_first at.raster at.line at.channel at.y.now at.c.now _ bad.0) (sym (unless_refused-refused _ _ _ bad.0));
    }

pub returns : goal.returns
unfolding packets_in extract_refusal extracted
returns c =
    let made = c.extract_channel.ensures in
    let ok = result_of_ok _ _ (sym c.in_ok-plan.ensures) in
    record {
      answer = rw (ok.0, ← ok.1, ← c.words.ensures) made.answer;
      buffer = rw (ok.0, ← ok.1, ← c.words.ensures) made.buffer;
    }

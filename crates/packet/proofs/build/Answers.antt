use mathlib.Core.Path.{sym}
use Rattle.std.proofs.lemmas.Result.{err_from_is_err_and}
use Rattle.refusal.proofs.Answers.{result_of_zero, result_of_ok, result_of_bad, result_of_err}
use Rattle.packet.specs.Build.{built}
use Rattle.packet.proofs.Refusals.{lawful_of_built}
use Rattle.packet.proofs.build.Goals as goal

pub returns-in_err-build_refusal-clause-answer : goal.returns-in_err-build_refusal-clause-answer
unfolding built
returns-in_err-build_refusal-clause-answer c =
    let bad = result_of_err (tt {0}) _ (sym c.in_err-build_refusal.ensures) in
    let p = err_from_is_err_and c.from_residual.result c.from_residual.ensures.1 in
    rw (p.1, p.2, bad.1, result_of_bad _ _ bad.0)

pub lay_packet-requires : goal.lay_packet-requires
lay_packet-requires c = (lawful_of_built _ _ _ (result_of_ok (tt {0}) _ (sym c.in_ok-build_refusal.ensures)).0).0.few

pub returns-clause-answer : goal.returns-clause-answer
unfolding built
returns-clause-answer c = sym (result_of_zero _ _ (result_of_ok (tt {0}) _ (sym c.in_ok-build_refusal.ensures)).0)

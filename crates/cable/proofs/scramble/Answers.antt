-- scramble: without a refusal, history, words and room are as code wants them, and its steps are those of the definition.
use mathlib.Core.Path.{sym, ◌∙◌}
use native.Mathlib.Omega.{arith}
use Rattle.std.proofs.Common.{rules}
use Rattle.refusal.proofs.Answers.{result_of_ok}
use Rattle.cable.specs.Words.{scramble_word, scramble_words, scramble_next}
use Rattle.cable.proofs.Coding.{filled_stepwise}
use Rattle.cable.proofs.Words.{scrambling, code_refusal_none}
use Rattle.cable.proofs.scramble.Goals as goal

pub code-requires-clause-room : goal.code-requires-clause-room
code-requires-clause-room c =
    let tests = code_refusal_none _ _ _ (result_of_ok tt _ (sym c.in_ok-code_refusal.ensures)).0 in
    omega arith

pub returns : goal.returns
unfolding scramble_word scramble_words scramble_next
returns c =
    let none = (result_of_ok tt _ (sym c.in_ok-code_refusal.ensures)).0 in
    let tests = code_refusal_none _ _ _ none in
    let done = filled_stepwise scrambling c.code.ensures (λ h w r p. search rules) (omega arith) tests.1 in
    record { answer = rw (none, done.0); output = done.1 ∙ rw none }

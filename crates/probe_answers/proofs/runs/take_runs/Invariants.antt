use Rattle.std.proofs.Common.{length, ◌≤◌}
use Rattle.probe_answers.proofs.runs.take_runs.Given as goal

abbrev pub invariant-loop-run : goal.invariant-loop-run
invariant-loop-run l = l.count ≤ length l.words

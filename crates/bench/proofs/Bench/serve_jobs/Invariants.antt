use Rattle.std.proofs.Common.{length}
use Rattle.bench.proofs.Bench.serve_jobs.Given as goal

abbrev pub decreases-loop-bytes : goal.decreases-loop-bytes
decreases-loop-bytes g l = length l.bytes

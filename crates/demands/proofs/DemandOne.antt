-- Demand 1.
use Rattle.law_file.proofs.NeverRefused.{never_refused}
use Rattle.law_file.proofs.Pieces.{served_alike, pieces_served}
use Rattle.law_file.proofs.Lines.{bench_prints}
use Rattle.law_file.proofs.Append.{job_alone, refused_alone}
use Rattle.demands.specs.Demands.{DemandOne}
use Rattle.demands.proofs.EachCall.{each_call}
use Rattle.demands.proofs.EachOutcome.{each_outcome}
use Rattle.demands.proofs.InRange.{in_range_holds}
use Rattle.demands.proofs.VerdictOwn.{verdict_own}
use Rattle.demands.proofs.SameVerdict.{same_verdict}
use Rattle.demands.proofs.LeftBetween.{left-between}
use Rattle.demands.proofs.TakenAlone.{taken_alone}
use Rattle.demands.proofs.NothingTaken.{nothing-taken}
use Rattle.demands.proofs.NothingLeft.{nothing_left}

pub demand_one : DemandOne
demand_one =
    record {
      calls = each_call;
      outcomes = each_outcome;
      in_range_holds = in_range_holds;
      own = verdict_own;
      same = same_verdict;
      between = left-between;
      taken_alone = taken_alone;
      nothing-taken = nothing-taken;
      nothing_left = nothing_left;
      never_refused = never_refused;
      served_alike = served_alike;
      pieces_served = pieces_served;
      bench_prints = bench_prints;
      job_alone = job_alone;
      refused_alone = refused_alone;
    }

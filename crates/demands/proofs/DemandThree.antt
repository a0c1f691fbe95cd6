-- Demand 3.
use Rattle.law_burst.proofs.Flagged.{burst_flagged}
use Rattle.law_struck.proofs.Fails.{struck_fails}
use Rattle.demands.specs.Demands.{DemandThree}
use Rattle.demands.proofs.RowsStruck.{rows_struck}

pub demand_three : DemandThree
demand_three = record { burst_flagged = burst_flagged; rows_struck = rows_struck; struck_fails = struck_fails }

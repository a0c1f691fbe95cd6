use mathlib.Core.Path.{◌≡◌}
use Prim.Native.Nat.{◌-◌, ◌≤◌}
use lib.ListN.{length, drop}
use Rattle.scan.specs.Scan.{scan, next_packet}
use Rattle.scan.proofs.next_packet.Given as goal

abbrev pub invariant-loop-at : goal.invariant-loop-at
invariant-loop-at l = (l.from ≤ l.at) × (next_packet l.from (scan (drop l.from l.region)) ≡ next_packet l.at (scan (drop l.at l.region)))

abbrev pub decreases-loop-at : goal.decreases-loop-at
decreases-loop-at l = length l.region - l.at

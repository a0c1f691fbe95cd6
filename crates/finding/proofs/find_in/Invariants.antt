use mathlib.Core.Path.{◌≡◌}
use Prim.Native.Nat.{◌-◌}
use lib.ListN.{length, drop}
use Rattle.scan.specs.Scan.{scan}
use Rattle.finding.specs.Find.{found}
use Rattle.finding.proofs.find_in.Given as goal

abbrev pub invariant-loop-place : goal.invariant-loop-place
invariant-loop-place l = found l.did l.sdid (scan l.region) ≡ found l.did l.sdid (scan (drop l.next l.region))

abbrev pub decreases-loop-place : goal.decreases-loop-place
decreases-loop-place l = length l.region - l.next

use mathlib.Core.Path.{◌≡◌}
use Prim.Native.Nat.{◌+◌, ◌-◌}
use lib.ListN.{length, drop}
use Rattle.parts.specs.Parts.{laid}
use Rattle.scan.specs.Scan.{packets_of, scan}
use Rattle.finding.proofs.copy_region.Given as goal

abbrev pub invariant-loop-place : goal.invariant-loop-place
invariant-loop-place l = (length l.out ≡ length l.initial.out)
    × (l.from + length (packets_of (scan l.region)) ≡ l.at + length (packets_of (scan (drop l.next l.region))))
    × (laid l.from (packets_of (scan l.region)) l.initial.out ≡ laid l.at (packets_of (scan (drop l.next l.region))) l.out)

abbrev pub decreases-loop-place : goal.decreases-loop-place
decreases-loop-place l = length l.region - l.next

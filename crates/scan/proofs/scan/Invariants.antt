use mathlib.Core.Path.{◌≡◌}
use Prim.Native.Nat.{◌+◌, ◌-◌, ◌%◌, ◌≤◌}
use lib.ListN.{take, drop}
use Rattle.scan.specs.Packet.{sum_of}
use Rattle.scan.specs.Scan.{scan, scanned}
use Rattle.scan.proofs.Pieces.{with_rest}
use Rattle.scan.proofs.scan.Given as goal

abbrev pub invariant-loop-j : goal.invariant-loop-j
invariant-loop-j l = (l.i ≡ l.initial.i)
    × (l.cut ≡ l.initial.cut)
    × ((l.sum + sum_of (drop l.j (take l.last (drop l.initial.i l.region)))) % 512 ≡ sum_of (drop 3 (take l.last (drop l.initial.i l.region))) % 512)

abbrev pub invariant-scan : goal.invariant-scan
invariant-scan l = (l.words ≤ l.i) × (l.i ≤ l.n) × (scanned (scan l.region) ≡ with_rest l.words l.cut l.wrong (scanned (scan (drop l.i l.region))))

abbrev pub decreases-scan : goal.decreases-scan
decreases-scan l = l.n - l.i

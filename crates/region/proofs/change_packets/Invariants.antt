use mathlib.Core.Path.{◌≡◌}
use mathlib.Core.List.{List}
use Prim.Native.Nat.{ℕ, ◌-◌}
use lib.ListN.{length}
use Rattle.region.specs.Region.{ChangesBy, change_piece, changed}
use Rattle.region.proofs.Pieces.{todo}
use Rattle.region.proofs.change_packets.Given as goal

abbrev pub invariant-loop-packet : goal.invariant-loop-packet
invariant-loop-packet g l = (f : List ℕ → List ℕ) → ChangesBy g.F.Fn l.change f → changed f l.initial.region ≡ todo (change_piece f) l.region l.at

abbrev pub decreases-loop-packet : goal.decreases-loop-packet
decreases-loop-packet g l = length l.initial.region - l.at

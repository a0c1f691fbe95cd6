-- Laws of bytes that are taken ahead: of none, of some and then others, and of one that the reader takes alone.
use mathlib.Core.Path.{◌≡◌, refl, ap, ◌∙◌}
use mathlib.Core.List.{List}
use Prim.Native.Nat.{ℕ, ◌+◌, ◌<◌}
use native.Mathlib.Omega.{arith}
use lib.ListN.{length, get_or, drop}
use Rattle.reader.specs.declared.Piece.TheVariants.{More}
use Rattle.reader.specs.declared.Reader.{Reader}
use Rattle.reader.specs.Reader.{brings, read_of}
use Rattle.desk.specs.Desk.{desk, Standing, standing, walked, Ahead, AheadAlone}
use Rattle.desk.proofs.Walking.{by_read, walked_byte}

pub ahead_none : (bs : List ℕ) (x : Standing) (at : ℕ) → at < length bs → Ahead bs x at x at
ahead_none bs x at l = record { onward = omega arith; within = l; rest = refl }

pub ahead_then : {bs : List ℕ} {x y z : Standing} {i j k : ℕ} → Ahead bs x i y j → Ahead bs y j z k → Ahead bs x i z k
ahead_then a b = record { onward = omega arith; within = b.within; rest = a.rest ∙ b.rest }

-- what completes nothing and ends no job changes the reader alone
pub ahead_more : {r next : Reader} (bs : List ℕ) (at : ℕ) → brings More next ≡ read_of r (get_or bs at 0) → at + 1 < length bs
    → AheadAlone bs r at next (at + 1)
ahead_more {r} bs at e m s y c = record {
  onward = omega arith;
  within = m;
  rest = walked_byte at bs (standing (desk r s) y c) (omega arith) ∙ ap (walked (drop (at + 1) bs)) (by_read r s (get_or bs at 0) y c at e);
}

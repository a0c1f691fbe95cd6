-- The range of a session's numbers, part by part.
use mathlib.Core.Path.{◌≡◌, sym}
use mathlib.Core.Bool.{Bool, true, false, ◌&&◌, and-false}
use Prim.Native.Nat.{ℕ, zero, suc}
use lib.Dec.{leb}
use Rattle.std.proofs.Math.Dec.{eqb-suc-zero}
use Rattle.bits.proofs.Choice.{false_not_true, and-true}
use Rattle.raster.specs.Table.{raster_ok, total_of, rows_of}
use Rattle.session.specs.declared.Session.{Session}
use Rattle.session.specs.Session.{raster_in, sight_in, track_in, in_range}

-- a raster in range is one of 0..11
pub raster_in_listed : (running : Bool) (code : ℕ) → raster_ok code ≡ false → raster_in running code ≡ false
raster_in_listed true zero bad = absurd (false_not_true (sym bad))
raster_in_listed true (suc n) bad = rw (bad, and-false (leb 1 (suc n)))
raster_in_listed false zero bad = absurd (false_not_true (sym bad))
raster_in_listed false (suc n) bad = eqb-suc-zero n

pub record Ranges (s : Session) : Type 0 where
  pub raster : raster_in s.running s.raster ≡ true
  pub history : leb s.history 0x3ff ≡ true
  pub sight : sight_in (total_of s.raster) s.state.sight ≡ true
  pub track : track_in (rows_of s.raster) s.state.track ≡ true

pub in_range_holds : (s : Session) → Ranges s → in_range s ≡ true
unfolding in_range
in_range_holds s r = rw (r.raster, r.history, r.sight, r.track)

pub ranges : (s : Session) → in_range s ≡ true → Ranges s
unfolding in_range
ranges s h =
    let a = and-true (raster_in s.running s.raster) _ h in
    let b = and-true (leb s.history 0x3ff) _ a.1 in
    let c = and-true (sight_in (total_of s.raster) s.state.sight) _ b.1 in
    record { raster = a.0; history = b.0; sight = c.0; track = c.1 }

-- an open session has a raster
pub open_raster : (s : Session) → (s.running && in_range s) ≡ true → raster_ok s.raster ≡ true
open_raster s is_open =
    let both = and-true s.running (in_range s) is_open in
    (and-true (leb 1 s.raster) (raster_ok s.raster) (rw both.0 at (ranges s both.1).raster)).1

-- Laws of the refusals: the tests of the code and those of the definitions, and what a feed is that is not refused.
use mathlib.Core.Path.{◌≡◌, refl}
use mathlib.Core.Bool.{Bool, true, false, ◌&&◌}
use mathlib.Core.List.{List}
use Prim.Native.Nat.{ℕ, ◌≤◌}
use lib.Dec.{leb}
use lib.ListN.{length}
use borrow.Author.Tests.{leb-true}
use Rattle.bits.specs.Choice.{if}
use Rattle.bits.specs.Words.{words10}
use Rattle.bits.proofs.Choice.{and-true, if_zero}
use Rattle.std.specs.Prelude.{Ok, Err}
use Rattle.refusal.specs.declared.Refusal.{Refusal}
use Rattle.refusal.specs.declared.Refusal.TheVariants.{OutOfTurn}
use Rattle.refusal.proofs.Answers.{ok_same, err_same, ok_not_err}
use Rattle.raster.specs.declared.Raster.{Raster}
use Rattle.raster.specs.Table.{raster_ok, raster_given, total_of}
use Rattle.session.specs.declared.Session.{Session}
use Rattle.session.specs.Session.{in_range, opened, feed_refusal}
use Rattle.session.proofs.Ranges.{ranges}

-- ---- opened

module _ (s : Session) where
  pub opened_ok : {raster : Raster} → opened s ≡ Ok raster → ((s.running && in_range s) ≡ true) × (raster ≡ raster_given s.raster)
  unfolding opened
  opened_ok {raster} e = go (s.running && in_range s) refl
    where
      go : (b : Bool) → (s.running && in_range s) ≡ b → ((s.running && in_range s) ≡ true) × (raster ≡ raster_given s.raster)
      go true is_open = (is_open, ok_same e (rw is_open))
      go false shut = absurd (ok_not_err {e = OutOfTurn} e (rw shut))

  pub opened_err : {refusal : Refusal} → opened s ≡ Err refusal → ((s.running && in_range s) ≡ false) × (refusal ≡ OutOfTurn)
  unfolding opened
  opened_err {refusal} e = go (s.running && in_range s) refl
    where
      go : (b : Bool) → (s.running && in_range s) ≡ b → ((s.running && in_range s) ≡ false) × (refusal ≡ OutOfTurn)
      go true is_open = absurd (ok_not_err {a = raster_given s.raster} (rw is_open) e)
      go false shut = (shut, err_same e (rw shut))

-- ---- feed

-- an open session in range, and buffers that a row fits into
pub record Ready (s : Session) (y c : List ℕ) : Type 0 where
  pub running : s.running ≡ true
  pub in_range_holds : in_range s ≡ true
  pub y_room_is : total_of s.raster ≤ length y
  pub c_room_is : total_of s.raster ≤ length c

pub ready_raster : {s : Session} {y c : List ℕ} → Ready s y c → raster_ok s.raster ≡ true
ready_raster {s} r = (and-true (leb 1 s.raster) (raster_ok s.raster) (rw r.running at (ranges s r.in_range_holds).raster)).1

pub ready_history : {s : Session} {y c : List ℕ} → Ready s y c → s.history ≤ 0x3ff
ready_history {s} r = leb-true s.history 0x3ff (ranges s r.in_range_holds).history

pub feed_taken : (s : Session) (ws y c : List ℕ) → feed_refusal s ws y c ≡ 0 → Ready s y c × (words10 ws ≡ true)
unfolding feed_refusal
feed_taken s ws y c e =
    let t = total_of s.raster in
    let a = if_zero (s.running && in_range s) (if (words10 ws) (if (leb t (length y) && leb t (length c)) 0 1) 3) 6 e in
    let b = if_zero (words10 ws) (if (leb t (length y) && leb t (length c)) 0 1) 2 a.1 in
    let d = if_zero (leb t (length y) && leb t (length c)) 0 0 b.1 in
    let r = and-true s.running (in_range s) a.0 in
    let l = and-true (leb t (length y)) (leb t (length c)) d.0 in
    (record { running = r.0; in_range_holds = r.1; y_room_is = leb-true t (length y) l.0; c_room_is = leb-true t (length c) l.1 }, b.0)

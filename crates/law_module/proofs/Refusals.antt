-- Calls that are not refused: what they have, and what suffices; and what any call leaves.
use mathlib.Core.Path.{◌≡◌, refl}
use mathlib.Core.Bool.{true, false, not, ◌&&◌}
use mathlib.Core.List.{List}
use Prim.Native.Nat.{ℕ, zero, suc}
use lib.ListN.{length}
use borrow.Author.Tests.{le-leb, not-true}
use Rattle.bits.specs.Choice.{if}
use Rattle.bits.specs.Words.{words10}
use Rattle.bits.proofs.Choice.{and-true, if_zero}
use Rattle.refusal.specs.Refusal.{result_of}
use Rattle.raster.specs.Table.{raster_ok, total_of}
use Rattle.session.specs.declared.Session.{Session}
use Rattle.session.specs.Session.{closed, in_range, begin_refusal, feed_refusal, end_refusal, ended_as, ended, session_or, session_left}
pub use Rattle.session.proofs.Refusing.{Ready, feed_taken}

-- ---- begin

pub begin_taken : (s : Session) (code : ℕ) → begin_refusal s code ≡ 0 → (s.running ≡ false) × (in_range s ≡ true) × (raster_ok code ≡ true)
unfolding begin_refusal
begin_taken s code e =
    let a = if_zero (not s.running && in_range s) (if (raster_ok code) 0 4) 6 e in
    let b = and-true (not s.running) (in_range s) a.0 in
    (not-true s.running b.0, b.1, (if_zero (raster_ok code) 0 3 a.1).0)

pub begin_answers : (s : Session) (code : ℕ) → s.running ≡ false → in_range s ≡ true → raster_ok code ≡ true → begin_refusal s code ≡ 0
unfolding begin_refusal
begin_answers s code shut h ok = rw (h, shut, ok)

-- ---- feed

-- the words alone decide
pub feed_ready : (s : Session) (ws y c : List ℕ) → Ready s y c → feed_refusal s ws y c ≡ if (words10 ws) 0 3
unfolding feed_refusal
feed_ready s ws y c r =
    let t = total_of s.raster in
    rw (r.in_range_holds, r.running, le-leb t (length y) r.y_room_is, le-leb t (length c) r.c_room_is)

-- ---- end

pub end_answers : (s : Session) → s.running ≡ true → in_range s ≡ true → end_refusal s ≡ 0
unfolding end_refusal
end_answers s r h = rw (h, r)

-- ---- what is left: the session that a call made, or the one before

module _ (P : Session → Type 0) (s : Session) where
  -- of begin and feed
  pub left_in : (after : Session) (n : ℕ) → P s → (n ≡ 0 → P after) → P (session_or s (result_of n after))
  left_in after zero before made = made refl
  left_in after (suc n) before made = before

  pub left_at_end : P s → P closed → P (session_left s (ended s))
  unfolding ended
  left_at_end before shut = go (end_refusal s)
    where
      go : (n : ℕ) → P (session_left s (result_of n (ended_as s)))
      go zero = shut
      go (suc n) = before

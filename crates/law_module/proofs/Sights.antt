-- What is seen stays in its range, bit after bit.
use mathlib.Core.Path.{◌≡◌, refl}
use mathlib.Core.Logic.{◌⊎◌, inl, inr, ⊎_elim}
use mathlib.Core.Bool.{Bool, true, false, ◌&&◌}
use Prim.Native.Nat.{ℕ, ◌+◌, ◌-◌, ◌≤◌}
use native.Mathlib.Omega.{arith}
use lib.Dec.{leb, eqb}
use borrow.Author.Tests.{leb-true, leb-false, le-leb, eqb-true, eq-eqb, ne_eqb}
use Rattle.bits.specs.Choice.{if}
use Rattle.bits.proofs.Choice.{and-true}
use Rattle.align.specs.Search.{slid}
use Rattle.recogniser.specs.declared.Place.{Place}
use Rattle.recogniser.specs.declared.Sight.{Sight}
use Rattle.recogniser.specs.declared.Event.{Event}
use Rattle.recogniser.specs.declared.Event.TheVariants.{Outside, Within, Pair, Opens, Whole, Early, Late, Astray}
use Rattle.recogniser.specs.Sight.{is_sync, ahead_after, window_after}
use Rattle.recogniser.specs.Event.{is_fourth, event_of, eav_ends, place, nowhere, opened, place_after, looked}
use Rattle.recogniser.proofs.Events.{eav_ends_ahead}
use Rattle.session.specs.Session.{place_in, ahead_in, sight_in}

-- ---- place and ahead in range, in two cases: no row is open, or one is

record NoRow (n : ℕ) (p : Place) : Type 0 where
  pub ahead : n ≤ 20
  pub pairs : p.pairs ≡ 0
  pub bit : p.bit ≡ 0

record OpenRow (total n : ℕ) (p : Place) : Type 0 where
  pub ahead : (n ≡ 0) ⊎ (n + p.bit ≡ 20)
  pub low : 4 ≤ p.pairs
  pub high : p.pairs ≤ total + 3
  pub bit : p.bit ≤ 19

module _ (total n : ℕ) (p : Place) where
  no_row_in : NoRow n p → (place_in total p && ahead_in n p) ≡ true
  no_row_in r = go (eqb n 0)
    where
      go : (a : Bool) → (place_in total p && if a true (if (eqb p.pairs 0) (leb n 20) (eqb (n + p.bit) 20))) ≡ true
      go true = rw (r.pairs, r.bit)
      go false = rw (r.pairs, r.bit, le-leb n 20 r.ahead)

  open_row_in : OpenRow total n p → (place_in total p && ahead_in n p) ≡ true
  open_row_in r = ⊎_elim none some r.ahead
    where
      some_pair : eqb p.pairs 0 ≡ false
      some_pair = ne_eqb p.pairs 0 (λ e. omega (arith, r.low))

      none : n ≡ 0 → (place_in total p && ahead_in n p) ≡ true
      none e = rw (e, some_pair, le-leb 4 p.pairs r.low, le-leb p.pairs (total + 3) r.high, le-leb p.bit 19 r.bit)

      some : n + p.bit ≡ 20 → (place_in total p && ahead_in n p) ≡ true
      some e =
          rw (
            ne_eqb n 0 (λ z. omega (arith, r.bit)),
            some_pair,
            le-leb 4 p.pairs r.low,
            le-leb p.pairs (total + 3) r.high,
            le-leb p.bit 19 r.bit,
            eq-eqb (n + p.bit) 20 e,
          )

  in_cases : (place_in total p && ahead_in n p) ≡ true → NoRow n p ⊎ OpenRow total n p
  in_cases e = go (eqb p.pairs 0) (eqb n 0) refl refl e
    where
      go : (z a : Bool) → eqb p.pairs 0 ≡ z → eqb n 0 ≡ a
          → (if z (eqb p.bit 0) (leb 4 p.pairs && (leb p.pairs (total + 3) && leb p.bit 19))
          && if a true (if z (leb n 20) (eqb (n + p.bit) 20)))
          ≡ true
          → NoRow n p ⊎ OpenRow total n p
      go true true ez ea h =
          inl record { ahead = omega (arith, eqb-true n 0 ea); pairs = eqb-true p.pairs 0 ez; bit = eqb-true p.bit 0 (and-true (eqb p.bit 0) true h).0 }
      go true false ez ea h =
          let q = and-true (eqb p.bit 0) (leb n 20) h in
          inl record { ahead = leb-true n 20 q.1; pairs = eqb-true p.pairs 0 ez; bit = eqb-true p.bit 0 q.0 }
      go false a ez ea h =
          let q = and-true (leb 4 p.pairs && (leb p.pairs (total + 3) && leb p.bit 19)) (if a true (eqb (n + p.bit) 20)) h in
          let r = and-true (leb 4 p.pairs) (leb p.pairs (total + 3) && leb p.bit 19) q.0 in
          let s = and-true (leb p.pairs (total + 3)) (leb p.bit 19) r.1 in
          inr
          record {
            ahead = before a ea q.1;
            low = leb-true 4 p.pairs r.0;
            high = leb-true p.pairs (total + 3) s.0;
            bit = leb-true p.bit 19 s.1;
          }
        where
          before : (a : Bool) → eqb n 0 ≡ a → if a true (eqb (n + p.bit) 20) ≡ true → (n ≡ 0) ⊎ (n + p.bit ≡ 20)
          before true e h = inl (eqb-true n 0 e)
          before false e h = inr (eqb-true (n + p.bit) 20 h)

-- ---- a step

module _ (total ahead : ℕ) (p : Place) where
  abbrev After : Event → Bool → Type 0
  After event sync = (place_in total (place_after event p) && ahead_in (ahead_after ahead sync) (place_after event p)) ≡ true

  -- where a row opens, the sync's XYZ pair has ended
  opens_in : 1 ≤ total → ahead ≡ 1 → (sync : Bool) → (place_in total opened && ahead_in (ahead_after ahead sync) opened) ≡ true
  opens_in t e true = open_row_in total 20 opened record { ahead = inr refl; low = omega arith; high = omega arith; bit = omega arith }
  opens_in t e false = open_row_in total (ahead - 1) opened record { ahead = inl (omega arith); low = omega arith; high = omega arith; bit = omega arith }

  shuts_in : ahead ≤ 20 → (sync : Bool) → (place_in total nowhere && ahead_in (ahead_after ahead sync) nowhere) ≡ true
  shuts_in h true = no_row_in total 20 nowhere record { ahead = omega arith; pairs = refl; bit = refl }
  shuts_in h false = no_row_in total (ahead - 1) nowhere record { ahead = omega arith; pairs = refl; bit = refl }

  no_row_step : 1 ≤ total → NoRow ahead p → (eav sync : Bool) → (eav ≡ true → ahead ≡ 1) → After (if eav Opens Outside) sync
  no_row_step t r true sync one = opens_in t (one refl) sync
  no_row_step t r false sync one = shuts_in r.ahead sync

  open_ahead : OpenRow total ahead p → ahead ≤ 20
  open_ahead r = omega arith

  open_row_step : 1 ≤ total → OpenRow total ahead p → (eav fourth nineteen sync : Bool) → (eav ≡ true → ahead ≡ 1) → is_fourth total p.pairs ≡ fourth → leb 19 p.bit ≡ nineteen
      → After (if eav (if fourth Whole Early) (if nineteen (if fourth Late Pair) (if sync Astray Within))) sync
  open_row_step t r true true nineteen sync one ef en = opens_in t (one refl) sync
  open_row_step t r true false nineteen sync one ef en = opens_in t (one refl) sync
  open_row_step t r false true true sync one ef en = shuts_in (open_ahead r) sync
  open_row_step t r false false true true one ef en =
      open_row_in total 20 (place (p.pairs + 1) 0)
      record { ahead = inr refl; low = omega (arith, r.low); high = omega (arith, leb-false (total + 3) p.pairs ef); bit = omega arith }
  open_row_step t r false false true false one ef en =
      open_row_in total (ahead - 1) (place (p.pairs + 1) 0)
      record {
        ahead = inl (omega (arith, leb-true 19 p.bit en, r.ahead));
        low = omega (arith, r.low);
        high = omega (arith, leb-false (total + 3) p.pairs ef);
        bit = omega arith;
      }
  open_row_step t r false fourth false true one ef en = shuts_in (open_ahead r) true
  open_row_step t r false fourth false false one ef en =
      open_row_in total (ahead - 1) (place p.pairs (p.bit + 1))
      record {
        ahead = before r.ahead;
        low = r.low;
        high = r.high;
        bit = omega (arith, leb-false 19 p.bit en);
      }
    where
      before : (ahead ≡ 0) ⊎ (ahead + p.bit ≡ 20) → (ahead - 1 ≡ 0) ⊎ (ahead - 1 + (p.bit + 1) ≡ 20)
      before (inl e) = inl (omega arith)
      before (inr e) = inr (omega (arith, r.bit))

last_kept : (last : ℕ) (b : Bool) → last ≤ 0xfffffffffffffff → slid last b ≤ 0xfffffffffffffff
last_kept last true h = omega arith
last_kept last false h = omega arith

-- whatever the bit, the range is kept
pub sight_kept : (total : ℕ) (b : Bool) (s : Sight) → 1 ≤ total → sight_in total s ≡ true → sight_in total (looked total b s).sight ≡ true
unfolding looked event_of window_after
sight_kept total b s t h =
    let q = and-true (leb s.window.last 0xfffffffffffffff) (place_in total s.place && ahead_in s.window.ahead s.place) h in
    rw (le-leb (slid s.window.last b) 0xfffffffffffffff (last_kept s.window.last b (leb-true s.window.last 0xfffffffffffffff q.0)))
    (⊎_elim none_open one_open (in_cases total s.window.ahead s.place q.1))
  where
    last : ℕ
    last = slid s.window.last b

    one : eav_ends s.window.ahead last ≡ true → s.window.ahead ≡ 1
    one = eav_ends_ahead s.window.ahead last

    Kept : Type 0
    Kept = After total s.window.ahead s.place (event_of total s.window.ahead s.place last) (is_sync last)

    none_open : NoRow s.window.ahead s.place → Kept
    none_open r = rw (eq-eqb s.place.pairs 0 r.pairs) (no_row_step total s.window.ahead s.place t r (eav_ends s.window.ahead last) (is_sync last) one)

    one_open : OpenRow total s.window.ahead s.place → Kept
    one_open r =
        rw (ne_eqb s.place.pairs 0 (λ e. omega (arith, r.low)))
        (open_row_step total s.window.ahead s.place t r (eav_ends s.window.ahead last) (is_fourth total s.place.pairs) (leb 19 s.place.bit) (is_sync last) one refl refl)

-- What each event says of the place and the window at which it comes.
use mathlib.Core.Path.{◌≡◌, refl}
use mathlib.Core.Bool.{Bool, true, false}
use Prim.Native.Nat.{ℕ, ◌+◌, ◌≤◌, ◌<◌}
use lib.Dec.{leb, eqb}
use borrow.Author.Tests.{eqb-true, eqb-false, leb-true, leb-false}
use Rattle.bits.specs.Choice.{if}
use Rattle.recogniser.specs.declared.Place.{Place}
use Rattle.recogniser.specs.declared.Event.{Event}
use Rattle.recogniser.specs.declared.Event.TheVariants.{Outside, Within, Pair, Opens, Whole, Early, Late, Astray}
use Rattle.recogniser.specs.Sight.{is_sync}
use Rattle.recogniser.specs.Event.{eav_ends, is_fourth, event_of}
use Rattle.recogniser.proofs.Events.{eav_ends_ahead}

-- T, the bits of an XYZ pair to come, the place, the last bits
pub data Cause (total ahead : ℕ) (p : Place) (last : ℕ) : Event → Type 0 where
  outside : p.pairs ≡ 0 → Cause total ahead p last Outside
  opens : p.pairs ≡ 0 → ahead ≡ 1 → Cause total ahead p last Opens
  whole : ahead ≡ 1 → total + 3 ≤ p.pairs → Cause total ahead p last Whole
  early : ahead ≡ 1 → Cause total ahead p last Early
  late : Cause total ahead p last Late
  pair : (p.pairs ≡ 0 → ⊥) → 19 ≤ p.bit → p.pairs < total + 3 → Cause total ahead p last Pair
  astray : Cause total ahead p last Astray
  within : (p.pairs ≡ 0 → ⊥) → p.bit < 19 → is_sync last ≡ false → Cause total ahead p last Within

pub cause_of : (total ahead : ℕ) (p : Place) (last : ℕ) → Cause total ahead p last (event_of total ahead p last)
unfolding event_of
cause_of total ahead p last = go (eqb p.pairs 0) (eav_ends ahead last) (is_fourth total p.pairs) (leb 19 p.bit) (is_sync last) refl refl refl refl refl
  where
    go : (none eav fourth full sync : Bool) → eqb p.pairs 0 ≡ none → eav_ends ahead last ≡ eav → is_fourth total p.pairs ≡ fourth
        → leb 19 p.bit ≡ full → is_sync last ≡ sync
        → Cause total ahead p last (if none (if eav Opens Outside) (if eav (if fourth Whole Early) (if full (if fourth Late Pair) (if sync Astray Within))))
    go true true fourth full sync n e f b s = opens (eqb-true p.pairs 0 n) (eav_ends_ahead ahead last e)
    go true false fourth full sync n e f b s = outside (eqb-true p.pairs 0 n)
    go false true true full sync n e f b s = whole (eav_ends_ahead ahead last e) (leb-true (total + 3) p.pairs f)
    go false true false full sync n e f b s = early (eav_ends_ahead ahead last e)
    go false false true true sync n e f b s = late
    go false false false true sync n e f b s = pair (eqb-false p.pairs 0 n) (leb-true 19 p.bit b) (leb-false (total + 3) p.pairs f)
    go false false fourth false true n e f b s = astray
    go false false fourth false false n e f b s = within (eqb-false p.pairs 0 n) (leb-false 19 p.bit b) s

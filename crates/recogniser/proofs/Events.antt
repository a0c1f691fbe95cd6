-- Laws of the sync's number and of what a bit completes.
use mathlib.Core.Path.{◌≡◌, refl}
use mathlib.Core.Bool.{true, false}
use Prim.Native.Nat.{ℕ}
use lib.Dec.{eqb}
use borrow.Author.Tests.{eqb-true, eq-eqb, ne_eqb}
use Rattle.bits.specs.Bits.{number}
use Rattle.bits.proofs.Choice.{and-true}
use Rattle.raster.specs.Layout.{sync_of, hd_unit}
use Rattle.recogniser.specs.Sight.{is_sync, y_word, is_eav}
use Rattle.recogniser.specs.Event.{eav_ends}

pub sync_number : number (sync_of hd_unit) ≡ 0xfffff
unfolding number
sync_number = refl

pub is_sync-number : (last : ℕ) → last ≡ 0xfffff → is_sync last ≡ true
is_sync-number last e = rw sync_number (eq-eqb last 0xfffff e)

pub is_sync_other : (last : ℕ) → (last ≡ 0xfffff → ⊥) → is_sync last ≡ false
is_sync_other last g = rw sync_number (ne_eqb last 0xfffff g)

-- an EAV ends with its XYZ pair's last bit
pub eav_ends_ahead : (ahead last : ℕ) → eav_ends ahead last ≡ true → ahead ≡ 1
eav_ends_ahead ahead last e = eqb-true ahead 1 (and-true (eqb ahead 1) (is_eav (y_word last)) e).0

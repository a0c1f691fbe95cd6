-- Which number a desk gives.
use mathlib.Core.Path.{◌≡◌, refl}
use mathlib.Core.Bool.{Bool, true, false, not, ◌&&◌, ◌||◌}
use mathlib.Core.List.{List}
use Prim.Native.Nat.{ℕ}
use lib.Dec.{eqb}
use Rattle.bits.specs.Choice.{if}
use Rattle.session.specs.Session.{in_range, end_refusal}
use Rattle.desk.specs.declared.Desk.{Desk}
use Rattle.desk.specs.Desk.{words_at, take_refusal}
use Rattle.law_refusal.specs.Files.{ready, roomy}

-- words are read and the session is not open, as one test
pub take_refusal_by : (d : Desk) (y c : List ℕ) → take_refusal d y c ≡ if (ready d) (if (roomy y c) 0 1) 7
unfolding take_refusal end_refusal
take_refusal_by d y c = go (words_at d.reader.stage) (d.session.running && in_range d.session)
  where
    go : (w o : Bool) → ◌≡◌ {A = ℕ} (if (if w (eqb (if o 0 7) 0) true) (if (roomy y c) 0 1) 7) (if (not w || o) (if (roomy y c) 0 1) 7)
    go true true = refl
    go true false = refl
    go false o = refl

-- The sync that is found is the first; where none is found there is none.
use mathlib.Core.Path.{◌≡◌, sym, ◌∙◌}
use mathlib.Core.Bool.{Bool, true, false}
use mathlib.Core.List.{List}
use Rattle.std.specs.Prelude.{None, Some}
use Prim.Native.Nat.{ℕ}
use native.Mathlib.Omega.{arith}
use Rattle.bits.specs.Choice.{if}
use Rattle.bits.specs.Bits.{word_bits}
use Rattle.bits.specs.Words.{words10}
use Rattle.raster.specs.Layout.{sync_of, hd_unit}
use Rattle.align.specs.Sync.{first_sync, sync_place, found_sync}
use Rattle.align.proofs.FirstSync.{first_starts, first_is_first, none_means_none, found-place}
use Rattle.demands.specs.Demands.{FirstSync}

-- a place is answered of ten-bit words only
place_in : (ws : List ℕ) (n : ℕ) → sync_place (found_sync ws) ≡ Some n → first_sync ws ≡ Some n
place_in ws n e = go (words10 ws) (sym (found-place ws) ∙ e)
  where
    go : (b : Bool) → if b (first_sync ws) None ≡ Some n → first_sync ws ≡ Some n
    go true q = q
    go false q = absurd (let z : ◌≡◌ {A = ℕ} 0 1 = cc in omega arith)

pub first_sync_holds : FirstSync
unfolding first_sync
first_sync_holds =
    record {
      found = λ ws n e.
          let at = place_in ws n e in
          ((first_starts (sync_of hd_unit) (word_bits ws) n at).0, first_is_first (sync_of hd_unit) (word_bits ws) n at);
      nowhere = λ ws tens e.
          none_means_none _ _ (word_bits ws) (sym (found-place ws ∙ rw tens) ∙ e);
    }

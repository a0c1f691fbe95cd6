-- "A run of at most eighteen cable bits", seen in the channels.
use mathlib.Core.Path.{◌≡◌, sym}
use mathlib.Core.Bool.{Bool}
use mathlib.Core.List.{List, ◌++◌}
use Prim.Native.Nat.{ℕ, ◌≤◌, ◌<◌}
use native.Mathlib.Omega.{arith}
use lib.ListN.{length}
use Rattle.cable.specs.Bits.{unscrambled}
use Rattle.cable.proofs.Spread.{spread}
use Rattle.cable.proofs.Channels.{InChannels, window_in_channels}

-- Two cable streams that differ only in a run of at most eighteen bits: whatever came before, and wherever in a pair the first bit stands,
-- each channel's unscrambled bits are alike but for a run of at most eighteen, and in one channel these runs differ.
pub run_in_channels : (p a m n z : List Bool) (k : ℕ) → k < 20 → length m ≡ length n → length m ≤ 18 → (m ≡ n → ⊥)
    → InChannels k (length a) (unscrambled p (a ++ (m ++ z))) (unscrambled p (a ++ (n ++ z)))
run_in_channels p a m n z k place equal short differ =
    let s = spread p a m n z equal differ in
    rw (s.of_one, s.of_other, sym s.length_start)
    (window_in_channels k s.start s.one s.other s.rest place s.length-same (omega arith) s.differ)

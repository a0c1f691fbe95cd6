-- What is seen of the unscrambled bits: the last sixty, and the words and the sync that stand in them.
use Rattle.std.specs.Prelude.{Bool, false, ◌||◌, ℕ, ◌-◌, ◌/◌, ◌%◌, eqb, Option, None, Some, Result, Ok, Err}
use Rattle.bits.specs.Choice.{if}
use Rattle.bits.specs.Bits.{number}
use Rattle.raster.specs.Layout.{sync_of, hd_unit}
use Rattle.align.specs.Search.{slid}
use Rattle.refusal.specs.declared.Refusal.{Refusal}
use Rattle.timing.specs.declared.Fvh.{Fvh}
use Rattle.timing.specs.Xyz.{read_xyz}
use Rattle.recogniser.specs.declared.Window.{Window}
use Rattle.recogniser.specs.declared.Words.{Words}

-- "A sync is 20 ones then 40 zeros, found at any bit of the unscrambled stream": the last sixty bits, oldest lowest, are one
abbrev pub is_sync : ℕ → Bool
is_sync last = eqb last (number (sync_of hd_unit))

-- "Each sample pair is sent C word first, then Y, each lowest bit first.": the words of the last twenty bits
abbrev pub c_word : ℕ → ℕ
c_word last = last / 0x10000000000 % 1024

abbrev pub y_word : ℕ → ℕ
y_word last = last / 0x4000000000000 % 1024

abbrev pub last_pair : ℕ → Words
last_pair last = record { c = c_word last; y = y_word last }

-- "an exact EAV code", "H is 1 in EAV"
abbrev pub eav_read : Result (Option Fvh) Refusal → Bool
eav_read (Err refusal) = false
eav_read (Ok None) = false
eav_read (Ok (Some code)) = code.h

unfoldable pub is_eav : ℕ → Bool
is_eav w = eav_read (read_xyz w)

-- "the next 20 bits are the XYZ pair": how many of them are still to come
abbrev pub ahead_after : ℕ → Bool → ℕ
ahead_after ahead sync = if sync 20 (ahead - 1)

-- after one bit more
unfoldable pub window_after : Bool → Window → Window
window_after b w =
    record {
      last = slid w.last b;
      ahead = ahead_after w.ahead (is_sync (slid w.last b));
      seen = w.seen || is_sync (slid w.last b);
    }

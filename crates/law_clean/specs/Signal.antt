-- A clean signal: rows built line after line, of lawful words.
use Rattle.std.specs.Prelude.{◌≡◌, Bool, true, false, not, ◌&&◌, List, [], ◌∷◌, ◌++◌, ℕ, ◌+◌, ◌-◌, ◌*◌, ◌≤◌, ◌<◌, min, length, take, drop, Some}
use Rattle.bits.specs.Bits.{number, word_bits}
use Rattle.bits.specs.Words.{words10, reserved_code}
use Rattle.raster.specs.Layout.{sync_of, hd_unit}
use Rattle.raster.specs.Table.{meant, total_of, rows_of}
use Rattle.raster.specs.Lines.{line_refusal}
use Rattle.crc.specs.Crc.{crc_start, crc_words}
use Rattle.cable.specs.Bits.{scrambled}
use Rattle.cable.specs.Channels.{paired}
use Rattle.parts.specs.Parts.{any, end_to_end}
use Rattle.plan.specs.declared.Plan.{Plan}
use Rattle.plan.specs.Plan.{plan_of}
use Rattle.row.specs.Before.{Carry, carry_ok}
use Rattle.compose.specs.Compose.{y_stream, c_stream, lengths_ok}
use Rattle.law_row.specs.Lawful.{all_right}
use Rattle.recogniser.specs.Sight.{is_eav}
use Rattle.tally.specs.declared.Counts.{Counts}
use Rattle.tally.specs.declared.Verdict.TheVariants.{Pass}
use Rattle.tally.specs.Tally.{ceiling}
use Rattle.judging.specs.Happening.{line_after}
use Rattle.law_module.specs.Module.{Answer, bits_of, module_of}

-- what a channel of a row is built from: active words, and packets laid end to end from the start of the blanking
pub record Channel : Type 0 where
  pub active : List ℕ
  pub packets : List (List ℕ)

pub record Content : Type 0 where
  pub y : Channel
  pub c : Channel

-- packets whose words after the marker are not reserved
abbrev pub plain_packets : List (List ℕ) → Bool
plain_packets packets = not (any (λ p. any reserved_code (drop 3 p)) packets)

-- ten-bit words, as many as the row has room for: active words that are not reserved, whole plain packets with right checksums
abbrev pub lawful_channel : Plan → Channel → Bool
lawful_channel p k =
    lengths_ok p k.active (end_to_end k.packets)
    && (words10 k.active
    && (words10 (end_to_end k.packets)
    && (not (any reserved_code k.active) && (all_right k.packets && plain_packets k.packets))))

abbrev pub lawful_row : Plan → Content → Bool
lawful_row p k = lawful_channel p k.y && lawful_channel p k.c

-- the bits of a built row: "Each sample pair is sent C word first, then Y, each lowest bit first."
abbrev pub row_bits : Plan → Carry → Content → List Bool
row_bits p carry k =
    word_bits
    (paired (c_stream p carry k.c.active (end_to_end k.c.packets)) (y_stream p carry k.y.active (end_to_end k.y.packets)))

-- "check, correction and building answer the next one"
abbrev pub carry_from : Content → Carry
carry_from k = Some (record { y = crc_words crc_start k.y.active; c = crc_words crc_start k.c.active })

-- rows built line after line (`line_after`: "goes up by one and from N to 1"), each with the carry of the one before
unfoldable pub signal_bits : ℕ → ℕ → Carry → List Content → List Bool
signal_bits code line carry [] = []
signal_bits code line carry (k ∷ ks) = row_bits (plan_of code line) carry k ++ signal_bits code (line_after code line) (carry_from k) ks

unfoldable pub lawful : ℕ → ℕ → List Content → Bool
lawful code line [] = true
lawful code line (k ∷ ks) = lawful_row (plan_of code line) k && lawful code (line_after code line) ks

-- no EAV: each sync in these bits is followed, in them, by a pair whose Y word is not an EAV's
abbrev pub NoEav : List Bool → Type 0
NoEav p = (u v : List Bool) → p ≡ u ++ (sync_of hd_unit ++ v) → (20 ≤ length v) × (is_eav (number (take 10 (drop 10 v))) ≡ false)

-- a sync that ends in q, after the rows, starts where q starts
abbrev pub OnlyAtStart : List Bool → List Bool → Type 0
OnlyAtStart rows q = (u v : List Bool) → rows ++ q ≡ u ++ (sync_of hd_unit ++ v) → length v < length q → length u ≡ length rows

-- words whose unscrambled bits are those of N + 2 lawful rows or more, from any line on, after bits p (`NoEav`) and before bits q;
-- the first row is built without a carry, or with any: that of a row which was not captured
pub record CleanCapture (code line : ℕ) (carry : Carry) (ks : List Content) (ws : List ℕ) (p q : List Bool) : Type 0 where
  pub line_ok : line_refusal code line ≡ 0
  pub carry_is_ok : carry_ok carry ≡ true
  pub count : rows_of code + 2 ≤ length ks
  pub right : lawful code line ks ≡ true
  pub split : bits_of ws ≡ p ++ (signal_bits code line carry ks ++ q)
  pub before : NoEav p

-- no fault, and so many rows: "Both counts stay at 4,294,967,295 once there."
abbrev pub faultless : ℕ → Counts
faultless rows = record { rows = min rows ceiling; faults = 0 }

abbrev pub passed : ℕ → ℕ → Answer
passed code rows = record { raster = code; counts = faultless rows; verdict = Pass }

-- A clean signal passes before fewer than 80 bits, in which no sync ends but one that starts with them: any other would be
-- a sync at another alignment while the last row is open, a fault. All rows count but two: the CRC of the first cannot be
-- judged, and no EAV ends the last.
unfoldable pub CleanPasses : Type 0
CleanPasses =
    (code line : ℕ) (carry : Carry) (ks : List Content) (ws : List ℕ) (p q : List Bool)
    → CleanCapture code line carry ks ws p q
    → length q < 80
    → OnlyAtStart (signal_bits code line carry ks) q
    → module_of code ws ≡ passed (meant code) (length ks - 2)

-- .. and before fewer than 53 bits with no condition: no sync can end in so few, for the last active words are not reserved
-- and end in at most seven ones
unfoldable pub CleanPassesShort : Type 0
CleanPassesShort =
    (code line : ℕ) (carry : Carry) (ks : List Content) (ws : List ℕ) (p q : List Bool)
    → CleanCapture code line carry ks ws p q
    → length q < 53
    → module_of code ws ≡ passed (meant code) (length ks - 2)

-- words captured from a running signal, started and ended anywhere: their bits stand among the cable bits of lawful rows, which were
-- scrambled after any earlier ones. They are more words than rows + 3 rows have, 2T each.
pub record WindowCapture (code line : ℕ) (carry : Carry) (ks : List Content) (ws : List ℕ) (earlier before after : List Bool) (rows : ℕ) : Type 0 where
  pub line_ok : line_refusal code line ≡ 0
  pub carry_is_ok : carry_ok carry ≡ true
  pub right : lawful code line ks ≡ true
  pub cut : scrambled earlier (signal_bits code line carry ks) ≡ before ++ (word_bits ws ++ after)
  pub count : rows_of code ≤ rows
  pub long : (rows + 3) * (2 * total_of code) < length ws

-- A capture of a running signal, started and ended anywhere, passes if it is longer than N + 3 rows. Its first ten bits may be unscrambled
-- wrong, for those before them were not captured; still the row in which it starts does not open, or is whole, and the row in which it
-- ends is no fault. As many rows count as it is long, or more, but for three: the row in which it starts, the one after it, whose CRC
-- cannot be judged, and the last.
unfoldable pub WindowPasses : Type 0
WindowPasses =
    (code line : ℕ) (carry : Carry) (ks : List Content) (ws : List ℕ) (earlier before after : List Bool) (rows : ℕ)
    → WindowCapture code line carry ks ws earlier before after rows
    → let answer = module_of code ws in
    (answer.verdict ≡ Pass) × (answer.counts.faults ≡ 0) × (min rows ceiling ≤ answer.counts.rows)

-- Which number each call on packets and rows gives: one cascade of five tests, in the order of the table.
use mathlib.Core.Path.{◌≡◌, refl}
use mathlib.Core.Bool.{Bool, true, false, ◌&&◌, and_assoc}
use mathlib.Core.List.{List}
use Prim.Native.Nat.{ℕ}
use lib.Dec.{leb}
use lib.ListN.{length}
use Rattle.bits.specs.Choice.{if}
use Rattle.bits.specs.Words.{words10}
use Rattle.raster.specs.Table.{raster_ok}
use Rattle.raster.specs.Lines.{line_ok, line_refusal}
use Rattle.plan.specs.Plan.{plan_of}
use Rattle.plan.specs.Refusal.{or_refusal, row_refusal}
use Rattle.finding.specs.declared.Channel.{Channel}
use Rattle.finding.specs.Extract.{channel_of, extract_refusal, packets_in}
use Rattle.row.specs.Before.{Carry, carry_ok}
use Rattle.row.specs.Row.{check_refusal}
use Rattle.compose.specs.Compose.{build_refusal, room_ok}
use Rattle.law_refusal.specs.Rows.{parts_ok, rows_ok, words_ok}

unfoldable pub numbered : ℕ → ℕ → Bool → Bool → Bool → ℕ
numbered code line lengths words room =
    if (raster_ok code) (if (line_ok code line) (if lengths (if words (if room 0 1) 3) 2) 5) 4

-- ---- what is refused after raster and line, or after the row

module _ (code line : ℕ) where
  after_line : (next : ℕ) → or_refusal (line_refusal code line) next ≡ if (raster_ok code) (if (line_ok code line) next 5) 4
  after_line next = go (raster_ok code) (line_ok code line)
    where
      go : (a b : Bool) → or_refusal (if a (if b 0 5) 4) next ≡ if a (if b next 5) 4
      go true true = refl
      go true false = refl
      go false b = refl

  pub line_number : line_refusal code line ≡ numbered code line true true true
  unfolding numbered
  line_number = refl

  module _ (y c : List ℕ) where
    pub row_number : row_refusal code line y c ≡ numbered code line (rows_ok code y c) (words_ok y c) true
    unfolding row_refusal numbered
    row_number = after_line _

    after_row : (words room : Bool) (next : ℕ) → if {A = ℕ} (words_ok y c) next 3 ≡ if words (if room 0 1) 3
        → or_refusal (row_refusal code line y c) next ≡ numbered code line (rows_ok code y c) words room
    unfolding numbered
    after_row words room next e =
        rw row_number (go (raster_ok code) (line_ok code line) (rows_ok code y c) (words_ok y c) e)
      where
        go : (a b l w : Bool) → if {A = ℕ} w next 3 ≡ if words (if room 0 1) 3
            → or_refusal (if a (if b (if l (if w 0 3) 2) 5) 4) next ≡ if a (if b (if l (if words (if room 0 1) 3) 2) 5) 4
        go true true true true h = h
        go true true true false h = h
        go true true false w h = refl
        go true false l w h = refl
        go false b l w h = refl

    pub check_number : (carry : Carry) → check_refusal code line carry y c ≡ numbered code line (rows_ok code y c) (words_ok y c && carry_ok carry) true
    unfolding check_refusal
    check_number carry = after_row (words_ok y c && carry_ok carry) true _ (go (words_ok y c) (carry_ok carry))
      where
        go : (w k : Bool) → if {A = ℕ} w (if k 0 3) 3 ≡ if (w && k) 0 3
        go true k = refl
        go false k = refl

    pub extract_number : (channel : Channel) (room : ℕ)
        → extract_refusal code line channel y c room
        ≡ numbered code line (rows_ok code y c) (words_ok y c) (leb (length (packets_in code line (channel_of channel y c))) room)
    unfolding extract_refusal
    extract_number channel room = after_row (words_ok y c) _ _ refl

  -- ---- a row that is built

  module _ (carry : Carry) (y_active c_active y_laid c_laid : List ℕ) (y_room c_room : ℕ) where
    abbrev words_given : Bool
    words_given = words_ok y_active y_laid && (words_ok c_active c_laid && carry_ok carry)

    pub build_number : build_refusal code line carry y_active c_active y_laid c_laid y_room c_room
        ≡ numbered code line (parts_ok (plan_of code line) y_active c_active y_laid c_laid) words_given (room_ok (plan_of code line) y_room c_room)
    unfolding build_refusal numbered
    build_number = rw (after_line, ← and_assoc (words10 y_active), ← and_assoc (words10 c_active))

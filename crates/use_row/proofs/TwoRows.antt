-- Two rows that are received.
use mathlib.Core.Path.{◌≡◌, sym, ◌∙◌}
use mathlib.Core.List.{List}
use Prim.Native.Nat.{ℕ, ◌*◌}
use native.Mathlib.Omega.{arith}
use lib.ListN.{length}
use borrow.Author.Tests.{le-leb}
use Rattle.cable.specs.Words.{code_refusal}
use Rattle.row.specs.Before.{Carry}
use Rattle.law_burst.specs.TwoRows.{TwoRows}

module _
    (code line next : ℕ)
    (carry : Carry)
    (history : ℕ)
    (cable : List ℕ)
    (room y_room c_room : ℕ)
    (t : TwoRows code line next carry history cable room y_room c_room)
  where
    -- nothing is refused
    pub rows_coded : code_refusal history cable room ≡ 0
    unfolding code_refusal
    rows_coded = rw (le-leb history 0x3ff t.start, t.words, le-leb (length cable) room t.fits)

    pub rows_halves : (y_room ≡ c_room) × (length cable ≡ 2 * y_room)
    rows_halves = (t.y_size ∙ sym t.c_size, omega (arith, t.size, t.y_size))

    pub rows_resized : {room' y_room' c_room' : ℕ} → room' ≡ room → y_room' ≡ y_room → c_room' ≡ c_room
        → TwoRows code line next carry history cable room' y_room' c_room'
    rows_resized er ey ec = rw (er, ey, ec) t

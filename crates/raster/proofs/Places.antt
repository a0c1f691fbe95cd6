-- Laws of the layout of a row: the sum of its parts, the length of the blanking.
use mathlib.Core.Path.{◌≡◌, ap}
use mathlib.Core.Bool.{Bool, true}
use mathlib.Core.List.{List, [], ◌∷◌}
use Prim.Native.Nat.{ℕ, ◌+◌, ◌-◌}
use native.Mathlib.Omega.{arith}
use lib.Dec.{T, eqb, eqb→eq}
use lib.ListN.{get_or}
use Rattle.bits.proofs.Each.{each}
use Rattle.raster.specs.declared.Entry.{Entry}
use Rattle.raster.specs.declared.Layout.{Layout}
use Rattle.raster.specs.Layout.{blanks, hd}
use Rattle.raster.specs.Table.{table, no_entry, meant, entry_of, raster_ok, raster_given}
use Rattle.raster.proofs.Each.{each2, each2_at}
use Rattle.raster.proofs.Table.{meant_range, entry_all, raster_given-found}

-- the parts of a row, one after the other: EAV, line number, CRC, blanking, SAV, active words
abbrev pub row_sum : Layout → ℕ
row_sum l = 4 + l.lines + l.checks + blanks l + 4 + l.active

abbrev pub layout_of : Entry → Layout
layout_of e = hd e.total e.active

abbrev pub sums : Entry → Bool
sums e = eqb (row_sum (layout_of e)) e.total

-- the parts make the row, over all entries of the table
pub layout_sum_table : T (each sums table)
layout_sum_table = tt

-- the layout that a code's answer has is that of its row
pub layout_of_found : (code : ℕ) → raster_ok code ≡ true → (raster_given code).layout ≡ layout_of (entry_of code)
layout_of_found code ok = ap (λ r. r.layout) (raster_given-found code ok)

pub layout_sum : (code : ℕ) → raster_ok code ≡ true
    → row_sum (raster_given code).layout ≡ (raster_given code).layout.total
layout_sum code ok = rw (layout_of_found code ok) (eqb→eq _ _ (entry_all sums layout_sum_table code ok))

-- "The HANC lengths in source document 004's table", codes 1 to 11: its lines 1108, 1112, 1110, 1114, 1121, 1123, 1125, 1130, 1124, 1126, 1129
abbrev pub hanc_lengths : List ℕ
hanc_lengths = 358 ∷ 688 ∷ 2008 ∷ 2668 ∷ 2833 ∷ 268 ∷ 708 ∷ 818 ∷ 268 ∷ 708 ∷ 818 ∷ []

abbrev pub agrees : Entry → ℕ → Bool
agrees e hanc = eqb (e.total - e.active - 12) hanc

-- ".. agree with T-A-12", over all entries of the table
pub blanking_length-table : T (each2 agrees table hanc_lengths)
blanking_length-table = tt

-- "blanking T-A-12": what stands between the CRC and the SAV
pub blanks_of_hd : (t a : ℕ) → blanks (hd t a) ≡ t - a - 12
blanks_of_hd t a = omega arith

pub blanking_length : (code : ℕ) → raster_ok code ≡ true → blanks (raster_given code).layout ≡ get_or hanc_lengths (meant code - 1) 0
unfolding entry_of
blanking_length code ok =
    let r = meant_range code ok in
    rw (layout_of_found code ok, blanks_of_hd)
    (eqb→eq _ _ (each2_at agrees table hanc_lengths no_entry 0 blanking_length-table (meant code - 1) (omega arith)))

-- The table of rasters.
use Rattle.std.specs.Prelude.{Bool, true, false, ◌&&◌, Option, Result, List, [], ◌∷◌, ℕ, zero, suc, ◌-◌, leb, eqb, get_or}
use Rattle.bits.specs.Choice.{if, unless_zero}
use Rattle.refusal.specs.declared.Refusal.{Refusal}
use Rattle.refusal.specs.Refusal.{result_of}
use Rattle.raster.specs.declared.Entry.{Entry}
use Rattle.raster.specs.declared.Kind.{Kind}
use Rattle.raster.specs.declared.Kind.TheVariants.{Progressive, TwoFields}
use Rattle.raster.specs.declared.Raster.{Raster}
use Rattle.raster.specs.Layout.{hd}

abbrev pub entry : ℕ → ℕ → ℕ → Kind → Entry
entry t a n k = record { total = t; active = a; rows = n; kind = k }

-- "| code | T | A | rows N | kind |", codes 1 to 11
abbrev pub table : List Entry
table =
    entry 1650 1280 750 Progressive
    ∷ entry 1980 1280 750 Progressive
    ∷ entry 3300 1280 750 Progressive
    ∷ entry 3960 1280 750 Progressive
    ∷ entry 4125 1280 750 Progressive
    ∷ entry 2200 1920 1125 TwoFields
    ∷ entry 2640 1920 1125 TwoFields
    ∷ entry 2750 1920 1125 TwoFields
    ∷ entry 2200 1920 1125 Progressive
    ∷ entry 2640 1920 1125 Progressive
    ∷ entry 2750 1920 1125 Progressive
    ∷ []

-- no row of the table: zeros, and the kind whose number is 0
abbrev pub no_entry : Entry
no_entry = entry 0 0 0 Progressive

-- "Code 0 stands for 7"
abbrev pub meant : ℕ → ℕ
meant zero = 7
meant (suc n) = suc n

-- the row of a code
unfoldable pub entry_of : ℕ → Entry
entry_of code = get_or table (meant code - 1) no_entry

-- the highest code, which is that of the last row
abbrev pub highest : ℕ
highest = 11

-- "4: raster not 0..11"
abbrev pub raster_ok : ℕ → Bool
raster_ok code = leb code highest

-- the raster of a code; zeros where there is none, which is refusal 4
abbrev pub raster_at : ℕ → Entry → Raster
raster_at code e = record { code = code; layout = hd e.total e.active; rows = e.rows; kind = e.kind }

abbrev pub no_raster : Raster
no_raster =
    record {
      code = 0;
      layout = record { unit = 0; total = 0; active = 0; lines = 0; checks = 0 };
      rows = 0;
      kind = Progressive;
    }

unfoldable pub raster_given : ℕ → Raster
raster_given code = if (raster_ok code) (raster_at (meant code) (entry_of code)) no_raster

abbrev pub raster_refusal : ℕ → ℕ
raster_refusal code = if (raster_ok code) 0 4

unfoldable pub looked_up : ℕ → Result Raster Refusal
looked_up code = result_of (raster_refusal code) (raster_given code)

-- T and N of a raster
abbrev pub total_of : ℕ → ℕ
total_of code = (raster_given code).layout.total

abbrev pub rows_of : ℕ → ℕ
rows_of code = (raster_given code).rows

-- "Naming a raster takes T, A, N and kind, and answers the code, or 0 when no row of the table fits."
abbrev pub same_kind : Kind → Kind → Bool
same_kind Progressive Progressive = true
same_kind Progressive TwoFields = false
same_kind TwoFields Progressive = false
same_kind TwoFields TwoFields = true

abbrev pub fits : ℕ → ℕ → ℕ → Kind → Entry → Bool
fits t a n k e = eqb e.total t && (eqb e.active a && (eqb e.rows n && same_kind e.kind k))

-- the code of the first of these rows that fits, the first having code c
unfoldable pub name_from : ℕ → List Entry → ℕ → ℕ → ℕ → Kind → ℕ
name_from c [] t a n k = 0
name_from c (e ∷ es) t a n k = if (fits t a n k e) c (name_from (suc c) es t a n k)

unfoldable pub name_of : ℕ → ℕ → ℕ → Kind → ℕ
name_of t a n k = name_from 1 table t a n k

-- .. which stands for none
unfoldable pub named : ℕ → ℕ → ℕ → Kind → Option ℕ
named t a n k = unless_zero (name_of t a n k)

-- What raster and line say of a row: where its parts lie, and the words of its timing codes and line number.
use Rattle.std.specs.Prelude.{Bool, true, false, Result, ℕ, zero, suc}
use Rattle.refusal.specs.declared.Refusal.{Refusal}
use Rattle.refusal.specs.Refusal.{result_of}
use Rattle.raster.specs.declared.Layout.{Layout}
use Rattle.raster.specs.declared.Raster.{Raster}
use Rattle.raster.specs.Layout.{crc_at, blank_at, blanks, sav_at, active_at}
use Rattle.raster.specs.Table.{raster_given}
use Rattle.raster.specs.Lines.{v_of, f_of, line_refusal}
use Rattle.timing.specs.Xyz.{xyz_of}
use Rattle.timing.specs.Line.{ln0_of, ln1_of}
use Rattle.plan.specs.declared.Places.{Places}
use Rattle.plan.specs.declared.Codes.{Codes}
use Rattle.plan.specs.declared.Plan.{Plan}

-- the places that follow from a layout
abbrev pub places_of : Layout → Places
places_of l =
    record {
      total = l.total;
      lines = l.lines;
      crc = crc_at l;
      checks = l.checks;
      blank = blank_at l;
      blanks = blanks l;
      sav = sav_at l;
      active = active_at l;
      count = l.active;
    }

-- "H is 1 in EAV, 0 in SAV."
abbrev pub codes_of : Bool → Bool → ℕ → Codes
codes_of f v line = record { eav = xyz_of f v true; sav = xyz_of f v false; ln0 = ln0_of line; ln1 = ln1_of line }

-- what raster and line say of a row
abbrev pub plan_in : Raster → ℕ → Plan
plan_in r line =
    record {
      v = v_of r.rows r.kind line;
      places = places_of r.layout;
      codes = codes_of (f_of r.kind line) (v_of r.rows r.kind line) line;
    }

abbrev pub no_plan : Plan
no_plan =
    record {
      v = false;
      places = record { total = 0; lines = 0; crc = 0; checks = 0; blank = 0; blanks = 0; sav = 0; active = 0; count = 0 };
      codes = record { eav = 0; sav = 0; ln0 = 0; ln1 = 0 };
    }

-- the plan of a line of a raster; zeros where it is refused
abbrev pub plan_for : ℕ → Raster → ℕ → Plan
plan_for zero r line = plan_in r line
plan_for (suc n) r line = no_plan

unfoldable pub plan_of : ℕ → ℕ → Plan
plan_of code line = plan_for (line_refusal code line) (raster_given code) line

unfoldable pub planned : ℕ → ℕ → Result Plan Refusal
planned code line = result_of (line_refusal code line) (plan_of code line)

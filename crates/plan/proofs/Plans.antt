-- Laws of the plan of a line: when there is one, where its parts lie, and that none of its words is a reserved code.
use mathlib.Core.Path.{◌≡◌, ap, ◌∙◌}
use mathlib.Core.Bool.{false}
use Prim.Native.Nat.{ℕ}
use native.Mathlib.Omega.{arith}
use Rattle.bits.specs.Words.{reserved_code}
use Rattle.raster.specs.declared.Raster.{Raster}
use Rattle.std.specs.Prelude.{Ok, Err}
use Rattle.refusal.specs.declared.Refusal.{Refusal}
use Rattle.refusal.specs.Refusal.{refusal_numbered}
use Rattle.refusal.proofs.Answers.{result_of_ok, result_of_bad, result_of_err}
use Rattle.raster.specs.Table.{raster_given}
use Rattle.raster.specs.Lines.{line_refusal}
use Rattle.raster.proofs.Table.{InRange, looked_up_range}
use Rattle.raster.proofs.Lines.{line_refusal_ok}
use Rattle.timing.proofs.Codes.{xyz_not_reserved}
use Rattle.timing.proofs.Line.{line_not_reserved}
use Rattle.plan.specs.declared.Codes.{Codes}
use Rattle.plan.specs.declared.Plan.{Plan}
use Rattle.plan.specs.Fits.{Fits}
use Rattle.plan.specs.Plan.{places_of, plan_in, plan_of, planned}

-- ---- plan_of

pub plan_of-found : (code line : ℕ) → line_refusal code line ≡ 0 → plan_of code line ≡ plan_in (raster_given code) line
unfolding plan_of
plan_of-found code line e = rw e

pub plan_of-total : (code line : ℕ) → line_refusal code line ≡ 0 → (plan_of code line).places.total ≡ (raster_given code).layout.total
plan_of-total code line e = ap (λ p. p.places.total) (plan_of-found code line e)

-- ---- planned

-- a plan is answered exactly for a line of a raster
pub planned_found : (code line : ℕ) → line_refusal code line ≡ 0 → planned code line ≡ Ok (plan_in (raster_given code) line)
unfolding planned
planned_found code line ok = rw (ok, plan_of-found code line ok)

pub planned_refused : (code line : ℕ) → (line_refusal code line ≡ 0 → ⊥) → planned code line ≡ Err (refusal_numbered (line_refusal code line))
unfolding planned
planned_refused code line bad = result_of_bad (plan_of code line) (line_refusal code line) bad

pub planned_err : {refusal : Refusal} (code line : ℕ) → planned code line ≡ Err refusal
    → (line_refusal code line ≡ 0 → ⊥) × (refusal ≡ refusal_numbered (line_refusal code line))
unfolding planned
planned_err code line e = result_of_err (plan_of code line) (line_refusal code line) e

-- ---- places_of

places_of-fits : (r : Raster) → InRange r → Fits (places_of r.layout)
places_of-fits r i =
    record {
      lines = i.lines;
      crc = omega arith;
      checks = i.checks;
      blank = omega arith;
      sav = omega arith;
      active = omega arith;
      total = omega arith;
      total_high = i.total_high;
      blanks_high = omega arith;
      count_low = i.active_low;
      count_high = i.active_high;
    }

pub plan_of-fits : (code line : ℕ) → line_refusal code line ≡ 0 → Fits (plan_of code line).places
plan_of-fits code line e =
    rw (plan_of-found code line e) (places_of-fits (raster_given code) (looked_up_range code (line_refusal_ok code line e).0))

-- ---- codes_of

-- none of the four words is a reserved code
pub record Plain (c : Codes) : Type 0 where
  pub eav : reserved_code c.eav ≡ false
  pub sav : reserved_code c.sav ≡ false
  pub ln0 : reserved_code c.ln0 ≡ false
  pub ln1 : reserved_code c.ln1 ≡ false

pub plan_of_plain : (code line : ℕ) → line_refusal code line ≡ 0 → Plain (plan_of code line).codes
plan_of_plain code line e =
    rw (plan_of-found code line e)
    (record {
      eav = xyz_not_reserved _ _ _;
      sav = xyz_not_reserved _ _ _;
      ln0 = (line_not_reserved line).0;
      ln1 = (line_not_reserved line).1;
    })

-- ---- a plan in hand

-- what is known of the plan that was answered
pub record Planned (code line : ℕ) (p : Plan) : Type 0 where
  pub ok : line_refusal code line ≡ 0
  pub plan : p ≡ plan_of code line
  pub same : p ≡ plan_in (raster_given code) line
  pub fits : Fits p.places

pub planned_ok : {p : Plan} (code line : ℕ) → planned code line ≡ Ok p → Planned code line p
unfolding planned
planned_ok code line e =
    let r = result_of_ok (plan_of code line) (line_refusal code line) e in
    record { ok = r.0; plan = r.1; same = r.1 ∙ plan_of-found code line r.0; fits = rw r.1 (plan_of-fits code line r.0) }

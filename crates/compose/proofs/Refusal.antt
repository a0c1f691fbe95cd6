-- Laws of the refusal of building: what a row that is built is built from.
use mathlib.Core.Path.{◌≡◌, refl}
use mathlib.Core.Bool.{true, ◌&&◌, and_assoc}
use mathlib.Core.List.{List}
use Prim.Native.Nat.{ℕ, zero, suc, ◌≤◌, ◌<◌}
use native.Mathlib.Omega.{arith}
use lib.Dec.{leb, eqb}
use lib.ListN.{length}
use borrow.Author.Tests.{eqb-true, leb-true}
use Rattle.bits.specs.Choice.{if}
use Rattle.bits.specs.Words.{words10}
use Rattle.bits.proofs.Choice.{and-true, if_zero}
use Rattle.std.specs.Prelude.{Err}
use Rattle.refusal.specs.Refusal.{refusal_numbered, refusal_of}
use Rattle.refusal.proofs.Answers.{refusal_of_result, if_below}
use Rattle.parts.specs.Parts.{laid_unless}
use Rattle.raster.specs.Lines.{line_refusal}
use Rattle.raster.proofs.Lines.{line_refusal_below}
use Rattle.plan.specs.declared.Plan.{Plan}
use Rattle.plan.specs.Fits.{Fits}
use Rattle.plan.specs.Plan.{plan_of}
use Rattle.plan.proofs.Plans.{plan_of-fits}
use Rattle.plan.proofs.Rows.{or_refusal_below, or_refusal_first, or_refusal_none}
use Rattle.row.specs.Before.{Carry, carry_ok}
use Rattle.compose.specs.Compose.{lengths_ok, room_ok, refusal_under, build_refusal, built_for}

-- ---- lengths_ok

pub lengths_of : (p : Plan) (active laid : List ℕ) → lengths_ok p active laid ≡ true → (length active ≡ p.places.count) × (length laid ≤ p.places.blanks)
lengths_of p active laid e =
    let b = and-true (eqb (length active) p.places.count) _ e in
    (eqb-true _ _ b.0, leb-true _ _ b.1)

-- ---- refusal_under

-- with lengths that are right only words, carry and room are left
pub refusal_under_words : (p : Plan) (carry : Carry) (y_active c_active y_laid c_laid : List ℕ) (y_room c_room : ℕ)
    → lengths_ok p y_active y_laid ≡ true
    → lengths_ok p c_active c_laid ≡ true
    → refusal_under p carry y_active c_active y_laid c_laid y_room c_room
    ≡ if ((words10 y_active && words10 y_laid) && ((words10 c_active && words10 c_laid) && carry_ok carry)) (if (room_ok p y_room c_room) 0 1) 3
refusal_under_words p carry y_active c_active y_laid c_laid y_room c_room y c =
    rw (y, c, and_assoc (words10 y_active), and_assoc (words10 c_active))

-- ---- build_refusal

module _ (code line : ℕ) (carry : Carry) (y_active c_active y_laid c_laid : List ℕ) (y_room c_room : ℕ) where
  pub build_refusal_line : (line_refusal code line ≡ 0 → ⊥) → build_refusal code line carry y_active c_active y_laid c_laid y_room c_room ≡ line_refusal code line
  unfolding build_refusal
  build_refusal_line bad = or_refusal_first (line_refusal code line) _ bad

  pub build_refusal_under : (p : Plan) → p ≡ plan_of code line → line_refusal code line ≡ 0
      → build_refusal code line carry y_active c_active y_laid c_laid y_room c_room ≡ refusal_under p carry y_active c_active y_laid c_laid y_room c_room
  unfolding build_refusal
  build_refusal_under p e ok = rw (ok, e)

  pub build_refusal_below : build_refusal code line carry y_active c_active y_laid c_laid y_room c_room < 8
  unfolding build_refusal
  build_refusal_below =
      or_refusal_below (line_refusal code line) _ (line_refusal_below code line)
      (if_below _ _ 2 (if_below _ _ 3 (if_below (room_ok (plan_of code line) y_room c_room) 0 1 (omega arith) (omega arith)) (omega arith)) (omega arith))

-- raster, line, lengths, words, carry and room are right
pub record Buildable (code line : ℕ) (carry : Carry) (y_active c_active y_laid c_laid : List ℕ) (y_room c_room : ℕ) : Type 0 where
  pub ok : line_refusal code line ≡ 0
  pub y_lengths : lengths_ok (plan_of code line) y_active y_laid ≡ true
  pub c_lengths : lengths_ok (plan_of code line) c_active c_laid ≡ true
  pub y_active_is : words10 y_active ≡ true
  pub y_laid_is : words10 y_laid ≡ true
  pub c_active_is : words10 c_active ≡ true
  pub c_laid_is : words10 c_laid ≡ true
  pub registers : carry_ok carry ≡ true
  pub y_room_is : (plan_of code line).places.total ≤ y_room
  pub c_room_is : (plan_of code line).places.total ≤ c_room

pub build_refusal_ok : (code line : ℕ) (carry : Carry) (y_active c_active y_laid c_laid : List ℕ) (y_room c_room : ℕ)
    → build_refusal code line carry y_active c_active y_laid c_laid y_room c_room ≡ 0
    → Buildable code line carry y_active c_active y_laid c_laid y_room c_room
unfolding build_refusal
build_refusal_ok code line carry y_active c_active y_laid c_laid y_room c_room e =
    let p = plan_of code line in
    let z = or_refusal_none (line_refusal code line) _ e in
    let t = if_zero (lengths_ok p y_active y_laid && lengths_ok p c_active c_laid) _ 1 z.1 in
    let w = if_zero _ (if (room_ok p y_room c_room) 0 1) 2 t.1 in
    let l = and-true (lengths_ok p y_active y_laid) _ t.0 in
    let a = and-true (words10 y_active) _ w.0 in
    let b = and-true (words10 y_laid) _ a.1 in
    let c = and-true (words10 c_active) _ b.1 in
    let d = and-true (words10 c_laid) _ c.1 in
    let r = and-true (leb p.places.total y_room) _ (if_zero (room_ok p y_room c_room) 0 0 w.1).0 in
    record {
      ok = z.0;
      y_lengths = l.0;
      c_lengths = l.1;
      y_active_is = a.0;
      y_laid_is = b.0;
      c_active_is = c.0;
      c_laid_is = d.0;
      registers = d.1;
      y_room_is = leb-true p.places.total y_room r.0;
      c_room_is = leb-true p.places.total c_room r.1;
    }

-- a row that is built has its parts in their places, and room for the words laid into its blanking
pub build_refusal-fits : (code line : ℕ) (carry : Carry) (y_active c_active y_laid c_laid : List ℕ) (y_room c_room : ℕ) (p : Plan)
    → p ≡ plan_of code line
    → build_refusal code line carry y_active c_active y_laid c_laid y_room c_room ≡ 0
    → Fits p.places × (length y_laid ≤ p.places.blanks) × (length c_laid ≤ p.places.blanks)
build_refusal-fits code line carry y_active c_active y_laid c_laid y_room c_room p same e =
    let b = build_refusal_ok code line carry y_active c_active y_laid c_laid y_room c_room e in
    let plan = plan_of code line in
    rw same (
      plan_of-fits code line b.ok,
      (lengths_of plan y_active y_laid b.y_lengths).1,
      (lengths_of plan c_active c_laid b.c_lengths).1,
    )

-- ---- what is answered where a row is refused: the refusal alone, with the buffers as they were

pub refused-nothing : (n : ℕ) (y_active c_active y_stream c_stream y c : List ℕ) → (n ≡ 0 → ⊥)
    → ((built_for n y_active c_active ≡ Err (refusal_numbered n)) × (n < 8 → refusal_of (built_for n y_active c_active) ≡ n))
    × ((y ≡ laid_unless n y_stream y) × (c ≡ laid_unless n c_stream c))
refused-nothing zero y_active c_active y_stream c_stream y c bad = absurd (bad refl)
refused-nothing (suc n) y_active c_active y_stream c_stream y c bad = ((refl, refusal_of_result zero (suc n)), (refl, refl))

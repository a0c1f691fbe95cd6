-- Laws of V and F of a line.
use mathlib.Core.Path.{◌≡◌, refl, ap, ◌∙◌}
use mathlib.Core.Bool.{Bool, true, false, ◌&&◌}
use Prim.Native.Nat.{ℕ, zero, suc, ◌+◌, ◌≤◌, ◌<◌}
use native.Mathlib.Omega.{arith}
use lib.Dec.{T, leb, eqb, eqb→eq}
use borrow.Author.Tests.{leb-true, le-leb, lt-leb}
use Rattle.bits.specs.Choice.{if}
use Rattle.raster.specs.declared.Entry.{Entry}
use Rattle.raster.specs.declared.Kind.{Kind}
use Rattle.raster.specs.declared.Kind.TheVariants.{Progressive}
use Rattle.raster.specs.Table.{table, raster_ok, entry_of}
use Rattle.std.specs.Prelude.{Ok, Err}
use Rattle.refusal.specs.declared.Refusal.{Refusal}
use Rattle.refusal.specs.declared.Refusal.TheVariants.{NoRaster, NoLine}
use Rattle.refusal.specs.Refusal.{refusal_numbered, refusal_of}
use Rattle.refusal.proofs.Answers.{if_below, result_of_ok, result_of_err, refusal_of_result}
use Rattle.raster.specs.declared.LineFacts.{LineFacts}
use Rattle.raster.specs.Lines.{between, v_of, f_of, line_ok, line_refusal, facts_of, line_facts}
use Rattle.bits.proofs.Choice.{and-true, if_zero}
use Rattle.bits.proofs.Each.{each}
use Rattle.raster.proofs.Table.{entry_all, raster_range}

-- ---- between

module _ (first last line : ℕ) where
  pub between_yes : first ≤ line → line ≤ last → between first last line ≡ true
  between_yes l h = rw (le-leb first line l, le-leb line last h)

  pub between_low : line < first → between first last line ≡ false
  between_low l = rw (lt-leb first line l)

  pub between_high : last < line → between first last line ≡ false
  between_high h = go (leb first line) (lt-leb line last h)
    where
      go : (b : Bool) → leb line last ≡ false → (b && leb line last) ≡ false
      go true e = e
      go false e = refl

  pub between_range : between first last line ≡ true → (first ≤ line) × (line ≤ last)
  between_range e = let p = and-true (leb first line) (leb line last) e in (leb-true first line p.0, leb-true line last p.1)

-- ---- v_of

-- how many of the lines 1 to n have V = 0
abbrev pub picture_lines : ℕ → Kind → ℕ → ℕ
picture_lines rows kind zero = 0
picture_lines rows kind (suc n) = if (v_of rows kind (suc n)) 0 1 + picture_lines rows kind n

-- 720 lines of 750 rows, 1080 of 1125
abbrev pub picture : ℕ → ℕ
picture rows = if (eqb rows 750) 720 (if (eqb rows 1125) 1080 0)

abbrev pub pictured : Entry → Bool
pictured e = eqb (picture_lines e.rows e.kind e.rows) (picture e.rows)

-- V is 0 on exactly so many lines, over all entries of the table
pub picture_lines_table : T (each pictured table)
picture_lines_table = tt

pub picture_lines_of_table : (code : ℕ) → raster_ok code ≡ true
    → picture_lines (entry_of code).rows (entry_of code).kind (entry_of code).rows ≡ picture (entry_of code).rows
picture_lines_of_table code ok = eqb→eq _ _ (entry_all pictured picture_lines_table code ok)

-- ---- f_of

-- F is 0 on every line of a progressive raster
pub f_progressive : (kind : Kind) (line : ℕ) → kind ≡ Progressive → f_of kind line ≡ false
f_progressive kind line e = rw e

-- ---- line_refusal

pub line_ok_range : (code line : ℕ) → raster_ok code ≡ true → line_ok code line ≡ true → (1 ≤ line) × (line ≤ (entry_of code).rows) × (line ≤ 1125)
line_ok_range code line ok on =
    let r = between_range 1 (entry_of code).rows line on in
    (r.0, r.1, omega (arith, (raster_range code ok).rows_high))

-- 0 exactly when raster and line are right
pub line_refusal_ok : (code line : ℕ) → line_refusal code line ≡ 0 → (raster_ok code ≡ true) × (line_ok code line ≡ true)
line_refusal_ok code line e =
    let a = if_zero (raster_ok code) _ 3 e in
    (a.0, (if_zero (line_ok code line) 0 4 a.1).0)

pub ok_line_refusal : (code line : ℕ) → raster_ok code ≡ true → line_ok code line ≡ true → line_refusal code line ≡ 0
ok_line_refusal code line ok on = rw (ok, on)

pub line_refusal_below : (code line : ℕ) → line_refusal code line < 8
line_refusal_below code line = if_below (raster_ok code) _ 4 (if_below (line_ok code line) 0 5 (omega arith) (omega arith)) (omega arith)

-- ---- line_facts

module _ (code line : ℕ) where
  pub line_facts_found : raster_ok code ≡ true → line_ok code line ≡ true → line_facts code line ≡ Ok (facts_of (entry_of code) line)
  unfolding line_facts
  line_facts_found ok on = rw (ok, on)

  pub line_facts_bad : raster_ok code ≡ false → line_facts code line ≡ Err NoRaster
  unfolding line_facts refusal_numbered
  line_facts_bad bad = rw bad

  pub line_facts_off : raster_ok code ≡ true → line_ok code line ≡ false → line_facts code line ≡ Err NoLine
  unfolding line_facts refusal_numbered
  line_facts_off ok off = rw (ok, off)

  pub line_facts_refusal : refusal_of (line_facts code line) ≡ line_refusal code line
  unfolding line_facts
  line_facts_refusal = refusal_of_result (facts_of (entry_of code) line) (line_refusal code line) (line_refusal_below code line)

  pub line_facts_ok : {facts : LineFacts} → line_facts code line ≡ Ok facts → (line_refusal code line ≡ 0) × (facts ≡ facts_of (entry_of code) line)
  unfolding line_facts
  line_facts_ok e = result_of_ok (facts_of (entry_of code) line) (line_refusal code line) e

  pub line_facts_err : {refusal : Refusal} → line_facts code line ≡ Err refusal
      → (line_refusal code line ≡ 0 → ⊥) × (refusal ≡ refusal_numbered (line_refusal code line))
  unfolding line_facts
  line_facts_err e = result_of_err (facts_of (entry_of code) line) (line_refusal code line) e

  pub line_facts_progressive : {facts : LineFacts} → (entry_of code).kind ≡ Progressive → line_facts code line ≡ Ok facts → facts.f ≡ false
  line_facts_progressive k e = ap (λ (r : LineFacts). r.f) (line_facts_ok e).1 ∙ f_progressive (entry_of code).kind line k

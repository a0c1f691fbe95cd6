-- Laws of the refusal of a row: its order, and what a row that is not refused is.
use mathlib.Core.Path.{◌≡◌, refl, sym, ◌∙◌}
use mathlib.Core.Bool.{true, ◌&&◌}
use mathlib.Core.List.{List}
use Prim.Native.Nat.{ℕ, zero, suc, ◌<◌}
use native.Mathlib.Omega.{arith}
use lib.ListN.{length}
use borrow.Author.Tests.{eqb-true}
use Rattle.bits.specs.Choice.{if}
use Rattle.bits.specs.Words.{words10}
use Rattle.bits.proofs.Choice.{and-true, if_zero}
use Rattle.refusal.proofs.Answers.{if_below}
use Rattle.raster.specs.Lines.{line_refusal}
use Rattle.raster.proofs.Lines.{line_refusal_below}
use Rattle.plan.specs.Plan.{plan_of}
use Rattle.plan.specs.Refusal.{row_ok, or_refusal, row_refusal}
use Rattle.plan.proofs.Plans.{plan_of-total}

-- ---- or_refusal

pub or_refusal_first : (a b : ℕ) → (a ≡ 0 → ⊥) → or_refusal a b ≡ a
or_refusal_first zero b bad = absurd (bad refl)
or_refusal_first (suc n) b bad = refl

pub or_refusal_none : (a b : ℕ) → or_refusal a b ≡ 0 → (a ≡ 0) × (b ≡ 0)
or_refusal_none zero b e = (refl, e)
or_refusal_none (suc n) b e = absurd (omega arith)

pub or_refusal_below : {n : ℕ} (a b : ℕ) → a < n → b < n → or_refusal a b < n
or_refusal_below zero b h k = k
or_refusal_below (suc a) b h k = h

-- ---- row_refusal

-- a row whose raster, line, lengths and words are right
pub record RowFits (code line : ℕ) (y c : List ℕ) : Type 0 where
  pub ok : line_refusal code line ≡ 0
  pub y_length : length y ≡ (plan_of code line).places.total
  pub c_length : length c ≡ (plan_of code line).places.total
  pub y_words : words10 y ≡ true
  pub c_words : words10 c ≡ true

module _ (code line : ℕ) (y c : List ℕ) where
  pub row_refusal_line : (line_refusal code line ≡ 0 → ⊥) → row_refusal code line y c ≡ line_refusal code line
  unfolding row_refusal
  row_refusal_line bad = or_refusal_first (line_refusal code line) _ bad

  pub row_refusal_words : line_refusal code line ≡ 0 → row_ok code y ≡ true → row_ok code c ≡ true → row_refusal code line y c ≡ if (words10 y && words10 c) 0 3
  unfolding row_refusal
  row_refusal_words ok ly lc = rw (ok, ly, lc)

  pub row_refusal_below : row_refusal code line y c < 8
  unfolding row_refusal
  row_refusal_below =
      or_refusal_below (line_refusal code line) _ (line_refusal_below code line)
      (if_below (row_ok code y && row_ok code c) _ 2 (if_below (words10 y && words10 c) 0 3 (omega arith) (omega arith)) (omega arith))

  -- 0 exactly when all is right
  pub row_refusal_ok : row_refusal code line y c ≡ 0 → RowFits code line y c
  unfolding row_refusal
  row_refusal_ok e =
      let z = or_refusal_none (line_refusal code line) _ e in
      let b = if_zero (row_ok code y && row_ok code c) _ 1 z.1 in
      let l = and-true (row_ok code y) (row_ok code c) b.0 in
      let w = and-true (words10 y) (words10 c) (if_zero (words10 y && words10 c) 0 2 b.1).0 in
      let t = sym (plan_of-total code line z.0) in
      record {
        ok = z.0;
        y_length = eqb-true (length y) _ l.0 ∙ t;
        c_length = eqb-true (length c) _ l.1 ∙ t;
        y_words = w.0;
        c_words = w.1;
      }

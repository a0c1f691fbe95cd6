use mathlib.Core.Path.{◌≡◌, sym, ap, ◌∙◌}
use mathlib.Core.Bool.{true, false, ◌&&◌}
use mathlib.Core.Logic.{◌⊎◌, ⊎_elim}
use Prim.Native.Nat.{ℕ}
use lib.Dec.{eqb}
use lib.ListN.{length}
use borrow.Author.Tests.{eq-eqb, ne_eqb}
use Rattle.std.proofs.lemmas.Result.{err_from_is_err_and}
use Rattle.refusal.specs.Refusal.{refusal_numbered}
use Rattle.refusal.proofs.Answers.{result_of_bad}
use Rattle.raster.specs.Table.{total_of}
use Rattle.raster.specs.Lines.{line_refusal}
use Rattle.plan.specs.declared.Plan.{Plan}
use Rattle.plan.specs.Refusal.{row_ok, row_refusal}
use Rattle.plan.proofs.Plans.{planned_ok, planned_err}
use Rattle.plan.proofs.Rows.{row_refusal_line}
use Rattle.plan.proofs.row_refusal.Goals as goal
use Rattle.plan.proofs.row_refusal.Goals.{In_ok-total, Else-c-total, then-not-all_words-via-then-not-all_words, then-not-all_words-via-else-not-all_words+then-not-all_words-2}

pub returns-in_err-total : goal.returns-in_err-total
returns-in_err-total c =
    let at = c.args in
    let bad = planned_err at.raster at.line (sym c.in_err-total.ensures) in
    let p = err_from_is_err_and c.from_residual.result c.from_residual.ensures.1 in
    rw (p.1, p.2, bad.1, row_refusal_line at.raster at.line _ _ bad.0, result_of_bad (tt {0}) (line_refusal at.raster at.line) bad.0)

-- past the `?` raster and line are right, and T is the raster's
abbrev Right : ℕ → ℕ → Plan → Type 0
Right raster line plan = (line_refusal raster line ≡ 0) × (plan.places.total ≡ total_of raster)

right : (c : In_ok-total) → Right c.args.raster c.args.line c.in_ok-total.field-0
right c =
    let known = planned_ok c.args.raster c.args.line (sym c.in_ok-total.ensures) in
    (known.ok, ap (λ (p : Plan). p.places.total) known.same)

-- past the lengths both are T
lengths : (c : Else-c-total) → Right c.args.raster c.args.line c.in_ok-total.field-0
    → (row_ok c.args.raster c.args.y.now ≡ true) × (row_ok c.args.raster c.args.c.now ≡ true)
lengths c r = (eq-eqb _ _ (c.if-y-total.false ∙ r.1), eq-eqb _ _ (c.if-c-total.false ∙ r.1))

other : (a b t : ℕ) → (a ≡ t → ⊥) ⊎ ((a ≡ t) × (b ≡ t → ⊥)) → (eqb a t && eqb b t) ≡ false
other a b t = ⊎_elim (λ h. rw (ne_eqb a t h)) (λ h. rw (eq-eqb a t h.0, ne_eqb b t h.1))

pub returns-then-y-total : goal.returns-then-y-total
unfolding row_refusal refusal_numbered
returns-then-y-total c =
    let r = right (goal.at.returns-then-y-total c).In_ok-total in
    rw (r.0, other (length c.args.y.now) (length c.args.c.now) (total_of c.args.raster) (rw r.1 at c.then-y-total.either))

pub returns-then-not-all_words : goal.returns-then-not-all_words
unfolding row_refusal refusal_numbered
returns-then-not-all_words c =
    let r = right (goal.at.returns-then-not-all_words c).In_ok-total in
    let l = lengths (goal.at.returns-then-not-all_words c).Else-c-total r in
    elim c.then-not-all_words.branch [
      | then-not-all_words-via-then-not-all_words w ↦ rw (r.0, l.0, l.1, ← c.all_words.ensures, w.if-not-all_words.true)
      | then-not-all_words-via-else-not-all_words+then-not-all_words-2 w ↦
          rw (r.0, l.0, l.1, ← c.all_words.ensures, w.if-not-all_words.false, ← w.all_words-else-not-all_words.ensures, w.if-not-all_words-2.true)
    ]

pub returns : goal.returns
unfolding row_refusal
returns c =
    let r = right (goal.at.returns c).In_ok-total in
    let l = lengths (goal.at.returns c).Else-c-total r in
    rw (
      r.0,
      l.0,
      l.1,
      ← c.all_words.ensures,
      ← c.all_words-else-not-all_words.ensures,
      c.if-not-all_words.false,
      c.if-not-all_words-2.false,
    )

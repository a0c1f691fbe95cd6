-- What happens to a built row that is whole: it is judged, with the carry of building or with none, and has no flag.
use mathlib.Core.Path.{◌≡◌, refl, ap, ap₂, ◌∙◌}
use mathlib.Core.Bool.{Bool}
use mathlib.Core.List.{List, [], ◌∷◌}
use mathlib.Core.Logic.{◌⊎◌, inl, inr}
use Prim.Native.Nat.{ℕ, zero, suc, ◌≤◌}
use native.Mathlib.Omega.{arith}
use lib.ListN.{length, take}
use lib.Seq.{take_all}
use Rattle.std.specs.Prelude.{Some}
use Rattle.bits.proofs.Lists.{cons_equal}
use Rattle.raster.specs.Table.{total_of}
use Rattle.raster.specs.Lines.{line_refusal}
use Rattle.raster.proofs.Lines.{line_ok_range, line_refusal_ok}
use Rattle.timing.specs.Line.{ln0_of, ln1_of, line_told}
use Rattle.timing.proofs.Line.{line_read_of_build}
use Rattle.parts.specs.Parts.{part, end_to_end}
use Rattle.plan.specs.Plan.{plan_of}
use Rattle.plan.proofs.Plans.{plan_of-fits, plan_of-found, plan_of-total}
use Rattle.stream.specs.Words.{y_blank, c_blank, line_words_of}
use Rattle.row.specs.Before.{Carry, carried}
use Rattle.row.specs.Row.{judged_by, judged}
use Rattle.compose.specs.Compose.{stream_of, y_stream, c_stream}
use Rattle.law_row.proofs.BuiltParts.{length-stream_of, register_after-stream_of}
use Rattle.law_row.proofs.NoFlag.{OwnOrNone, judged_no_flag}
use Rattle.recogniser.specs.declared.Event.TheVariants.{Whole}
use Rattle.judging.specs.declared.Track.{Track}
use Rattle.judging.specs.declared.Happened.{Happened}
use Rattle.judging.specs.declared.Happening.TheVariants.{RowJudged}
use Rattle.judging.specs.Happening.{line_of, line_after, row_judged, happened}
use Rattle.judging.proofs.Lines.{completed_numbered}
use Rattle.law_clean.specs.Signal.{Content, carry_from}
use Rattle.law_clean.proofs.Built.{Lawful}

-- the streams of a row
abbrev pub ys_of : ℕ → ℕ → Carry → Content → List ℕ
ys_of code line carry k = y_stream (plan_of code line) carry k.y.active (end_to_end k.y.packets)

abbrev pub cs_of : ℕ → ℕ → Carry → Content → List ℕ
cs_of code line carry k = c_stream (plan_of code line) carry k.c.active (end_to_end k.c.packets)

-- a row that is lawful
pub record LawfulRow (code line : ℕ) (carry : Carry) (k : Content) : Type 0 where
  pub ok : line_refusal code line ≡ 0
  pub y : Lawful (plan_of code line) (carried carry).known (carried carry).y y_blank k.y
  pub c : Lawful (plan_of code line) (carried carry).known (carried carry).c c_blank k.c

-- without a flag, its line known
abbrev pub right_row : ℕ → ℕ → Bool → Content → Happened
right_row code line known k = record { happening = RowJudged line 0 known; track = record { line = line_after code line; carry = carry_from k } }

module _ (code line : ℕ) (carry : Carry) (k : Content) (row : LawfulRow code line carry k) where
  pub length_ys : length (ys_of code line carry k) ≡ total_of code
  length_ys =
      length-stream_of (plan_of code line) (plan_of-fits code line row.ok) (carried carry).known (carried carry).y y_blank k.y.active
      (end_to_end k.y.packets) row.y.long row.y.room
      ∙ plan_of-total code line row.ok

  pub length_cs : length (cs_of code line carry k) ≡ total_of code
  length_cs =
      length-stream_of (plan_of code line) (plan_of-fits code line row.ok) (carried carry).known (carried carry).c c_blank k.c.active
      (end_to_end k.c.packets) row.c.long row.c.room
      ∙ plan_of-total code line row.ok

  judged-built : (seen : Carry) → OwnOrNone carry seen
      → judged code line seen (ys_of code line carry k) (cs_of code line carry k) ≡ record { flags = 0; carry = carry_from k }
  unfolding judged
  judged-built seen own =
      let p = plan_of code line in
      let fits = plan_of-fits code line row.ok in
      let b = carried carry in
      ap (λ (n : ℕ). judged_by n p seen (ys_of code line carry k) (cs_of code line carry k)) row.ok
      ∙ ap₂ (λ (f : ℕ) (after : Carry). record { flags = f; carry = after })
      (judged_no_flag code line carry k.y.active k.c.active k.y.packets k.c.packets row.ok
      row.y.lengths row.c.lengths row.y.right row.c.right row.y.plain row.c.plain seen own)
      (ap₂ (λ (y c : ℕ). Some (record { y = y; c = c }))
      (register_after-stream_of p fits b.known b.y y_blank k.y.active (end_to_end k.y.packets) row.y.long row.y.room)
      (register_after-stream_of p fits b.known b.c c_blank k.c.active (end_to_end k.c.packets) row.c.long row.c.room))

  lines_built : line_words_of (plan_of code line) ≡ ln0_of line ∷ ln1_of line ∷ []
  lines_built =
      let found = plan_of-found code line row.ok in
      ap (λ (m : ℕ). take m ((plan_of code line).codes.ln0 ∷ (plan_of code line).codes.ln1 ∷ [])) (plan_of-fits code line row.ok).lines
      ∙ cons_equal (ap (λ p. p.codes.ln0) found) (cons_equal (ap (λ p. p.codes.ln1) found) refl)

  line_low : 1 ≤ line
  line_low = let r = line_refusal_ok code line row.ok in (line_ok_range code line r.0 r.1).0

  -- the line that is expected is this one, or none is
  line_found : (l : ℕ) → (l ≡ 0) ⊎ (l ≡ line) → line_of code l (ys_of code line carry k) ≡ line
  unfolding stream_of
  line_found l (inl z) =
      let r = line_refusal_ok code line row.ok in
      rw (z, lines_built) (ap line_told (line_read_of_build code line r.0 r.1))
  line_found zero (inr e) = absurd (omega (arith, line_low))
  line_found (suc m) (inr e) = e

  pub whole_built : (t : Track) → (t.line ≡ 0) ⊎ (t.line ≡ line) → OwnOrNone carry t.carry
      → happened Whole code t (part 0 (total_of code) (ys_of code line carry k)) (part 0 (total_of code) (cs_of code line carry k))
      ≡ right_row code line (carried t.carry).known k
  unfolding happened
  whole_built t expected own =
      rw (
        take_all (total_of code) (ys_of code line carry k) (omega (arith, length_ys)),
        take_all (total_of code) (cs_of code line carry k) (omega (arith, length_cs)),
        line_found t.line expected,
      )
      (completed_numbered code line t.carry (ys_of code line carry k) (cs_of code line carry k) (λ z. omega (arith, line_low))
      ∙ ap (row_judged code line t.carry) (judged-built t.carry own))

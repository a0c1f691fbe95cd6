-- A row that is built, and checked with the same carry.
use mathlib.Core.Path.{◌≡◌, sym, ap, ap₂, ◌∙◌}
use mathlib.Core.List.{List}
use Prim.Native.Nat.{ℕ, ◌≤◌}
use native.Mathlib.Omega.{arith}
use lib.ListN.{length}
use lib.Seq.{length-take-le}
use Rattle.std.specs.Prelude.{Some, Result, Ok, Err}
use Rattle.refusal.specs.declared.Refusal.{Refusal}
use Rattle.refusal.specs.Refusal.{refusal_of}
use Rattle.refusal.proofs.Answers.{refusal_of_result, result_of_err, result_of_ok}
use Rattle.crc.specs.Crc.{crc_start, crc_words}
use Rattle.parts.specs.Parts.{laid_unless, part}
use Rattle.parts.proofs.Laid.{part_over_laid, unless_refused-refused}
use Rattle.plan.specs.declared.Plan.{Plan}
use Rattle.plan.specs.Fits.{Fits}
use Rattle.plan.specs.Plan.{plan_of}
use Rattle.plan.proofs.Plans.{plan_of-fits}
use Rattle.plan.proofs.Rows.{RowFits}
use Rattle.stream.specs.Words.{c_blank, y_blank}
use Rattle.row.specs.Before.{Carry, carried}
use Rattle.row.specs.declared.Judged.{Judged}
use Rattle.row.specs.Row.{checked, flags_of}
use Rattle.compose.specs.Compose.{build_refusal, built_for, c_stream, lengths_ok, y_stream}
use Rattle.compose.proofs.Refusal.{Buildable, build_refusal_below, build_refusal_ok, lengths_of}
use Rattle.law_row.proofs.BuiltParts.{length-stream_of, register_after-stream_of}
use Rattle.law_row.proofs.NoFlag.{built_no_flag}
use Rattle.law_row.specs.Laid.{LawfulLine}
use Rattle.law_row.proofs.Checked.{row_checked}
use Rattle.law_row.proofs.Made.{tens_stream_of}

module _ (code line : ℕ) (carry : Carry) (y_active c_active y_laid c_laid y c : List ℕ) where
  abbrev refusal : ℕ
  refusal = build_refusal code line carry y_active c_active y_laid c_laid (length y) (length c)

  abbrev plan : Plan
  plan = plan_of code line

  abbrev in_y : List ℕ
  in_y = y_stream plan carry y_active y_laid

  abbrev in_c : List ℕ
  in_c = c_stream plan carry c_active c_laid

  -- the carry that building leaves
  abbrev left : Carry
  left = Some (record { y = crc_words crc_start y_active; c = crc_words crc_start c_active })

  -- ---- the number, and what a refusal leaves

  pub built-number : {built : Result Carry Refusal} → built ≡ built_for refusal y_active c_active → refusal_of built ≡ refusal
  built-number b =
      ap refusal_of b ∙ refusal_of_result left refusal (build_refusal_below code line carry y_active c_active y_laid c_laid (length y) (length c))

  pub built_kept : {built : Result Carry Refusal} {why : Refusal} {y_after c_after : List ℕ} → built ≡ built_for refusal y_active c_active
      → y_after ≡ laid_unless refusal in_y y → c_after ≡ laid_unless refusal in_c c
      → built ≡ Err why → (y_after ≡ y) × (c_after ≡ c)
  built_kept b u v bad =
      let some = (result_of_err left refusal (sym b ∙ bad)).0 in
      (u ∙ unless_refused-refused refusal _ y some, v ∙ unless_refused-refused refusal _ c some)

  -- ---- without one, the first T words are the row

  module _ (ok : refusal ≡ 0) where
    from : Buildable code line carry y_active c_active y_laid c_laid (length y) (length c)
    from = build_refusal_ok code line carry y_active c_active y_laid c_laid (length y) (length c) ok

    fits : Fits plan.places
    fits = plan_of-fits code line from.ok

    pub long_y : (length y_active ≡ plan.places.count) × (length y_laid ≤ plan.places.blanks)
    long_y = lengths_of plan y_active y_laid from.y_lengths

    pub long_c : (length c_active ≡ plan.places.count) × (length c_laid ≤ plan.places.blanks)
    long_c = lengths_of plan c_active c_laid from.c_lengths

    pub built-fits : RowFits code line in_y in_c
    built-fits =
        let known = (carried carry).known in
        record {
          ok = from.ok;
          y_length = length-stream_of plan fits known (carried carry).y y_blank y_active y_laid long_y.0 long_y.1;
          c_length = length-stream_of plan fits known (carried carry).c c_blank c_active c_laid long_c.0 long_c.1;
          y_words = tens_stream_of code line from.ok known (carried carry).y y_blank y_active y_laid (omega arith) from.y_active_is from.y_laid_is;
          c_words = tens_stream_of code line from.ok known (carried carry).c c_blank c_active c_laid (omega arith) from.c_active_is from.c_laid_is;
        }

    pub built_y : part 0 plan.places.total (laid_unless refusal in_y y) ≡ in_y
    built_y =
        rw ok (part_over_laid 0 plan.places.total in_y y (built-fits.y_length ∙ sym (length-take-le plan.places.total y from.y_room_is)))

    pub built_c : part 0 plan.places.total (laid_unless refusal in_c c) ≡ in_c
    built_c =
        rw ok (part_over_laid 0 plan.places.total in_c c (built-fits.c_length ∙ sym (length-take-le plan.places.total c from.c_room_is)))

    built_row : checked code line carry in_y in_c ≡ Ok (record { flags = flags_of plan carry in_y in_c; carry = left })
    built_row =
        let known = (carried carry).known in
        row_checked code line in_y in_c built-fits carry from.registers
        ∙ ap₂ (λ (q r : ℕ). Ok (record { flags = flags_of plan carry in_y in_c; carry = Some (record { y = q; c = r }) }))
        (register_after-stream_of plan fits known (carried carry).y y_blank y_active y_laid long_y.0 long_y.1)
        (register_after-stream_of plan fits known (carried carry).c c_blank c_active c_laid long_c.0 long_c.1)

  -- ---- the calls, one after the other

  module _
      {built : Result Carry Refusal}
      {seen : Result Judged Refusal}
      {next : Carry}
      {y_after c_after ys cs : List ℕ}
      {p : Plan}
      (b : built ≡ built_for refusal y_active c_active)
      (u : y_after ≡ laid_unless refusal in_y y)
      (v : c_after ≡ laid_unless refusal in_c c)
      (w : p ≡ plan)
      (s : ys ≡ part 0 p.places.total y_after)
      (t : cs ≡ part 0 p.places.total c_after)
      (k : seen ≡ checked code line carry ys cs)
      (done : built ≡ Ok next)
    where
      told : (refusal ≡ 0) × (next ≡ left)
      told = result_of_ok left refusal (sym b ∙ done)

      pub row_answered : seen ≡ Ok (record { flags = flags_of plan carry in_y in_c; carry = next })
      row_answered =
          let ok = told.0 in
          let total : p.places.total ≡ plan.places.total = ap (λ q. q.places.total) w in
          let ey = s ∙ ap₂ (part 0) total u ∙ built_y ok in
          let ec = t ∙ ap₂ (part 0) total v ∙ built_c ok in
          k ∙ ap₂ (checked code line carry) ey ec ∙ rw told.1 (built_row ok)

      pub row_clean : (y_packets c_packets : List (List ℕ)) → LawfulLine y_active c_active y_laid c_laid y_packets c_packets
          → seen ≡ Ok (record { flags = 0; carry = next })
      row_clean y_packets c_packets l =
          let made = from told.0 in
          let clean = built_no_flag code line carry y_active c_active y_packets c_packets made.ok
          (ap (lengths_ok plan y_active) (sym l.y_laid_is) ∙ made.y_lengths) (ap (lengths_ok plan c_active) (sym l.c_laid_is) ∙ made.c_lengths)
          l.y_right l.c_right l.y_plain l.c_plain in
          row_answered
          ∙ ap (λ (flags : ℕ). Ok (record { flags = flags; carry = next }))
          (ap₂ (λ (a z : List ℕ). flags_of plan carry (y_stream plan carry y_active a) (c_stream plan carry c_active z)) l.y_laid_is l.c_laid_is ∙ clean)

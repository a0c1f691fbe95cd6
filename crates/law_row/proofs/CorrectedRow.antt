-- A row that is corrected, and checked with the same carry.
use mathlib.Core.Path.{◌≡◌, refl, sym, ap, ap₂, ◌∙◌}
use mathlib.Core.Bool.{Bool, true, false}
use mathlib.Core.List.{List}
use Prim.Native.Nat.{ℕ, ◌/◌, ◌%◌}
use native.Mathlib.Omega.{arith}
use lib.ListN.{length}
use Rattle.std.specs.Prelude.{Result, Ok, Err}
use Rattle.refusal.specs.declared.Refusal.{Refusal}
use Rattle.refusal.specs.Refusal.{refusal_of}
use Rattle.refusal.proofs.Answers.{ok_same, refusal_of_result, result_of_err, result_of_ok}
use Rattle.parts.specs.Parts.{unless_refused}
use Rattle.parts.proofs.Laid.{length-laid, unless_refused-refused}
use Rattle.plan.specs.declared.Plan.{Plan}
use Rattle.plan.specs.Plan.{plan_of}
use Rattle.plan.proofs.Rows.{RowFits, row_refusal_ok}
use Rattle.stream.specs.Words.{c_blank, check_words, covered_by, y_blank}
use Rattle.row.specs.Before.{Carry, carried, carry_ok}
use Rattle.row.specs.declared.Judged.{Judged}
use Rattle.row.specs.Row.{carry_after, checked, check_refusal, flags_of}
use Rattle.row.proofs.Rows.{check_refusal_below, check_refusal_ok}
use Rattle.repair.specs.Repair.{corrected_stream, put_right, wiped_if, with_codes, with_crc, with_sums}
use Rattle.repair.specs.Answer.{corrected, corrected_c, corrected_y}
use Rattle.law_row.proofs.CorrectedParts.{wiped_if-length, with_codes-length, with_sums-length}
use Rattle.law_row.proofs.CorrectedRows.{Right, correction_right}
use Rattle.law_row.proofs.Checked.{row_checked}
use Rattle.law_row.proofs.Made.{tens_corrected}

with_crc-length : (p : Plan) (known : Bool) (r : ℕ) (ws : List ℕ) → length (with_crc p known r ws) ≡ length ws
unfolding with_crc
with_crc-length p true r ws = length-laid p.places.crc (check_words p (covered_by p r ws)) ws
with_crc-length p false r ws = refl

corrected-length : (p : Plan) (wipe : Bool) (blank : ℕ) (known : Bool) (r : ℕ) (ws : List ℕ) → length (corrected_stream p wipe blank known r ws) ≡ length ws
unfolding put_right
corrected-length p wipe blank known r ws =
    let w = wiped_if wipe p blank ws in
    with_crc-length p known r (with_codes p (with_sums p w)) ∙ with_codes-length p (with_sums p w) ∙ with_sums-length p w ∙ wiped_if-length p ws wipe blank

module _ (code line : ℕ) (carry : Carry) (wipe : Bool) (y c : List ℕ) where
  abbrev refusal : ℕ
  refusal = check_refusal code line carry y c

  abbrev plan : Plan
  plan = plan_of code line

  -- its flags afterwards, and the carry that it leaves
  abbrev flags : ℕ
  flags = flags_of plan carry (corrected_y plan carry wipe y) (corrected_c plan carry wipe c)

  abbrev left : Carry
  left = carry_after plan (corrected_y plan carry wipe y) (corrected_c plan carry wipe c)

  pub correction_number : {done : Result Carry Refusal} → done ≡ corrected code line carry wipe y c → refusal_of done ≡ refusal
  unfolding corrected
  correction_number d = ap refusal_of d ∙ refusal_of_result left refusal (check_refusal_below code line carry y c)

  -- ---- the row before and after a correction that is not refused

  pub record Before : Type 0 where
    pub fits : RowFits code line y c
    pub registers : carry_ok carry ≡ true

  pub before : refusal ≡ 0 → Before
  before ok =
      let free = check_refusal_ok code line carry y c ok in
      record { fits = row_refusal_ok code line y c free.0; registers = free.1 }

  after : Before → RowFits code line (corrected_y plan carry wipe y) (corrected_c plan carry wipe c)
  after b =
      let f = b.fits in
      let known = (carried carry).known in
      record {
        ok = f.ok;
        y_length = corrected-length plan wipe y_blank known (carried carry).y y ∙ f.y_length;
        c_length = corrected-length plan wipe c_blank known (carried carry).c c ∙ f.c_length;
        y_words = tens_corrected code line f.ok wipe y_blank known (carried carry).y y (omega arith) f.y_words;
        c_words = tens_corrected code line f.ok wipe c_blank known (carried carry).c c (omega arith) f.c_words;
      }

  -- ---- the calls, one after the other

  module _
      {first seen : Result Judged Refusal}
      {done : Result Carry Refusal}
      {y_after c_after : List ℕ}
      (k : first ≡ checked code line carry y c)
      (d : done ≡ corrected code line carry wipe y c)
      (u : y_after ≡ unless_refused refusal (corrected_y plan carry wipe y) y)
      (v : c_after ≡ unless_refused refusal (corrected_c plan carry wipe c) c)
      (s : seen ≡ checked code line carry y_after c_after)
    where
      pub correction_kept : {why : Refusal} → done ≡ Err why → (y_after ≡ y) × (c_after ≡ c) × (seen ≡ first)
      unfolding corrected
      correction_kept bad =
          let some = (result_of_err left refusal (sym d ∙ bad)).0 in
          let ey = u ∙ unless_refused-refused refusal _ y some in
          let ec = v ∙ unless_refused-refused refusal _ c some in
          (ey, ec, s ∙ ap₂ (checked code line carry) ey ec ∙ sym k)

      module _ {next : Carry} (ok : done ≡ Ok next) where
        told : (refusal ≡ 0) × (next ≡ left)
        unfolding corrected
        told = result_of_ok left refusal (sym d ∙ ok)

        b : Before
        b = before told.0

        pub correction_first : first ≡ Ok (record { flags = flags_of plan carry y c; carry = carry_after plan y c })
        correction_first = k ∙ row_checked code line y c b.fits carry b.registers

        pub correction_seen : seen ≡ Ok (record { flags = flags; carry = next })
        correction_seen =
            let none = told.0 in
            rw told.1
            (s ∙ ap₂ (checked code line carry) (u ∙ rw none) (v ∙ rw none)
            ∙ row_checked code line (corrected_y plan carry wipe y) (corrected_c plan carry wipe c) (after b) carry b.registers)

        right : Right plan carry wipe y c
        right = correction_right code line b.fits.ok carry wipe y c b.fits.y_length b.fits.c_length

        module _ {again : Judged} (a : seen ≡ Ok again) where
          same : again ≡ record { flags = flags; carry = next }
          same = ok_same a correction_seen

          pub correction_clear : (again.flags % 128 ≡ 0) × (again.carry ≡ next)
          correction_clear = rw same (right.clear, refl)

          pub correction_wiped : again.flags / 128 ≡ flags_of plan carry (wiped_if wipe plan y_blank y) (wiped_if wipe plan c_blank c) / 128
          correction_wiped = rw same right.kept

          pub correction_unwiped : {judged : Judged} → first ≡ Ok judged → wipe ≡ false → again.flags / 128 ≡ judged.flags / 128
          unfolding wiped_if
          correction_unwiped f e = let was = ok_same f correction_first in correction_wiped ∙ rw (was, e)

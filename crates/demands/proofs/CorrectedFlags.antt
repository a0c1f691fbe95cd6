-- A corrected row, checked again: flags 0 to 6 are clear, 7 and 8 as they were.
use mathlib.Core.Path.{◌≡◌, refl, sym, ap, ◌∙◌}
use Prim.Native.Nat.{ℕ, ◌/◌, ◌%◌}
use Rattle.std.specs.Prelude.{Ok}
use Rattle.refusal.specs.Refusal.{refusal_of}
use Rattle.parts.specs.Parts.{unless_refused}
use Rattle.plan.specs.Plan.{plan_of}
use Rattle.row.specs.Row.{carry_after}
use Rattle.repair.specs.Answer.{corrected_y, corrected_c, corrected}
use Rattle.law_row.proofs.CorrectedRow.{correction_first, correction_seen, correction_clear, correction_wiped, correction_unwiped}
use Rattle.demands.specs.Demands.{flags_shown, CorrectedFlags}

pub corrected_flags : CorrectedFlags
unfolding CorrectedFlags corrected
corrected_flags code line carry wipe y c ok =
    let p = plan_of code line in
    let u = sym (ap (λ (n : ℕ). unless_refused n (corrected_y p carry wipe y) y) ok) in
    let v = sym (ap (λ (n : ℕ). unless_refused n (corrected_c p carry wipe c) c) ok) in
    let done : corrected code line carry wipe y c ≡ Ok (carry_after p (corrected_y p carry wipe y) (corrected_c p carry wipe c)) = rw ok in
    let first = correction_first code line carry wipe y c refl refl u v refl done in
    let seen = correction_seen code line carry wipe y c refl refl u v refl done in
    let flags = ap flags_shown seen in (
      ap refusal_of seen,
      ap (λ (n : ℕ). n % 128) flags ∙ (correction_clear code line carry wipe y c refl refl u v refl done seen).0,
      ap (λ (n : ℕ). n / 128) flags ∙ correction_wiped code line carry wipe y c refl refl u v refl done seen,
      λ w. ap (λ (n : ℕ). n / 128) flags
          ∙ correction_unwiped code line carry wipe y c refl refl u v refl done seen first w
          ∙ sym (ap (λ (n : ℕ). n / 128) (ap flags_shown first)),
    )

-- A corrected row: flags 0 to 6 are clear, 7 and 8 as they were; corrected again without wiping, it stays as it is.
use mathlib.Core.Path.{◌≡◌, sym, ap, ap₂, ◌∙◌}
use mathlib.Core.Bool.{Bool, false}
use mathlib.Core.List.{List}
use Prim.Native.Nat.{ℕ, ◌/◌, ◌%◌}
use native.Mathlib.Omega.{arith}
use lib.ListN.{length}
use Rattle.bits.specs.Bits.{number}
use Rattle.bits.proofs.Bits.{number_shr}
use Rattle.raster.specs.Lines.{line_refusal}
use Rattle.plan.specs.declared.Plan.{Plan}
use Rattle.plan.specs.Fits.{Fits}
use Rattle.plan.specs.Plan.{plan_of}
use Rattle.plan.proofs.Plans.{plan_of-fits}
use Rattle.stream.specs.declared.Faults.{Faults}
use Rattle.stream.specs.Words.{y_blank, c_blank}
use Rattle.stream.specs.Faults.{faults_of}
use Rattle.row.specs.Before.{Carry, carried}
use Rattle.row.specs.Row.{joined, flags_of}
use Rattle.repair.specs.Repair.{wiped_if}
use Rattle.repair.specs.Answer.{corrected_y, corrected_c}
use Rattle.law_row.proofs.CorrectedParts.{wiped_if-length}
use Rattle.law_row.proofs.Rechecked.{left_of, rechecked}
use Rattle.law_row.proofs.Again.{put_right_again}

-- ---- flags by bit

module _ (y c : Faults) where
  joined_low : joined (left_of y) (left_of c) % 128 ≡ 0
  unfolding joined number
  joined_low = omega arith

  joined_high : joined (left_of y) (left_of c) / 128 ≡ joined y c / 128
  unfolding joined
  joined_high = number_shr 7 _ ∙ sym (number_shr 7 _)

-- ---- the row

pub record Right (p : Plan) (carry : Carry) (wipe : Bool) (y c : List ℕ) : Type 0 where
  pub clear : flags_of p carry (corrected_y p carry wipe y) (corrected_c p carry wipe c) % 128 ≡ 0
  pub kept :
      flags_of p carry (corrected_y p carry wipe y) (corrected_c p carry wipe c) / 128
      ≡ flags_of p carry (wiped_if wipe p y_blank y) (wiped_if wipe p c_blank c) / 128
  pub y_again : corrected_y p carry false (corrected_y p carry wipe y) ≡ corrected_y p carry wipe y
  pub c_again : corrected_c p carry false (corrected_c p carry wipe c) ≡ corrected_c p carry wipe c

row_right : (p : Plan) → Fits p.places → (carry : Carry) (wipe : Bool) (y c : List ℕ)
    → length y ≡ p.places.total → length c ≡ p.places.total → Right p carry wipe y c
unfolding flags_of wiped_if
row_right p fits carry wipe y c ly lc =
    let known = (carried carry).known in
    let wy = wiped_if wipe p y_blank y in
    let wc = wiped_if wipe p c_blank c in
    let hy : length wy ≡ p.places.total = wiped_if-length p y wipe y_blank ∙ ly in
    let hc : length wc ≡ p.places.total = wiped_if-length p c wipe c_blank ∙ lc in
    let fy = faults_of p known (carried carry).y wy in
    let fc = faults_of p known (carried carry).c wc in
    let flags : flags_of p carry (corrected_y p carry wipe y) (corrected_c p carry wipe c) ≡ joined (left_of fy) (left_of fc) =
    ap₂ joined (rechecked p fits known (carried carry).y wy hy) (rechecked p fits known (carried carry).c wc hc) in
    record {
      clear = ap (λ (n : ℕ). n % 128) flags ∙ joined_low fy fc;
      kept = ap (λ (n : ℕ). n / 128) flags ∙ joined_high fy fc;
      y_again = put_right_again p fits known (carried carry).y wy hy;
      c_again = put_right_again p fits known (carried carry).c wc hc;
    }

pub correction_right : (code line : ℕ) → line_refusal code line ≡ 0 → (carry : Carry) (wipe : Bool) (y c : List ℕ)
    → length y ≡ (plan_of code line).places.total → length c ≡ (plan_of code line).places.total → Right (plan_of code line) carry wipe y c
correction_right code line ok = row_right (plan_of code line) (plan_of-fits code line ok)

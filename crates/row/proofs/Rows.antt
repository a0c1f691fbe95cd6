-- Laws of a row's refusals: what is answered where there is one, and what a row is that has none.
use mathlib.Core.Path.{◌≡◌, refl}
use mathlib.Core.Bool.{true}
use mathlib.Core.List.{List}
use Prim.Native.Nat.{ℕ, zero, suc, ◌<◌}
use native.Mathlib.Omega.{arith}
use Rattle.std.specs.Prelude.{Option, None, Some, Ok, is_some, unwrap_or}
use Rattle.bits.proofs.Choice.{and-true, if_zero}
use Rattle.refusal.proofs.Answers.{if_below}
use Rattle.crc.specs.Crc.{register_ok}
use Rattle.plan.specs.declared.Plan.{Plan}
use Rattle.plan.specs.Refusal.{row_refusal}
use Rattle.plan.proofs.Rows.{or_refusal_below, or_refusal_first, or_refusal_none, row_refusal_below}
use Rattle.row.specs.Before.{Carry, Before, carried, by_channel, carry_ok}
use Rattle.row.specs.Row.{judged_by, judged, check_refusal, checked}

pub judged_by-refused :
    (n : ℕ) (p : Plan) (carry : Carry) (y c : List ℕ)
    → (n ≡ 0 → ⊥)
    → judged_by n p carry y c ≡ record { flags = 0; carry = None }
judged_by-refused zero p carry y c bad = absurd (bad refl)
judged_by-refused (suc n) p carry y c bad = refl

-- ---- the carry

pub carried_ok : (carry : Carry) → carry_ok carry ≡ true → (register_ok (carried carry).y ≡ true) × (register_ok (carried carry).c ≡ true)
carried_ok None e = (refl, refl)
carried_ok (Some r) e = and-true (register_ok r.y) (register_ok r.c) e

-- what is carried to one channel
pub record Carried (before : Before) (register : ℕ) (carried : Option ℕ) : Type 0 where
  pub known : is_some carried ≡ before.known
  pub value : unwrap_or carried 0 ≡ register

pub carried_y : (carry : Carry) → Carried (carried carry) (carried carry).y (by_channel carry).y
carried_y None = record { known = refl; value = refl }
carried_y (Some r) = record { known = refl; value = refl }

pub carried_c : (carry : Carry) → Carried (carried carry) (carried carry).c (by_channel carry).c
carried_c None = record { known = refl; value = refl }
carried_c (Some r) = record { known = refl; value = refl }

-- ---- check_refusal

module _ (code line : ℕ) (carry : Carry) (y c : List ℕ) where
  pub check_refusal_row : (row_refusal code line y c ≡ 0 → ⊥) → check_refusal code line carry y c ≡ row_refusal code line y c
  unfolding check_refusal
  check_refusal_row bad = or_refusal_first (row_refusal code line y c) _ bad

  -- a row that is not refused is right, and so is its carry
  pub check_refusal_ok : check_refusal code line carry y c ≡ 0 → (row_refusal code line y c ≡ 0) × (carry_ok carry ≡ true)
  unfolding check_refusal
  check_refusal_ok e =
      let z = or_refusal_none (row_refusal code line y c) _ e in
      (z.0, (if_zero (carry_ok carry) 0 2 z.1).0)

  pub check_refusal_below : check_refusal code line carry y c < 8
  unfolding check_refusal
  check_refusal_below =
      or_refusal_below (row_refusal code line y c) _ (row_refusal_below code line y c) (if_below (carry_ok carry) 0 3 (omega arith) (omega arith))

-- ---- checked

module _ (code line : ℕ) (carry : Carry) (y c : List ℕ) where
  pub checked_done : check_refusal code line carry y c ≡ 0 → checked code line carry y c ≡ Ok (judged code line carry y c)
  unfolding checked
  checked_done ok = rw ok

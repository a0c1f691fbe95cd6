-- A row that is right is checked: its flags and the carry that it leaves.
use mathlib.Core.Path.{◌≡◌, ◌∙◌}
use mathlib.Core.Bool.{true}
use mathlib.Core.List.{List}
use Prim.Native.Nat.{ℕ}
use lib.ListN.{length}
use borrow.Author.Tests.{eq-eqb}
use Rattle.std.specs.Prelude.{Ok}
use Rattle.plan.specs.Plan.{plan_of}
use Rattle.plan.specs.Refusal.{row_ok, row_refusal}
use Rattle.plan.proofs.Plans.{plan_of-total}
use Rattle.plan.proofs.Rows.{RowFits, row_refusal_words}
use Rattle.row.specs.Before.{Carry, carry_ok}
use Rattle.row.specs.Row.{carry_after, checked, check_refusal, flags_of, judged}

module _ (code line : ℕ) (y c : List ℕ) (fits : RowFits code line y c) where
  long : (ws : List ℕ) → length ws ≡ (plan_of code line).places.total → row_ok code ws ≡ true
  long ws e = eq-eqb (length ws) _ (e ∙ plan_of-total code line fits.ok)

  pub row_taken : row_refusal code line y c ≡ 0
  row_taken = row_refusal_words code line y c fits.ok (long y fits.y_length) (long c fits.c_length) ∙ rw (fits.y_words, fits.c_words)

  pub row_checked : (carry : Carry) → carry_ok carry ≡ true
      → checked code line carry y c
      ≡ Ok (record { flags = flags_of (plan_of code line) carry y c; carry = carry_after (plan_of code line) y c })
  unfolding checked check_refusal judged
  row_checked carry registers = rw (row_taken, registers, fits.ok)

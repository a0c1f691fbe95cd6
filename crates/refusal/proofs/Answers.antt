-- Laws of answers that may refuse.
use mathlib.Core.Path.{◌≡◌, refl, sym, ap, ◌∙◌}
use lib.Dec.{eqb→eq}
use Rattle.std.specs.Prelude.{Bool, true, false, ℕ, zero, suc, ◌<◌, eqb, Result, Ok, Err, is_ok}
use Rattle.std.specs.Result.{result_unwrap_or}
use Rattle.std.proofs.Math.Nat.{suc-ne-zero}
use Rattle.bits.specs.Choice.{if}
use Rattle.bits.proofs.Below.{below}
use Rattle.bits.proofs.Choice.{false_not_true}
use Rattle.refusal.specs.declared.Refusal.{Refusal}
use Rattle.refusal.specs.Refusal.{refusal_numbered, refusal_of, result_of}

-- ---- an answer is of one case

pub ok_same : {A E : Type 0} {r : Result A E} {a b : A} → r ≡ Ok a → r ≡ Ok b → a ≡ b
ok_same {a = a} p q = ap (λ s. result_unwrap_or s a) (sym p ∙ q)

abbrev err_or : {A E : Type 0} → E → Result A E → E
err_or d (Ok a) = d
err_or d (Err e) = e

pub err_same : {A E : Type 0} {r : Result A E} {d e : E} → r ≡ Err d → r ≡ Err e → d ≡ e
err_same {d = d} p q = ap (λ s. err_or d s) (sym p ∙ q)

pub ok_not_err : {A E : Type 0} {r : Result A E} {a : A} {e : E} → r ≡ Ok a → r ≡ Err e → ⊥
ok_not_err p q = false_not_true (sym (ap (λ s. is_ok s) q) ∙ ap (λ s. is_ok s) p)

-- ---- result_of

module _ {A : Type 0} (work : A) where
  -- the work is answered exactly where the number is 0
  pub result_of_zero : (n : ℕ) → n ≡ 0 → result_of n work ≡ Ok work
  result_of_zero n z = rw z

  pub result_of_ok : {a : A} (n : ℕ) → result_of n work ≡ Ok a → (n ≡ 0) × (a ≡ work)
  result_of_ok zero e = (refl, ok_same e refl)
  result_of_ok (suc n) e = absurd (ok_not_err e refl)

  -- a refusal is the row of the number, whatever the work would have been
  pub result_of_bad : (n : ℕ) → (n ≡ 0 → ⊥) → result_of n work ≡ Err (refusal_numbered n)
  result_of_bad zero bad = absurd (bad refl)
  result_of_bad (suc n) bad = refl

  pub result_of_err : {refusal : Refusal} (n : ℕ) → result_of n work ≡ Err refusal → (n ≡ 0 → ⊥) × (refusal ≡ refusal_numbered n)
  result_of_err zero e = absurd (ok_not_err refl e)
  result_of_err (suc n) e = (suc-ne-zero n, err_same e refl)

  -- the number that is told of an answer is the one it was made of
  pub refusal_of_result : (n : ℕ) → n < 8 → refusal_of (result_of n work) ≡ n
  unfolding refusal_numbered
  refusal_of_result n h = eqb→eq _ _ (below (λ k. eqb (refusal_of (result_of k work)) k) 8 tt n h)

-- a cascade of such numbers gives one of them
pub if_below : {n : ℕ} (test : Bool) (a b : ℕ) → a < n → b < n → if test a b < n
if_below true a b h k = h
if_below false a b h k = k

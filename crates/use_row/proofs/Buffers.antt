-- What a call leaves of a buffer that it was lent.
use mathlib.Core.Path.{◌≡◌, refl}
use mathlib.Core.List.{List}
use Prim.Native.Nat.{ℕ, zero, suc}
use native.Mathlib.Omega.{arith}
use lib.ListN.{drop, length}
use Rattle.std.specs.Prelude.{Result}
use Rattle.std.specs.Result.{result_unwrap_or}
use Rattle.refusal.specs.declared.Refusal.{Refusal}
use Rattle.refusal.specs.Refusal.{refusal_of, result_of}
use Rattle.parts.specs.Parts.{laid_unless, unless_refused}
use Rattle.parts.proofs.Laid.{drop_of_laid}
use Rattle.law_refusal.specs.Answers.{Refused}

-- "A refusal .. changes no buffer"
pub kept : {A : Type 0} (work : A) (n : ℕ) (after before : List ℕ) {answer : Result A Refusal} {exit : List ℕ} → answer ≡ result_of n work
    → exit ≡ unless_refused n after before → Refused (refusal_of answer) → exit ≡ before
kept work zero after before a e = rw a (λ bad. absurd (bad refl))
kept work (suc n) after before a e = λ _. e

-- "Beyond what a result fills, a buffer keeps what it held."
pub beyond : (n filled : ℕ) (result before : List ℕ) {exit : List ℕ} → exit ≡ laid_unless n result before → (n ≡ 0 → length result ≡ filled)
    → drop filled exit ≡ drop filled before
beyond zero filled result before e long = let full = long refl in rw e (drop_of_laid filled 0 result before (omega arith))
beyond (suc n) filled result before e long = rw e refl

-- .. what it fills being the words that are answered
pub beyond_words : (n words : ℕ) (result before : List ℕ) {answer : Result ℕ Refusal} {exit : List ℕ} → answer ≡ result_of n words
    → exit ≡ laid_unless n result before → length result ≡ words → drop (result_unwrap_or answer 0) exit ≡ drop (result_unwrap_or answer 0) before
beyond_words zero words result before a e long = rw a (beyond 0 words result before e (λ _. long))
beyond_words (suc n) words result before a e long = rw (a, e) refl

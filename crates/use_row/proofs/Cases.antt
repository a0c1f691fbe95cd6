-- What holds of an answer, by its cases.
use mathlib.Core.Path.{◌≡◌, refl}
use Rattle.std.specs.Prelude.{Result, Ok, Err, IfOk, IsOkAnd}
use Rattle.refusal.specs.declared.Refusal.{Refusal}
use Rattle.refusal.specs.Refusal.{refusal_of}
use Rattle.law_refusal.specs.Answers.{Refused}

pub if_ok : {A E : Type 0} {P : A → Type 0} (r : Result A E) → ((a : A) → r ≡ Ok a → P a) → IfOk r P
if_ok (Ok a) f = f a refl
if_ok (Err e) f = tt

pub is_ok_and : {A E : Type 0} (P : A → Type 0) {r : Result A E} {a : A} → r ≡ Ok a → P a → IsOkAnd r P
is_ok_and P e p = rw e p

pub if_refused : {A : Type 0} {P : Type 0} (r : Result A Refusal) → ((why : Refusal) → r ≡ Err why → P) → Refused (refusal_of r) → P
if_refused (Ok a) f = λ bad. absurd (bad refl)
if_refused (Err why) f = λ _. f why refl

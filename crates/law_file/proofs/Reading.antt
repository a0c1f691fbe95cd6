-- What holds of a reading: one thing where something is read, another where the bytes are cut short, a third where they are refused.
use mathlib.Core.Path.{◌≡◌, refl}
use mathlib.Core.Bool.{Bool, true, false}
use mathlib.Core.List.{List}
use Prim.Native.Nat.{ℕ}
use Rattle.bits.specs.Choice.{if}
use Rattle.law_file.specs.File.{Got, got, cut, wrong, then}

pub data Reads {A : Type 0} (At : A → List ℕ → Type 0) (Cut : Type 0) (Wrong : ℕ → Type 0) : Got A → Type 0 where
  of_got : {v : A} {rest : List ℕ} → At v rest → Reads At Cut Wrong (got v rest)
  of_cut : Cut → Reads At Cut Wrong cut
  of_wrong : {n : ℕ} → Wrong n → Reads At Cut Wrong (wrong n)

module _ {Cut : Type 0} {Wrong : ℕ → Type 0} where
  pub reads_then : {A B : Type 0} {At : A → List ℕ → Type 0} {To : B → List ℕ → Type 0} {g : Got A} {f : A → List ℕ → Got B} → Reads At Cut Wrong g
      → ((v : A) (rest : List ℕ) → At v rest → Reads To Cut Wrong (f v rest)) → Reads To Cut Wrong (then g f)
  reads_then (of_got {v} {rest} h) k = k v rest h
  reads_then (of_cut h) k = of_cut h
  reads_then (of_wrong h) k = of_wrong h

  pub reads_if : {A : Type 0} {At : A → List ℕ → Type 0} (t : Bool) {g h : Got A} → (t ≡ true → Reads At Cut Wrong g) → (t ≡ false → Reads At Cut Wrong h)
      → Reads At Cut Wrong (if t g h)
  reads_if true a z = a refl
  reads_if false a z = z refl

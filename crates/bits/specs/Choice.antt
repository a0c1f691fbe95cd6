-- A case by a test: cascades of refusals and of readings are written with it.
use Rattle.std.specs.Prelude.{Bool, true, false, ℕ, zero, suc, Option, None, Some}

abbrev pub if : {A : Type 0} → Bool → A → A → A
if true a b = a
if false a b = b

-- a number of which 0 says that there is none
abbrev pub unless_zero : ℕ → Option ℕ
unless_zero zero = None
unless_zero (suc n) = Some (suc n)

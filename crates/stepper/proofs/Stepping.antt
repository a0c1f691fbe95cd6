-- Laws of the step and its fold: a bit that changes only what is seen, bits after bits, a word's bits.
use mathlib.Core.Path.{◌≡◌, refl, ap, ◌∙◌}
use mathlib.Core.Bool.{Bool, true}
use mathlib.Core.List.{List, [], ◌∷◌, ◌++◌}
use Prim.Native.Nat.{ℕ, zero, suc, ◌+◌, ◌/◌, ◌^◌}
use native.Mathlib.Omega.{arith}
use lib.Pow.{shr-shr}
use Rattle.bits.specs.Bits.{odd, bits}
use Rattle.bits.proofs.Choice.{false_not_true}
use Rattle.recogniser.specs.declared.Event.{Event}
use Rattle.recogniser.specs.declared.Event.TheVariants.{Outside, Within, Pair, Opens, Whole, Early, Late, Astray}
use Rattle.recogniser.specs.declared.Looked.{Looked}
use Rattle.recogniser.specs.Event.{looked}
use Rattle.judging.specs.Happening.{happened}
use Rattle.laying.specs.Laying.{laid_by}
use Rattle.tally.specs.Tally.{tallied}
use Rattle.stepper.specs.declared.State.{State}
use Rattle.stepper.specs.Step.{Run, Laying, arrived, is_quiet, run, seeing, stepped, steps}

-- ---- a bit that changes only what is seen

module _ (code total : ℕ) (b : Bool) (s : State) (y c : List ℕ) {l : Looked} (e : l ≡ looked total b s.sight) where
  pub arrives : {r : Run} → r ≡ arrived laid_by code total l (run s y c) → r ≡ stepped laid_by code total b (run s y c)
  unfolding stepped
  arrives f = f ∙ ap (λ (k : Looked). arrived laid_by code total k (run s y c)) e

  pub passes : is_quiet l.event ≡ true → run (seeing s l.sight) y c ≡ stepped laid_by code total b (run s y c)
  unfolding happened laid_by tallied
  passes q = arrives (go l.event q)
    where
      go : (e : Event) → is_quiet e ≡ true → run (seeing s l.sight) y c ≡ arrived laid_by code total (record { event = e; sight = l.sight }) (run s y c)
      go Outside q = refl
      go Within q = refl
      go Pair q = absurd (false_not_true q)
      go Opens q = absurd (false_not_true q)
      go Whole q = absurd (false_not_true q)
      go Early q = absurd (false_not_true q)
      go Late q = absurd (false_not_true q)
      go Astray q = absurd (false_not_true q)

-- ---- steps

module _ (lay : Laying) (code total : ℕ) where
  pub steps_of_append : (xs ys : List Bool) (x : Run) → steps lay code total (xs ++ ys) x ≡ steps lay code total ys (steps lay code total xs x)
  unfolding steps
  steps_of_append [] ys x = refl
  steps_of_append (b ∷ xs) ys x = steps_of_append xs ys (stepped lay code total b x)

  pub steps_none : (w : ℕ) (x : Run) → steps lay code total (bits 0 w) x ≡ x
  unfolding steps bits
  steps_none w x = refl

  -- the low bits of a word, and the next one
  pub steps_bit : (k w : ℕ) (x : Run) → steps lay code total (bits (k + 1) w) x ≡ stepped lay code total (odd (w / 2 ^ k)) (steps lay code total (bits k w) x)
  unfolding steps bits
  steps_bit zero w x = let same : w / 1 ≡ w = omega arith in rw same
  steps_bit (suc k) w x =
      let half : w / 2 / 2 ^ k ≡ w / 2 ^ suc k = shr-shr w 1 k ∙ ap (λ (n : ℕ). w / 2 ^ n) (omega arith) in
      let more : suc k + 1 ≡ suc (k + 1) = omega arith in
      rw (more, ← half) (steps_bit k (w / 2) (stepped lay code total (odd w) x))

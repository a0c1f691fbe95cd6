-- Laws of the folds of a step: bits after bits.
use mathlib.Core.Path.{◌≡◌, refl, sym, ap, ◌∙◌}
use mathlib.Core.Bool.{Bool, true}
use mathlib.Core.List.{List, [], ◌∷◌, ◌++◌, append_assoc}
use Prim.Native.Nat.{ℕ}
use Rattle.recogniser.specs.Sight.{window_after}
use Rattle.recogniser.specs.Event.{looked}
use Rattle.judging.specs.declared.Happening.{Happening}
use Rattle.judging.specs.Happening.{happenings}
use Rattle.stepper.specs.Step.{Run, Laying, brought, stepped, steps, traced}

module _ (lay : Laying) (code total : ℕ) where
  pub traced_of_append : (bs ds : List Bool) (x : Run)
      → traced lay code total (bs ++ ds) x ≡ traced lay code total bs x ++ traced lay code total ds (steps lay code total bs x)
  unfolding steps traced
  traced_of_append [] ds x = refl
  traced_of_append (b ∷ bs) ds x =
      ap (λ (hs : List Happening). happenings (brought code total b x).happening ++ hs) (traced_of_append bs ds (stepped lay code total b x))
      ∙ sym
      (append_assoc (happenings (brought code total b x).happening) (traced lay code total bs (stepped lay code total b x))
      (traced lay code total ds (steps lay code total bs (stepped lay code total b x))))

  -- what holds at the start and is kept by a step holds after any bits
  pub steps_keep : (P : Run → Type 0) → ((b : Bool) (x : Run) → P x → P (stepped lay code total b x)) → (bs : List Bool) (x : Run) → P x
      → P (steps lay code total bs x)
  unfolding steps
  steps_keep P kept [] x p = p
  steps_keep P kept (b ∷ bs) x p = steps_keep P kept bs (stepped lay code total b x) (kept b x p)

  -- a sync that was seen stays seen
  seen_step : (b : Bool) (x : Run) → x.state.sight.window.seen ≡ true → (stepped lay code total b x).state.sight.window.seen ≡ true
  unfolding stepped looked window_after
  seen_step b x s = rw s

  pub seen_stays : (bs : List Bool) (x : Run) → x.state.sight.window.seen ≡ true → (steps lay code total bs x).state.sight.window.seen ≡ true
  seen_stays = steps_keep (λ (x : Run). x.state.sight.window.seen ≡ true) seen_step

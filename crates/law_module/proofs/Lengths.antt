-- The row buffers keep their lengths, whatever is laid.
use mathlib.Core.Path.{◌≡◌, refl, ◌∙◌}
use mathlib.Core.Bool.{Bool, true, false}
use mathlib.Core.List.{List}
use Prim.Native.Nat.{ℕ}
use lib.Dec.{ltb}
use lib.ListN.{length, set, length-set}
use Rattle.bits.specs.Choice.{if}
use Rattle.parts.proofs.Laid.{length-laid}
use Rattle.stream.specs.Words.{trs}
use Rattle.recogniser.specs.declared.Event.{Event}
use Rattle.recogniser.specs.declared.Event.TheVariants.{Pair, Opens, Whole, Early}
use Rattle.recogniser.specs.Sight.{c_word, y_word}
use Rattle.laying.specs.Laying.{pair_laid, laid_by}
use Rattle.stepper.specs.Step.{Run, recognised, stepped, steps}
use Rattle.law_module.proofs.Folds.{steps_keep}

length-pair_laid : (total at w : ℕ) (buffer : List ℕ) → length (pair_laid total at w buffer) ≡ length buffer
length-pair_laid total at w buffer = go (ltb at total)
  where
    go : (t : Bool) → length (if t (set buffer at w) buffer) ≡ length buffer
    go true = length-set buffer at w
    go false = refl

pub length-laid_by : (event : Event) (total at w : ℕ) (buffer : List ℕ) → length (laid_by event total at w buffer) ≡ length buffer
unfolding laid_by
length-laid_by Pair total at w buffer = length-pair_laid total at w buffer
length-laid_by Opens total at w buffer = length-laid 0 (trs w) buffer
length-laid_by Whole total at w buffer = length-laid 0 (trs w) buffer
length-laid_by Early total at w buffer = length-laid 0 (trs w) (pair_laid total at w buffer) ∙ length-pair_laid total at w buffer
length-laid_by _ total at w buffer = refl

module _ (code total : ℕ) (x : Run) where
  Same : Run → Type 0
  Same z = (length z.y ≡ length x.y) × (length z.c ≡ length x.c)

  pub length-steps : (bs : List Bool) → (length (steps laid_by code total bs x).y ≡ length x.y) × (length (steps laid_by code total bs x).c ≡ length x.c)
  unfolding Same stepped
  length-steps bs = steps_keep laid_by code total Same kept bs x (refl, refl)
    where
      kept : (b : Bool) (z : Run) → Same z → Same (stepped laid_by code total b z)
      kept b z e =
          let l = recognised total b z in (
            length-laid_by l.event total z.state.sight.place.pairs (y_word l.sight.window.last) z.y ∙ e.0,
            length-laid_by l.event total z.state.sight.place.pairs (c_word l.sight.window.last) z.c ∙ e.1,
          )

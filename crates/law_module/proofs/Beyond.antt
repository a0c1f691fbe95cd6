-- "Beyond what a result fills, a buffer keeps what it held.": beyond the raster's T a feed writes nothing.
use mathlib.Core.Path.{◌≡◌, refl, ◌∙◌}
use mathlib.Core.Bool.{Bool, true, false}
use mathlib.Core.List.{List}
use Prim.Native.Nat.{ℕ, zero, suc, ◌≤◌}
use native.Mathlib.Omega.{arith}
use lib.Dec.{ltb}
use lib.ListN.{drop, set}
use lib.Seq.{drop-set-lt}
use borrow.Author.Tests.{ltb-true}
use Rattle.bits.specs.Choice.{if}
use Rattle.bits.specs.Bits.{word_bits}
use Rattle.raster.specs.Table.{total_of}
use Rattle.raster.proofs.Table.{looked_up_range}
use Rattle.cable.specs.Words.{unscramble_words}
use Rattle.parts.specs.Parts.{unless_refused}
use Rattle.parts.proofs.Laid.{drop_of_laid}
use Rattle.stream.specs.Words.{trs}
use Rattle.recogniser.specs.declared.Event.{Event}
use Rattle.recogniser.specs.declared.Event.TheVariants.{Pair, Opens, Whole, Early}
use Rattle.recogniser.specs.Sight.{c_word, y_word}
use Rattle.laying.specs.Laying.{pair_laid, laid_by}
use Rattle.stepper.specs.Step.{Run, run, recognised, stepped}
use Rattle.session.specs.declared.Session.{Session}
use Rattle.session.specs.Session.{feed_refusal, fed_run, fed_y, fed_c}
use Rattle.session.proofs.Refusing.{ready_raster, feed_taken}
use Rattle.law_module.proofs.Folds.{steps_keep}

-- ---- an event, bits: rows of at most so many words

module _ (limit total : ℕ) (low : 4 ≤ total) (high : total ≤ limit) where
  -- what stands beyond
  abbrev beyond : List ℕ → List ℕ
  beyond buffer = drop limit buffer

  beyond_pair : (at w : ℕ) (buffer : List ℕ) → beyond (pair_laid total at w buffer) ≡ beyond buffer
  beyond_pair at w buffer = go (ltb at total) refl
    where
      go : (t : Bool) → ltb at total ≡ t → beyond (if t (set buffer at w) buffer) ≡ beyond buffer
      go true e = drop-set-lt limit buffer at w (omega (arith, ltb-true at total e, high))
      go false e = refl

  beyond_eav : (w : ℕ) (buffer : List ℕ) → beyond (laid_by Opens 0 0 w buffer) ≡ beyond buffer
  unfolding laid_by
  beyond_eav w buffer = drop_of_laid limit 0 (trs w) buffer (omega (arith, low, high))

  beyond_event : (event : Event) (at w : ℕ) (buffer : List ℕ) → beyond (laid_by event total at w buffer) ≡ beyond buffer
  unfolding laid_by
  beyond_event Pair at w buffer = beyond_pair at w buffer
  beyond_event Opens at w buffer = beyond_eav w buffer
  beyond_event Whole at w buffer = beyond_eav w buffer
  beyond_event Early at w buffer = beyond_eav w (pair_laid total at w buffer) ∙ beyond_pair at w buffer
  beyond_event _ at w buffer = refl

  kept_step : (y c : List ℕ) (code : ℕ) (b : Bool) (x : Run) → (beyond x.y ≡ beyond y) × (beyond x.c ≡ beyond c)
      → (beyond (stepped laid_by code total b x).y ≡ beyond y) × (beyond (stepped laid_by code total b x).c ≡ beyond c)
  unfolding stepped
  kept_step y c code b x e =
      let l = recognised total b x in
      let at = x.state.sight.place.pairs in
      (beyond_event l.event at (y_word l.sight.window.last) x.y ∙ e.0, beyond_event l.event at (c_word l.sight.window.last) x.c ∙ e.1)

-- ---- a feed

-- both buffers are there as y and c
abbrev pub Kept : ℕ → List ℕ → List ℕ → List ℕ → List ℕ → Type 0
Kept limit y c z d = (drop limit z ≡ drop limit y) × (drop limit d ≡ drop limit c)

pub kept_feed : (limit : ℕ) (s : Session) (ws y c : List ℕ) → total_of s.raster ≤ limit → Kept limit y c (fed_y s ws y c) (fed_c s ws y c)
unfolding fed_run fed_y fed_c
kept_feed limit s ws y c high = go (feed_refusal s ws y c) refl
  where
    go : (n : ℕ) → feed_refusal s ws y c ≡ n
        → Kept limit y c (unless_refused n (fed_run s ws y c).y y) (unless_refused n (fed_run s ws y c).c c)
    go zero e =
        let low = (looked_up_range s.raster (ready_raster (feed_taken s ws y c e).0)).total_low in
        steps_keep laid_by s.raster (total_of s.raster) (λ (x : Run). Kept limit y c x.y x.c)
        (kept_step limit (total_of s.raster) (omega (arith, low)) high y c s.raster)
        (word_bits (unscramble_words s.history ws)) (run s.state y c) (refl, refl)
    go (suc n) e = (refl, refl)

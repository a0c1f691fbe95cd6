-- Laws of bits in which no sync and no XYZ pair ends.
use mathlib.Core.Path.{◌≡◌, refl, sym, ap, ap₂, ◌∙◌}
use mathlib.Core.Bool.{Bool, false, ◌||◌, or-false}
use mathlib.Core.List.{List, [], ◌∷◌, ◌++◌}
use Prim.Native.Nat.{ℕ, suc, ◌+◌, ◌≤◌, ◌<◌}
use native.Mathlib.Omega.{arith}
use lib.ListN.{length}
use borrow.Author.Tests.{ne_eqb, lt-leb}
use Rattle.align.specs.Search.{slid}
use Rattle.parts.specs.Parts.{part}
use Rattle.recogniser.specs.declared.Place.{Place}
use Rattle.recogniser.specs.declared.Event.{Event}
use Rattle.recogniser.specs.declared.Event.TheVariants.{Outside, Within, Pair}
use Rattle.recogniser.specs.Sight.{is_sync, c_word, y_word, ahead_after, window_after}
use Rattle.recogniser.specs.Event.{event_of, looked, nowhere, place, place_after}
use Rattle.judging.specs.Happening.{happened, happenings}
use Rattle.laying.specs.Laying.{laid_by}
use Rattle.tally.specs.Tally.{tallied}
use Rattle.stepper.specs.declared.State.{State}
use Rattle.stepper.specs.Step.{Run, run, stepped, steps}
use Rattle.taking.specs.Hurry.{NoSync, slides, standing}
use Rattle.stepper.proofs.Stepping.{steps_of_append}
use Rattle.taking.proofs.Sliding.{slides_of_append, no_sync_split}

module _ (code total : ℕ) (s : State) where
  -- what is left of a bit with which this event comes
  abbrev arrived : ℕ → Place → List ℕ → List ℕ → Event → Bool → Run
  arrived next p y c e sync =
      let h = happened e code s.track (part 0 total y) (part 0 total c) in
      run
      (record {
        sight = record {
          window = record { last = next; ahead = ahead_after 0 sync; seen = s.sight.window.seen || sync };
          place = place_after e p;
        };
        track = h.track;
        counts = tallied (happenings h.happening) s.counts;
      })
      (laid_by e total p.pairs (y_word next) y) (laid_by e total p.pairs (c_word next) c)

  arrives : (last : ℕ) (p : Place) (b : Bool) (e : Event) (y c : List ℕ) → event_of total 0 p (slid last b) ≡ e → is_sync (slid last b) ≡ false
      → stepped laid_by code total b (run (standing s last p) y c) ≡ arrived (slid last b) p y c e false
  unfolding stepped looked window_after
  arrives last p b e y c g h = ap₂ (arrived (slid last b) p y c) g h

  -- ---- outside of rows: nothing is laid

  outside : (last : ℕ) (b : Bool) (y c : List ℕ) → is_sync (slid last b) ≡ false
      → stepped laid_by code total b (run (standing s last nowhere) y c) ≡ run (standing s (slid last b) nowhere) y c
  unfolding event_of happened tallied laid_by
  outside last b y c none = arrives last nowhere b Outside y c refl none ∙ rw (or-false s.sight.window.seen)

  pub passed : (bs : List Bool) (last : ℕ) (y c : List ℕ) → NoSync last bs
      → steps laid_by code total bs (run (standing s last nowhere) y c) ≡ run (standing s (slides last bs) nowhere) y c
  unfolding steps
  passed [] last y c none = refl
  passed (b ∷ bs) last y c none =
      ap (steps laid_by code total bs) (outside last b y c none.0) ∙ passed bs (slid last b) y c none.1

  -- ---- in an open row: a pair is laid with its last bit

  within : (last pairs bit : ℕ) (b : Bool) (y c : List ℕ) → 1 ≤ pairs → bit < 19 → is_sync (slid last b) ≡ false
      → stepped laid_by code total b (run (standing s last (place pairs bit)) y c) ≡ run (standing s (slid last b) (place pairs (bit + 1))) y c
  unfolding event_of happened tallied laid_by
  within last pairs bit b y c some low none =
      arrives last (place pairs bit) b Within y c event none ∙ rw (or-false s.sight.window.seen)
    where
      event : event_of total 0 (place pairs bit) (slid last b) ≡ Within
      event = rw (ne_eqb pairs 0 (λ e. omega arith), lt-leb 19 bit low, none)

  quiet : (bs : List Bool) (last pairs bit : ℕ) (y c : List ℕ) → 1 ≤ pairs → NoSync last bs → bit + length bs ≤ 19
      → steps laid_by code total bs (run (standing s last (place pairs bit)) y c)
      ≡ run (standing s (slides last bs) (place pairs (bit + length bs))) y c
  unfolding steps
  quiet [] last pairs bit y c some none low =
      let f : bit ≡ bit + 0 = omega arith in
      ap (λ (k : ℕ). run (standing s last (place pairs k)) y c) f
  quiet (b ∷ bs) last pairs bit y c some none low =
      let f : bit + 1 + length bs ≡ bit + suc (length bs) = omega arith in
      ap (steps laid_by code total bs) (within last pairs bit b y c some (omega arith) none.0)
      ∙ quiet bs (slid last b) pairs (bit + 1) y c some none.1 (omega arith)
      ∙ ap (λ (k : ℕ). run (standing s (slides last (b ∷ bs)) (place pairs k)) y c) f

  ends : (last pairs : ℕ) (b : Bool) (y c : List ℕ) → 1 ≤ pairs → pairs < total + 3 → is_sync (slid last b) ≡ false
      → stepped laid_by code total b (run (standing s last (place pairs 19)) y c)
      ≡ run (standing s (slid last b) (place (pairs + 1) 0)) (laid_by Pair total pairs (y_word (slid last b)) y) (laid_by Pair total pairs (c_word (slid last b)) c)
  unfolding event_of happened tallied
  ends last pairs b y c some early none =
      arrives last (place pairs 19) b Pair y c event none ∙ rw (or-false s.sight.window.seen)
    where
      event : event_of total 0 (place pairs 19) (slid last b) ≡ Pair
      event = rw (ne_eqb pairs 0 (λ e. omega arith), lt-leb (total + 3) pairs early)

  -- twenty bits, of which the first end a pair and the last begin one
  pub twenty : (xs : List Bool) (b : Bool) (ys : List Bool) (last pairs bit : ℕ) (y c : List ℕ) → 1 ≤ pairs → pairs < total + 3
      → bit + length xs ≡ 19 → length ys ≡ bit → NoSync last (xs ++ (b ∷ ys))
      → steps laid_by code total (xs ++ (b ∷ ys)) (run (standing s last (place pairs bit)) y c)
      ≡ run (standing s (slides last (xs ++ (b ∷ ys))) (place (pairs + 1) bit))
      (laid_by Pair total pairs (y_word (slid (slides last xs) b)) y)
      (laid_by Pair total pairs (c_word (slid (slides last xs) b)) c)
  unfolding steps
  twenty xs b ys last pairs bit y c some early first rest none =
      let q = no_sync_split last xs (b ∷ ys) none in
      let m = slid (slides last xs) b in
      let y' = laid_by Pair total pairs (y_word m) y in
      let c' = laid_by Pair total pairs (c_word m) c in
      let g : 0 + length ys ≡ bit = omega arith in
      steps_of_append laid_by code total xs (b ∷ ys) (run (standing s last (place pairs bit)) y c)
      ∙ ap (steps laid_by code total (b ∷ ys)) (quiet xs last pairs bit y c some q.0 (omega arith) ∙ ap (λ (k : ℕ). run (standing s (slides last xs) (place pairs k)) y c) first)
      ∙ ap (steps laid_by code total ys) (ends (slides last xs) pairs b y c some early q.1.0)
      ∙ quiet ys m (pairs + 1) 0 y' c' (omega arith) q.1.1 (omega arith)
      ∙ ap₂ (λ (l k : ℕ). run (standing s l (place (pairs + 1) k)) y' c') (sym (slides_of_append last xs (b ∷ ys))) g

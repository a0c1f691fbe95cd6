-- Laws of steps in which nothing happens, and of whole pairs.
use mathlib.Core.Path.{◌≡◌, refl, ap, ap₂, ◌∙◌}
use mathlib.Core.Bool.{Bool, true, false, ◌||◌, and-false, or-false}
use mathlib.Core.List.{List, [], ◌∷◌, ◌++◌}
use mathlib.Core.Logic.{◌⊎◌, inl, inr}
use Prim.Native.Nat.{ℕ, suc, ◌+◌, ◌-◌, ◌≤◌, ◌<◌}
use native.Mathlib.Omega.{arith}
use lib.Dec.{eqb, ltb}
use lib.ListN.{length}
use borrow.Author.Tests.{ne_eqb, lt-leb, le-leb}
use Rattle.bits.specs.Choice.{if}
use Rattle.align.specs.Search.{slid}
use Rattle.parts.specs.Parts.{part}
use Rattle.stream.specs.Words.{trs}
use Rattle.recogniser.specs.declared.Event.{Event}
use Rattle.recogniser.specs.declared.Event.TheVariants.{Outside, Within, Pair, Whole}
use Rattle.recogniser.specs.Sight.{is_sync, is_eav, c_word, y_word, ahead_after, window_after}
use Rattle.recogniser.specs.Event.{event_of, looked, place, place_after}
use Rattle.judging.specs.declared.Track.{Track}
use Rattle.judging.specs.Happening.{happened, happenings}
use Rattle.tally.specs.declared.Counts.{Counts}
use Rattle.tally.specs.Tally.{tallied}
use Rattle.stepper.specs.Step.{Run, run, stepped, steps}
use Rattle.stepper.proofs.Stepping.{steps_of_append}
use Rattle.law_module.specs.Module.{listed}
use Rattle.law_clean.proofs.Sliding.{slides, no_edge_sync, NoEdge, pair_bits, first_bits, top_bit, pair_bits_split, length_first_bits, pair_last, slid_top, Seen, pair_seen}

-- a module's state, number by number
abbrev pub standing : Bool → ℕ → ℕ → ℕ → ℕ → Track → Counts → List ℕ → List ℕ → Run
standing seen last ahead pairs bit t n y c =
    run
    (record {
      sight = record { window = record { last = last; ahead = ahead; seen = seen }; place = place pairs bit };
      track = t;
      counts = n;
    })
    y c

-- a bit with which this event comes, and with which a sync ends or not
module _ (code total : ℕ) (seen : Bool) (last ahead pairs bit : ℕ) (t : Track) (n : Counts) (y c : List ℕ) where
  abbrev arrived : Event → Bool → ℕ → Run
  arrived e sync next =
      let h = happened e code t (part 0 total y) (part 0 total c) in
      run
      (record {
        sight = record {
          window = record { last = next; ahead = ahead_after ahead sync; seen = seen || sync };
          place = place_after e (place pairs bit);
        };
        track = h.track;
        counts = tallied (happenings h.happening) n;
      })
      (listed e total pairs (y_word next) y) (listed e total pairs (c_word next) c)

  pub step_with : (b : Bool) (next : ℕ) (e : Event) (sync : Bool)
      → slid last b ≡ next → event_of total ahead (place pairs bit) next ≡ e → is_sync next ≡ sync
      → stepped listed code total b (standing seen last ahead pairs bit t n y c) ≡ arrived e sync next
  unfolding stepped looked window_after
  step_with b next e sync f g h =
      ap (λ (next : ℕ). arrived (event_of total ahead (place pairs bit) next) (is_sync next) next) f
      ∙ ap₂ (λ (e : Event) (sync : Bool). arrived e sync next) g h

-- no XYZ pair is to come, or it ends after these bits: so it is after the first of them
one_less : {ahead n : ℕ} → (ahead ≡ 0) ⊎ (suc n < ahead) → (ahead - 1 ≡ 0) ⊎ (n < ahead - 1)
one_less (inl z) = inl (omega arith)
one_less (inr l) = inr (omega arith)

module _ (code total : ℕ) (t : Track) (n : Counts) where
  -- ---- bits within a pair of an open row

  within : (last ahead pairs bit : ℕ) (b : Bool) (y c : List ℕ) → 1 ≤ pairs → (ahead ≡ 1 → ⊥) → bit < 19 → is_sync (slid last b) ≡ false
      → stepped listed code total b (standing true last ahead pairs bit t n y c) ≡ standing true (slid last b) (ahead - 1) pairs (bit + 1) t n y c
  unfolding event_of happened listed tallied
  within last ahead pairs bit b y c some far low none =
      step_with code total true last ahead pairs bit t n y c b (slid last b) Within false refl event none
    where
      event : event_of total ahead (place pairs bit) (slid last b) ≡ Within
      event = rw (ne_eqb pairs 0 (λ e. omega arith), ne_eqb ahead 1 far, lt-leb 19 bit low, none)

  pub quiet : (bs : List Bool) (last ahead pairs bit : ℕ) (y c : List ℕ) → 1 ≤ pairs → NoEdge last bs → bit + length bs ≤ 19
      → (ahead ≡ 0) ⊎ (length bs < ahead)
      → steps listed code total bs (standing true last ahead pairs bit t n y c)
      ≡ standing true (slides last bs) (ahead - length bs) pairs (bit + length bs) t n y c
  unfolding steps
  quiet [] last ahead pairs bit y c some none low far =
      let e : ahead ≡ ahead - 0 = omega arith in
      let f : bit ≡ bit + 0 = omega arith in
      ap₂ (λ (a k : ℕ). standing true last a pairs k t n y c) e f
  quiet (b ∷ bs) last ahead pairs bit y c some none low far =
      let e : ahead - 1 - length bs ≡ ahead - suc (length bs) = omega arith in
      let f : bit + 1 + length bs ≡ bit + suc (length bs) = omega arith in
      ap (steps listed code total bs) (within last ahead pairs bit b y c some (λ o. omega arith) (omega arith) (no_edge_sync _ none.0))
      ∙ quiet bs (slid last b) (ahead - 1) pairs (bit + 1) y c some none.1 (omega arith) (one_less far)
      ∙ ap₂ (λ (a k : ℕ). standing true (slides last (b ∷ bs)) a pairs k t n y c) e f

-- ---- a whole pair of an open row

-- a row's words where one more pair has ended
abbrev pub grow : ℕ → ℕ → ℕ → List ℕ → List ℕ
grow total pairs w row = if (ltb pairs total) (row ++ (w ∷ [])) row

module _ (code total : ℕ) (t : Track) (n : Counts) (l pairs c y : ℕ) (ry rc : List ℕ)
    (some : 1 ≤ pairs) (small : l < 0x1000000000000000) (low_c : c < 1024) (low_y : y < 1024) (none : NoEdge l (first_bits c y))
  where
    -- the nineteen bits before its last
    nineteen : (ahead : ℕ) → (ahead ≡ 0) ⊎ (19 < ahead)
        → steps listed code total (pair_bits c y) (standing true l ahead pairs 0 t n ry rc)
        ≡ stepped listed code total (top_bit y) (standing true (slides l (first_bits c y)) (ahead - 19) pairs 19 t n ry rc)
    unfolding steps
    nineteen ahead far =
        ap (λ (bs : List Bool). steps listed code total bs (standing true l ahead pairs 0 t n ry rc)) (pair_bits_split c y)
        ∙ steps_of_append listed code total (first_bits c y) (top_bit y ∷ []) (standing true l ahead pairs 0 t n ry rc)
        ∙ ap (stepped listed code total (top_bit y))
        (quiet code total t n (first_bits c y) l ahead pairs 0 ry rc some none (omega (arith, length_first_bits c y)) (further far)
        ∙ ap (λ (k : ℕ). standing true (slides l (first_bits c y)) (ahead - k) pairs (0 + k) t n ry rc) (length_first_bits c y))
      where
        further : (ahead ≡ 0) ⊎ (19 < ahead) → (ahead ≡ 0) ⊎ (length (first_bits c y) < ahead)
        further (inl z) = inl z
        further (inr h) = inr (omega (arith, length_first_bits c y))

    seen : Seen (pair_last l c y) c y
    seen = pair_seen l c y small low_c low_y

    pub plain_pair : (ahead : ℕ) (sync : Bool) → pairs < total + 3 → (ahead ≡ 0) ⊎ ((ahead ≡ 20) × (is_eav y ≡ false)) → is_sync (pair_last l c y) ≡ sync
        → steps listed code total (pair_bits c y) (standing true l ahead pairs 0 t n ry rc)
        ≡ standing true (pair_last l c y) (if sync 20 0) (pairs + 1) 0 t n (grow total pairs y ry) (grow total pairs c rc)
    unfolding event_of happened listed tallied
    plain_pair ahead sync early far is =
        nineteen ahead (waits far)
        ∙ step_with code total true (slides l (first_bits c y)) (ahead - 19) pairs 19 t n ry rc (top_bit y) (pair_last l c y) Pair sync
        (slid_top l c y low_c low_y) (event far) is
        ∙ rw (seen.y_word_is, seen.c_word_is)
        (ap (λ (a : ℕ). standing true (pair_last l c y) (if sync 20 a) (pairs + 1) 0 t n (grow total pairs y ry) (grow total pairs c rc)) spent)
      where
        waits : (ahead ≡ 0) ⊎ ((ahead ≡ 20) × (is_eav y ≡ false)) → (ahead ≡ 0) ⊎ (19 < ahead)
        waits (inl z) = inl z
        waits (inr h) = inr (omega arith)

        spent : ahead - 19 - 1 ≡ 0
        spent = omega arith

        event : (ahead ≡ 0) ⊎ ((ahead ≡ 20) × (is_eav y ≡ false)) → event_of total (ahead - 19) (place pairs 19) (pair_last l c y) ≡ Pair
        event (inl z) = rw (ne_eqb pairs 0 (λ e. omega arith), ne_eqb (ahead - 19) 1 (λ e. omega arith), lt-leb (total + 3) pairs early)
        event (inr h) = rw (ne_eqb pairs 0 (λ e. omega arith), seen.y_word_is, h.1, and-false (eqb (ahead - 19) 1), lt-leb (total + 3) pairs early)

    -- the XYZ pair of an EAV, the fourth pair after the T-th
    pub whole_pair : total + 3 ≤ pairs → is_eav y ≡ true → is_sync (pair_last l c y) ≡ false
        → steps listed code total (pair_bits c y) (standing true l 20 pairs 0 t n ry rc)
        ≡ standing true (pair_last l c y) 0 4 0 (happened Whole code t (part 0 total ry) (part 0 total rc)).track
        (tallied (happenings (happened Whole code t (part 0 total ry) (part 0 total rc)).happening) n) (trs y) (trs c)
    unfolding event_of listed
    whole_pair late eav is =
        nineteen 20 (inr (omega arith))
        ∙ step_with code total true (slides l (first_bits c y)) 1 pairs 19 t n ry rc (top_bit y) (pair_last l c y) Whole false
        (slid_top l c y low_c low_y) event is
        ∙ rw (seen.y_word_is, seen.c_word_is)
      where
        event : event_of total 1 (place pairs 19) (pair_last l c y) ≡ Whole
        event = rw (ne_eqb pairs 0 (λ e. omega arith), seen.y_word_is, eav, le-leb (total + 3) pairs late)

-- ---- where no row is open

module _ (code total : ℕ) (seen : Bool) (t : Track) (n : Counts) where
  abbrev outside : ℕ → ℕ → Run
  outside last ahead = standing seen last ahead 0 0 t n [] []

  pub quiet_outside : (bs : List Bool) (last ahead : ℕ) → NoEdge last bs → (ahead ≡ 0) ⊎ (length bs < ahead)
      → steps listed code total bs (outside last ahead) ≡ outside (slides last bs) (ahead - length bs)
  unfolding steps event_of happened listed tallied
  quiet_outside [] last ahead none far = let e : ahead ≡ ahead - 0 = omega arith in ap (outside last) e
  quiet_outside (b ∷ bs) last ahead none far =
      let e : ahead - 1 - length bs ≡ ahead - suc (length bs) = omega arith in
      ap (steps listed code total bs)
      (step_with code total seen last ahead 0 0 t n [] [] b (slid last b) Outside false refl (rw (ne_eqb ahead 1 (λ o. omega arith))) (no_edge_sync _ none.0)
      ∙ ap (λ (s : Bool). standing s (slid last b) (ahead - 1) 0 0 t n [] []) (or-false seen))
      ∙ quiet_outside bs (slid last b) (ahead - 1) none.1 (one_less far)
      ∙ ap (outside (slides last (b ∷ bs))) e

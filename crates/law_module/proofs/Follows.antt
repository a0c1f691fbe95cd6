-- A session in lent buffers follows the module that has none: the states are equal, and the buffers begin with the open row's pairs.
use mathlib.Core.Path.{◌≡◌, refl, sym, ap, ap₂, subst, ◌∙◌}
use mathlib.Core.Bool.{Bool, true, false}
use mathlib.Core.List.{List, [], ◌∷◌, ◌++◌}
use Prim.Native.Nat.{ℕ, suc, ◌+◌, ◌≤◌, min}
use native.Mathlib.Omega.{arith}
use lib.Dec.{leb, ltb, eqb}
use lib.ListN.{length, take, set, length-take}
use lib.Seq.{take-suc-set, take-take}
use borrow.Author.Tests.{ltb-true, ltb-false, leb-true}
use Rattle.bits.specs.Choice.{if}
use Rattle.parts.specs.Parts.{part, laid}
use Rattle.parts.proofs.Laid.{part_over_laid}
use Rattle.stream.specs.Words.{trs}
use Rattle.recogniser.specs.declared.Place.{Place}
use Rattle.recogniser.specs.declared.Event.{Event}
use Rattle.recogniser.specs.declared.Event.TheVariants.{Outside, Within, Pair, Opens, Whole, Early, Late, Astray}
use Rattle.recogniser.specs.declared.Looked.{Looked}
use Rattle.recogniser.specs.Sight.{is_sync, c_word, y_word}
use Rattle.recogniser.specs.Event.{eav_ends, is_fourth, event_of, place_after, looked}
use Rattle.judging.specs.declared.Track.{Track}
use Rattle.judging.specs.declared.Happened.{Happened}
use Rattle.judging.specs.Happening.{happened}
use Rattle.laying.specs.Laying.{pair_laid, laid_by}
use Rattle.stepper.specs.declared.State.{State}
use Rattle.stepper.specs.Step.{Run, run, state_after, stepped, steps}
use Rattle.law_module.specs.Module.{listed}
use Rattle.law_module.proofs.Lengths.{length-laid_by}

-- ---- a channel's row

module _ (total : ℕ) where
  -- the row is the buffer's first words, as many as pairs have ended and at most T
  pub record Holds (pairs : ℕ) (buffer row : List ℕ) : Type 0 where
    pub words : row ≡ take (min pairs total) buffer
    pub room : total ≤ length buffer

  eav_words : (w : ℕ) (buffer : List ℕ) → 4 ≤ total → total ≤ length buffer → trs w ≡ take (min 4 total) (laid 0 (trs w) buffer)
  eav_words w buffer t h =
      let four : min 4 total ≡ 4 = omega arith in
      rw four (sym (part_over_laid 0 4 (trs w) buffer (simp length-take (omega arith))))

  pair_words : (at w : ℕ) (buffer row : List ℕ) → Holds at buffer row → if (ltb at total) (row ++ (w ∷ [])) row ≡ take (min (at + 1) total) (pair_laid total at w buffer)
  pair_words at w buffer row r = go (ltb at total) refl
    where
      go : (t : Bool) → ltb at total ≡ t → if t (row ++ (w ∷ [])) row ≡ take (min (at + 1) total) (if t (set buffer at w) buffer)
      go true e =
          let l = ltb-true at total e in
          let all : min at total ≡ at = omega arith in
          let next : min (at + 1) total ≡ suc at = omega arith in
          ap (λ (ws : List ℕ). ws ++ (w ∷ [])) (r.words ∙ ap (λ (n : ℕ). take n buffer) all)
          ∙ sym (take-suc-set buffer at w (omega (arith, r.room)))
          ∙ sym (ap (λ (n : ℕ). take n (set buffer at w)) next)
      go false e =
          let l = ltb-false at total e in
          let same : min at total ≡ min (at + 1) total = omega arith in
          r.words ∙ ap (λ (n : ℕ). take n buffer) same

  -- an event keeps it
  holds_after : (event : Event) (p : Place) (w : ℕ) (buffer row : List ℕ) → 4 ≤ total → Holds p.pairs buffer row
      → Holds (place_after event p).pairs (laid_by event total p.pairs w buffer) (listed event total p.pairs w row)
  unfolding listed laid_by
  holds_after event p w buffer row t r =
      record { words = words event; room = omega (arith, r.room, length-laid_by event total p.pairs w buffer) }
    where
      no_words : [] ≡ take (min 0 total) buffer
      no_words = let none : min 0 total ≡ 0 = omega arith in rw none

      words : (event : Event)
          → listed event total p.pairs w row ≡ take (min (place_after event p).pairs total) (laid_by event total p.pairs w buffer)
      words Within = r.words
      words Pair = pair_words p.pairs w buffer row r
      words Opens = eav_words w buffer t r.room
      words Whole = eav_words w buffer t r.room
      words Early = eav_words w (pair_laid total p.pairs w buffer) t (omega (arith, r.room, length-laid_by Pair total p.pairs w buffer))
      words _ = no_words

  -- a whole row: its first T words
  holds_whole : (pairs : ℕ) (buffer row : List ℕ) → total ≤ pairs → Holds pairs buffer row → part 0 total row ≡ part 0 total buffer
  holds_whole pairs buffer row h r =
      let all : min pairs total ≡ total = omega arith in
      ap (take total) (r.words ∙ ap (λ (n : ℕ). take n buffer) all) ∙ take-take total total buffer (omega arith)

-- ---- what happens: only a whole row's words count

whole_is_long : (total ahead : ℕ) (p : Place) (last : ℕ) → event_of total ahead p last ≡ Whole → total ≤ p.pairs
unfolding event_of
whole_is_long total ahead p last e = go (eqb p.pairs 0) (eav_ends ahead last) (is_fourth total p.pairs) (leb 19 p.bit) (is_sync last) (leb-true (total + 3) p.pairs) e
  where
    go : (z eav fourth nineteen sync : Bool) → (fourth ≡ true → total + 3 ≤ p.pairs)
        → if z (if eav Opens Outside) (if eav (if fourth Whole Early) (if nineteen (if fourth Late Pair) (if sync Astray Within))) ≡ Whole
        → total ≤ p.pairs
    go true true fourth nineteen sync f h = absurd cc
    go true false fourth nineteen sync f h = absurd cc
    go false true true nineteen sync f h = omega (arith, f refl)
    go false true false nineteen sync f h = absurd cc
    go false false true true sync f h = absurd cc
    go false false false true sync f h = absurd cc
    go false false fourth false true f h = absurd cc
    go false false fourth false false f h = absurd cc

happened_alike : (event : Event) (code : ℕ) (t : Track) (y c v d : List ℕ) → (event ≡ Whole → (y ≡ v) × (c ≡ d)) → happened event code t y c ≡ happened event code t v d
unfolding happened
happened_alike Whole code t y c v d same = ap₂ (λ (y c : List ℕ). happened Whole code t y c) (same refl).0 (same refl).1
happened_alike _ code t y c v d same = refl

-- ---- a step, and all of them

module _ (code total : ℕ) (t : 4 ≤ total) where
  -- x is the session's run, z the module's
  pub record Follows (x z : Run) : Type 0 where
    pub state : x.state ≡ z.state
    pub y : Holds total x.state.sight.place.pairs x.y z.y
    pub c : Holds total x.state.sight.place.pairs x.c z.c

  same_state : (b : Bool) (s : State) (y c v d : List ℕ) → Holds total s.sight.place.pairs y v → Holds total s.sight.place.pairs c d
      → Follows (stepped laid_by code total b (run s y c)) (stepped listed code total b (run s v d))
  unfolding stepped looked
  same_state b s y c v d hy hc =
      record {
        state =
            ap (λ (h : Happened). state_after l h s)
            (happened_alike l.event code s.track (part 0 total y) (part 0 total c) (part 0 total v) (part 0 total d) alike);
        y = holds_after total l.event s.sight.place (y_word l.sight.window.last) y v t hy;
        c = holds_after total l.event s.sight.place (c_word l.sight.window.last) c d t hc;
      }
    where
      l : Looked
      l = looked total b s.sight

      alike : l.event ≡ Whole → (part 0 total y ≡ part 0 total v) × (part 0 total c ≡ part 0 total d)
      alike e =
          let long = whole_is_long total s.sight.window.ahead s.sight.place l.sight.window.last e in
          (sym (holds_whole total s.sight.place.pairs y v long hy), sym (holds_whole total s.sight.place.pairs c d long hc))

  follows_after : (b : Bool) (x z : Run) → Follows x z → Follows (stepped laid_by code total b x) (stepped listed code total b z)
  follows_after b x z f =
      subst (λ (s : State). Follows (stepped laid_by code total b x) (stepped listed code total b (run s z.y z.c))) f.state
      (same_state b x.state x.y x.c z.y z.c f.y f.c)

  pub steps_follow : (bs : List Bool) (x z : Run) → Follows x z → Follows (steps laid_by code total bs x) (steps listed code total bs z)
  unfolding steps
  steps_follow [] x z f = f
  steps_follow (b ∷ bs) x z f = steps_follow bs (stepped laid_by code total b x) (stepped listed code total b z) (follows_after b x z f)

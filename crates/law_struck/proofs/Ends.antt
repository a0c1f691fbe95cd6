-- An open row that is not dropped runs to its end, and is judged there by the words of its own bits.
use mathlib.Core.Path.{◌≡◌, refl, sym, ap, ap₂, ◌∙◌}
use mathlib.Core.Bool.{Bool, false}
use mathlib.Core.List.{List, [], ◌∷◌, ◌++◌}
use mathlib.Core.Logic.{◌⊎◌, inl, inr}
use Prim.Native.Nat.{ℕ, ◌+◌, ◌*◌, ◌≤◌, ◌<◌}
use native.Mathlib.Omega.{arith}
use lib.ListN.{length}
use Rattle.bits.proofs.Choice.{false_not_true}
use Rattle.parts.specs.Parts.{part}
use Rattle.recogniser.specs.declared.Window.{Window}
use Rattle.recogniser.specs.declared.Place.{Place}
use Rattle.recogniser.specs.declared.Event.{Event}
use Rattle.recogniser.specs.declared.Event.TheVariants.{Outside, Within, Pair, Opens, Whole}
use Rattle.recogniser.specs.Sight.{window_after}
use Rattle.recogniser.specs.Event.{event_of, place, opened, place_after, looked}
use Rattle.judging.specs.declared.Track.{Track}
use Rattle.judging.specs.Happening.{happened, happenings}
use Rattle.stepper.specs.Step.{Run, brought, stepped, steps, traced}
use Rattle.law_module.specs.Module.{listed}
use Rattle.law_struck.proofs.Events.{Cause, outside, opens, whole, pair, within, cause_of}
use Rattle.law_struck.proofs.Open.{OpenRow, HoldsIn, holds_step}
use Rattle.law_struck.proofs.Nones.{is_dropped, None, none_of_append, not_dropped}

-- ---- a bit of an open row

-- how many bits of the row have come
abbrev pub came : Place → ℕ
came p = 20 * p.pairs + p.bit

-- where only the last bit of the four pairs after the T-th is to come
abbrev pub final : ℕ → Place
final total = place (total + 3) 19

module _ (total : ℕ) {bs : List Bool} (w : Window) (p : Place) {y c : List ℕ} (r : OpenRow total bs w p y c) (last : ℕ) where
  record Moves (e : Event) (code : ℕ) (t : Track) (ys cs : List ℕ) : Type 0 where
    quiet : happenings (happened e code t ys cs).happening ≡ []
    track : (happened e code t ys cs).track ≡ t
    still : (place_after e p).pairs ≡ 0 → ⊥
    more : came (place_after e p) ≡ came p + 1

  moves : (e : Event) (code : ℕ) (t : Track) (ys cs : List ℕ) → Cause total w.ahead p last e → came p < came (final total)
      → is_dropped (happened e code t ys cs).happening ≡ false → Moves e code t ys cs
  unfolding happened
  moves Outside code t ys cs (outside z) l n = absurd (omega (arith, r.low))
  moves Within code t ys cs (within some k s) l n =
      record { quiet = refl; track = refl; still = λ z. omega (arith, r.low); more = omega arith }
  moves Pair code t ys cs (pair some full k) l n =
      record { quiet = refl; track = refl; still = λ z. omega arith; more = omega (arith, r.small) }
  moves Opens code t ys cs (opens z one) l n = absurd (omega (arith, r.low))
  moves Whole code t ys cs (whole one k) l n = absurd (omega (arith, r.due))
  moves _ code t ys cs k l n = absurd (false_not_true (sym n))

  -- at the last bit only the EAV is left
  completes : (e : Event) (code : ℕ) (t : Track) (ys cs : List ℕ) → Cause total w.ahead p last e → p ≡ final total
      → is_dropped (happened e code t ys cs).happening ≡ false → e ≡ Whole
  unfolding happened
  completes Outside code t ys cs (outside z) l n = absurd (omega (arith, r.low))
  completes Within code t ys cs (within some k s) l n = absurd (omega (arith, ap (λ (q : Place). q.bit) l))
  completes Pair code t ys cs (pair some full k) l n = absurd (omega (arith, ap (λ (q : Place). q.pairs) l))
  completes Opens code t ys cs (opens z one) l n = absurd (omega (arith, r.low))
  completes Whole code t ys cs k l n = refl
  completes _ code t ys cs k l n = absurd (false_not_true (sym n))

-- ---- the bits of a row

abbrev pub place_of : Run → Place
place_of x = x.state.sight.place

module _ (code total : ℕ) (enough : 4 ≤ total) where
  record Quietly (b : Bool) (x : Run) : Type 0 where
    quiet : happenings (brought code total b x).happening ≡ []
    track : (stepped listed code total b x).state.track ≡ x.state.track
    still : (place_of (stepped listed code total b x)).pairs ≡ 0 → ⊥
    more : came (place_of (stepped listed code total b x)) ≡ came (place_of x) + 1

  -- a row that is open is one in the last of the bits
  pub row_open : (bs : List Bool) (x : Run) → HoldsIn total bs x → ((place_of x).pairs ≡ 0 → ⊥)
      → OpenRow total bs x.state.sight.window (place_of x) x.y x.c
  row_open bs x h some = go h.row
    where
      go : ((place_of x).pairs ≡ 0) ⊎ OpenRow total bs x.state.sight.window (place_of x) x.y x.c
          → OpenRow total bs x.state.sight.window (place_of x) x.y x.c
      go (inl z) = absurd (some z)
      go (inr r) = r

  bit_on : (b : Bool) (bs : List Bool) (x : Run) → OpenRow total bs x.state.sight.window (place_of x) x.y x.c
      → came (place_of x) < came (final total) → None is_dropped (happenings (brought code total b x).happening) → Quietly b x
  unfolding stepped looked
  bit_on b bs x r l n =
      let w = x.state.sight.window in
      let last = (window_after b w).last in
      let e = event_of total w.ahead (place_of x) last in
      let m = moves total w (place_of x) r last e code x.state.track (part 0 total x.y) (part 0 total x.c)
      (cause_of total w.ahead (place_of x) last) l (not_dropped (brought code total b x).happening n) in
      record { quiet = m.quiet; track = m.track; still = m.still; more = m.more }

  pub record RunsOn (ds : List Bool) (x : Run) : Type 0 where
    pub quiet : traced listed code total ds x ≡ []
    pub track : (steps listed code total ds x).state.track ≡ x.state.track
    pub ends : place_of (steps listed code total ds x) ≡ final total

  pub runs_on : (ds bs : List Bool) (x : Run) → HoldsIn total bs x → ((place_of x).pairs ≡ 0 → ⊥)
      → came (place_of x) + length ds ≡ came (final total) → None is_dropped (traced listed code total ds x) → RunsOn ds x
  unfolding steps traced
  runs_on [] bs x h some l n =
      let r = row_open bs x h some in
      let p : (place_of x).pairs ≡ total + 3 = omega (arith, r.small) in
      let q : (place_of x).bit ≡ 19 = omega (arith, r.small) in
      record { quiet = refl; track = refl; ends = ap₂ place p q }
  runs_on (d ∷ ds) bs x h some l n =
      let g = none_of_append is_dropped (happenings (brought code total d x).happening) (traced listed code total ds (stepped listed code total d x)) n in
      let m = bit_on d bs x (row_open bs x h some) (omega arith) g.0 in
      let k : came (place_of (stepped listed code total d x)) + length ds ≡ came (final total) = omega (arith, m.more) in
      let r = runs_on ds (bs ++ (d ∷ [])) (stepped listed code total d x) (holds_step code total enough bs d x h) m.still k g.1 in
      record { quiet = rw m.quiet r.quiet; track = r.track ∙ m.track; ends = r.ends }

  -- the last bit
  pub record Completed (b : Bool) (x : Run) : Type 0 where
    pub happens : brought code total b x ≡ happened Whole code x.state.track (part 0 total x.y) (part 0 total x.c)
    pub track : (stepped listed code total b x).state.track ≡ (brought code total b x).track
    pub again : place_of (stepped listed code total b x) ≡ opened

  pub bit_completes : (b : Bool) (bs : List Bool) (x : Run) → OpenRow total bs x.state.sight.window (place_of x) x.y x.c
      → place_of x ≡ final total → None is_dropped (happenings (brought code total b x).happening) → Completed b x
  unfolding stepped looked
  bit_completes b bs x r l n =
      let w = x.state.sight.window in
      let last = (window_after b w).last in
      let e = event_of total w.ahead (place_of x) last in
      let is = completes total w (place_of x) r last e code x.state.track (part 0 total x.y) (part 0 total x.c)
      (cause_of total w.ahead (place_of x) last) l (not_dropped (brought code total b x).happening n) in
      record {
        happens = ap (λ (f : Event). happened f code x.state.track (part 0 total x.y) (part 0 total x.c)) is;
        track = refl;
        again = ap (λ (f : Event). place_after f (place_of x)) is;
      }

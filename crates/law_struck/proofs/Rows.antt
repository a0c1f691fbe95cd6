-- A row from where it opens to where it is judged.
use mathlib.Core.Path.{◌≡◌, sym, ap, ◌∙◌}
use mathlib.Core.Bool.{Bool, true, false}
use mathlib.Core.List.{List, [], ◌∷◌, ◌++◌, append_assoc, append-nil}
use Prim.Native.Nat.{ℕ, suc, ◌+◌, ◌-◌, ◌*◌, ◌≤◌}
use native.Mathlib.Omega.{arith}
use lib.ListN.{length, take, drop, get_or, length-append, length-take, drop_of_length-le}
use lib.Seq.{take-take, take-append-le, drop_at, split_at}
use Rattle.parts.specs.Parts.{part}
use Rattle.law_burst.specs.Stretch.{channel_words}
use Rattle.recogniser.specs.declared.Window.{Window}
use Rattle.recogniser.specs.declared.Place.{Place}
use Rattle.recogniser.specs.declared.Event.TheVariants.{Whole}
use Rattle.recogniser.specs.Event.{opened}
use Rattle.judging.specs.declared.Track.{Track}
use Rattle.judging.specs.declared.Happened.{Happened}
use Rattle.judging.specs.Happening.{happened, happenings}
use Rattle.stepper.specs.Step.{Run, brought, steps, traced}
use Rattle.stepper.proofs.Stepping.{steps_of_append}
use Rattle.law_module.specs.Module.{listed}
use Rattle.law_module.proofs.Folds.{traced_of_append}
use Rattle.law_struck.proofs.Pairs.{channel_words-take}
use Rattle.law_struck.proofs.Open.{OpenRow, HoldsIn, holds_steps}
use Rattle.law_struck.proofs.Nones.{is_dropped, None, none_of_append}
use Rattle.law_struck.proofs.Ends.{came, final, place_of, row_open, runs_on, bit_completes}

-- so many bits from a place on
abbrev pub bits_at : ℕ → ℕ → List Bool → List Bool
bits_at at count bs = take count (drop at bs)

-- what comes of a row that is whole, by its bits
abbrev pub whole_row : ℕ → Track → List Bool → Happened
whole_row code t row = happened Whole code t (channel_words true row) (channel_words false row)

-- after the bits `before` a row opens, which began 80 bits earlier; its last bits and the next EAV are `one`
abbrev pub row_of : ℕ → List Bool → List Bool → List Bool
row_of total before one = bits_at (length before - 80) (20 * total) (before ++ one)

pub record RowEnds (code total : ℕ) (before one : List Bool) (x : Run) : Type 0 where
  pub late : 80 ≤ length before
  pub happens : traced listed code total one x ≡ happenings (whole_row code x.state.track (row_of total before one)).happening
  pub track : (steps listed code total one x).state.track ≡ (whole_row code x.state.track (row_of total before one)).track
  pub again : place_of (steps listed code total one x) ≡ opened

-- ---- the row's words

module _ (total : ℕ) (before init : List Bool) (b : Bool) {w : Window} {p : Place} {y c : List ℕ} (r : OpenRow total (before ++ init) w p y c)
    (at : p ≡ final total) (size : length init + 1 ≡ 20 * total) where
  row_size : length r.row ≡ 20 * (total + 3)
  row_size = r.pairs ∙ ap (λ (q : Place). 20 * q.pairs) at

  pre_size : length r.pre + 80 ≡ length before
  pre_size =
      let s : length before + length init ≡ length r.pre + (length r.row + length r.part) = simp length-append at (ap length r.split) in
      omega (arith, row_size, r.bit, ap (λ (q : Place). q.bit) at)

  row_bits : take (20 * total) r.row ≡ row_of total before (init ++ (b ∷ []))
  row_bits =
      let rest = r.part ++ (b ∷ []) in
      let all : before ++ (init ++ (b ∷ [])) ≡ r.pre ++ (r.row ++ rest) =
      sym (append_assoc before init (b ∷ [])) ∙ ap (λ (l : List Bool). l ++ (b ∷ [])) r.split ∙ simp append_assoc in
      sym
      (ap (bits_at (length before - 80) (20 * total)) all
      ∙ ap (take (20 * total)) (drop_at r.pre (r.row ++ rest) (length before - 80) (omega (arith, pre_size)))
      ∙ take-append-le (20 * total) r.row rest (omega (arith, row_size)))

  row_words : (k : Bool) (ws : List ℕ) → ws ≡ take total (channel_words k r.row) → part 0 total ws ≡ channel_words k (row_of total before (init ++ (b ∷ [])))
  row_words k ws e =
      ap (take total) e
      ∙ take-take total total (channel_words k r.row) (omega arith)
      ∙ sym (channel_words-take k total 3 r.row row_size)
      ∙ ap (channel_words k) row_bits

-- ---- the row

module _ (code total : ℕ) (enough : 4 ≤ total) (before : List Bool) (x : Run) (h : HoldsIn total before x) (starts : place_of x ≡ opened) where
  row_ends_snoc : (init : List Bool) (b : Bool) → length init + 1 ≡ 20 * total → None is_dropped (traced listed code total (init ++ (b ∷ [])) x)
      → RowEnds code total before (init ++ (b ∷ [])) x
  unfolding steps traced
  row_ends_snoc init b size none =
      let x1 = steps listed code total init x in
      let row = row_of total before (init ++ (b ∷ [])) in
      let parts = traced_of_append listed code total init (b ∷ []) x in
      let whole = steps_of_append listed code total init (b ∷ []) x in
      let g = none_of_append is_dropped (traced listed code total init x) (traced listed code total (b ∷ []) x1) (rw parts at none) in
      let n1 = (none_of_append is_dropped (happenings (brought code total b x1).happening) [] g.1).0 in
      let length-left : came (place_of x) + length init ≡ came (final total) = rw starts (omega arith) in
      let r = runs_on code total enough init before x h (λ z. omega (arith, ap (λ (q : Place). q.pairs) starts)) length-left g.0 in
      let o = row_open code total enough (before ++ init) x1 (holds_steps code total enough init before x h)
      (λ z. omega (arith, ap (λ (q : Place). q.pairs) r.ends)) in
      let d = bit_completes code total enough b (before ++ init) x1 o r.ends n1 in
      let done : brought code total b x1 ≡ whole_row code x.state.track row =
      d.happens
      ∙ rw
      (r.track, row_words total before init b o r.ends size true x1.y o.of_y, row_words total before init b o r.ends size false x1.c o.of_c) in
      record {
        late = omega (arith, pre_size total before init b o r.ends size);
        happens =
            parts
            ∙ rw (r.quiet, append-nil (happenings (brought code total b x1).happening)) (ap (λ (g : Happened). happenings g.happening) done);
        track = ap (λ (z : Run). z.state.track) whole ∙ d.track ∙ ap (λ (g : Happened). g.track) done;
        again = ap place_of whole ∙ d.again;
      }

  pub row_ends : (one : List Bool) → length one ≡ 20 * total → None is_dropped (traced listed code total one x) → RowEnds code total before one x
  row_ends one size none =
      let k = 20 * total - 1 in
      let no_more : length one ≤ suc k = omega arith in
      let split : one ≡ take k one ++ (get_or one k false ∷ []) =
      split_at one k false (omega arith)
      ∙ ap (λ (l : List Bool). take k one ++ get_or one k false ∷ l) (drop_of_length-le one no_more) in
      let left : length (take k one) + 1 ≡ 20 * total = omega (arith, length-take k one) in
      rw split (row_ends_snoc (take k one) (get_or one k false) left (rw split at none))

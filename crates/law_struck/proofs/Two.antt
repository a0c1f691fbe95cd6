-- Two rows of a stream, one after the other: what happens at their ends.
use mathlib.Core.Path.{◌≡◌, sym, ap, ap₂, ◌∙◌}
use mathlib.Core.Bool.{Bool, true}
use mathlib.Core.List.{List, [], ◌∷◌, ◌++◌, append_assoc}
use Prim.Native.Nat.{ℕ, ◌+◌, ◌-◌, ◌*◌, ◌≤◌}
use native.Mathlib.Omega.{arith}
use lib.ListN.{length, drop, length-append}
use Rattle.raster.specs.Table.{raster_ok, raster_given, total_of}
use Rattle.raster.specs.Lines.{line_refusal}
use Rattle.raster.proofs.Table.{looked_up_range}
use Rattle.plan.specs.Plan.{plan_of}
use Rattle.law_burst.specs.Stretch.{flags_in}
use Rattle.recogniser.specs.declared.Place.{Place}
use Rattle.recogniser.specs.Event.{opened}
use Rattle.judging.specs.declared.Track.{Track}
use Rattle.judging.specs.declared.Happening.TheVariants.{RowJudged}
use Rattle.judging.specs.Happening.{line_after, happenings}
use Rattle.stepper.specs.Step.{Run}
use Rattle.stepper.proofs.Stepping.{steps_of_append}
use Rattle.law_module.specs.Module.{listed, begun_run, after_bits}
use Rattle.law_struck.specs.Struck.{happenings_after}
use Rattle.law_struck.proofs.Open.{HoldsIn, holds_steps, holds_begun}
use Rattle.law_struck.proofs.Nones.{is_dropped, None}
use Rattle.law_struck.proofs.Ends.{place_of, row_open}
use Rattle.law_struck.proofs.Rows.{bits_at, whole_row, row_of, row_ends}
use Rattle.law_struck.proofs.Second.{row_line, active_bits, second_row}
use Rattle.law_struck.proofs.Streams.{length_bits_at, bits_at_append, bits_at_join, bits_at_drop}

-- of a stream in which a row opens after so many bits: this row, the next one, and the stretch of this row's active words and the next row
abbrev pub first_row : ℕ → ℕ → List Bool → List Bool
first_row code at bs = bits_at (at - 80) (20 * total_of code) bs

abbrev pub row_next_to : ℕ → ℕ → List Bool → List Bool
row_next_to code at bs = bits_at (at - 80 + 20 * total_of code) (20 * total_of code) bs

abbrev pub stretch_start : ℕ → ℕ → ℕ
stretch_start code at = at - 80 + 20 * (total_of code - (raster_given code).layout.active)

abbrev pub stretch_size : ℕ → ℕ
stretch_size code = 20 * ((raster_given code).layout.active + total_of code)

module _ (code : ℕ) (raster : raster_ok code ≡ true) where
  stretch_rows : (at : ℕ) (bs : List Bool) → at + 20 * total_of code ≤ length bs
      → active_bits code (first_row code at bs) ++ row_next_to code at bs ≡ bits_at (stretch_start code at) (stretch_size code) bs
  stretch_rows at bs long =
      let total = total_of code in
      let active = (raster_given code).layout.active in
      let fits = (looked_up_range code raster).active_fits in
      let whole : 20 * total ≡ 20 * (total - active) + 20 * active = omega arith in
      let place : at - 80 + 20 * total ≡ stretch_start code at + 20 * active = omega arith in
      let size : 20 * active + 20 * total ≡ stretch_size code = omega arith in
      ap₂ (λ (i j : ℕ). drop (20 * (total - active)) (bits_at (at - 80) i bs) ++ bits_at j (20 * total) bs) whole place
      ∙ ap (λ (l : List Bool). l ++ bits_at (stretch_start code at + 20 * active) (20 * total) bs) (bits_at_drop (at - 80) (20 * (total - active)) (20 * active) bs (omega arith))
      ∙ bits_at_join (stretch_start code at) (20 * active) (20 * total) bs
      ∙ ap (λ (i : ℕ). bits_at (stretch_start code at) i bs) size

  four_pairs : 4 ≤ total_of code
  four_pairs = omega (arith, (looked_up_range code raster).total_low)

  holds_all : (bs : List Bool) → HoldsIn (total_of code) bs (after_bits code bs)
  holds_all bs = holds_steps code (total_of code) four_pairs bs [] begun_run (holds_begun (total_of code))

  -- where a row is open, a sync was seen
  pub opened_seen : (bs : List Bool) → (after_bits code bs).state.sight.place ≡ opened → (after_bits code bs).state.sight.window.seen ≡ true
  opened_seen bs opens =
      (row_open code (total_of code) four_pairs bs (after_bits code bs) (holds_all bs) (λ z. omega (arith, ap (λ (p : Place). p.pairs) opens))).seen

-- what happens at the end of the second row: it is judged by what the first one left
pub record Both (code : ℕ) (before one two bs : List Bool) : Type 0 where
  pub late : 80 ≤ length before
  pub second : happenings_after code (before ++ one) two
      ≡ happenings (whole_row code (whole_row code (after_bits code before).state.track (first_row code (length before) bs)).track (row_next_to code (length before) bs)).happening

module _ (code : ℕ) (raster : raster_ok code ≡ true) (bs before one two after : List Bool) (stream : bs ≡ before ++ (one ++ (two ++ after)))
    (long_one : length one ≡ 20 * total_of code) (long_two : length two ≡ 20 * total_of code) where
  first_row_is : 80 ≤ length before → row_of (total_of code) before one ≡ first_row code (length before) bs
  first_row_is late =
      let total = total_of code in
      sym
      (ap (first_row code (length before)) (stream ∙ sym (append_assoc before one (two ++ after)))
      ∙ bits_at_append (length before - 80) (20 * total) (before ++ one) (two ++ after) (omega (arith, length-append before one)))

  next_row : 80 ≤ length before → row_of (total_of code) (before ++ one) two ≡ row_next_to code (length before) bs
  next_row late =
      let total = total_of code in
      let at : length (before ++ one) - 80 ≡ length before - 80 + 20 * total = omega (arith, length-append before one) in
      sym
      (ap (row_next_to code (length before))
      (stream ∙ sym (append_assoc before one (two ++ after)) ∙ sym (append_assoc (before ++ one) two after))
      ∙ bits_at_append (length before - 80 + 20 * total) (20 * total) (before ++ one ++ two) after
      (omega (arith, length-append (before ++ one) two, length-append before one))
      ∙ ap (λ (i : ℕ). bits_at i (20 * total) (before ++ one ++ two)) (sym at))

  pub both_rows : (after_bits code before).state.sight.place ≡ opened → None is_dropped (happenings_after code before one)
      → None is_dropped (happenings_after code (before ++ one) two) → Both code before one two bs
  both_rows opens none_one none_two =
      let total = total_of code in
      let x = after_bits code before in
      let enough = four_pairs code raster in
      let r = row_ends code total enough before x (holds_all code raster before) opens one long_one none_one in
      let next = steps_of_append listed code total before one begun_run in
      let s = row_ends code total enough (before ++ one) (after_bits code (before ++ one))
      (holds_all code raster (before ++ one)) (ap place_of next ∙ r.again) two long_two none_two in
      let track : (after_bits code (before ++ one)).state.track ≡ (whole_row code x.state.track (first_row code (length before) bs)).track =
      ap (λ (z : Run). z.state.track) next ∙ r.track ∙ ap (λ (l : List Bool). (whole_row code x.state.track l).track) (first_row_is r.late) in
      record {
        late = r.late;
        second = s.happens ∙ ap₂ (λ (t : Track) (l : List Bool). happenings (whole_row code t l).happening) track (next_row r.late);
      }

-- the second row's flags, where the first one's line is the raster's
pub second_flags : (code : ℕ) → raster_ok code ≡ true → (before one two bs : List Bool) → Both code before one two bs
    → length before + 40 * total_of code ≤ length bs
    → (line : ℕ) → row_line code (after_bits code before).state.track (first_row code (length before) bs) ≡ line → line_refusal code line ≡ 0
    → happenings_after code (before ++ one) two
    ≡ RowJudged (line_after code line)
    (flags_in (plan_of code (line_after code line)) (bits_at (stretch_start code (length before)) (stretch_size code) bs)) true
    ∷ []
second_flags code raster before one two bs b long line same ok =
    let at = length before in
    let row = 20 * total_of code in
    let t = (after_bits code before).state.track in
    b.second
    ∙ ap happenings
    (second_row code raster (first_row code at bs) (row_next_to code at bs) (length_bits_at (at - 80) row bs (omega arith))
    (length_bits_at (at - 80 + row) row bs (omega (arith, b.late))) t (rw same ok))
    ∙ rw (same, stretch_rows code raster at bs (omega arith))

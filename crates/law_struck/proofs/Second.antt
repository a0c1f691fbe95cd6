-- The flags of a row after another: those of the stretch from the first one's active words on.
use mathlib.Core.Path.{◌≡◌, sym, ap, ◌∙◌}
use mathlib.Core.Bool.{Bool, true, false}
use mathlib.Core.List.{List, ◌++◌}
use Prim.Native.Nat.{ℕ, ◌-◌, ◌*◌, ◌≤◌}
use native.Mathlib.Omega.{arith}
use lib.ListN.{length, take, drop, length-take, length-drop, take-append-drop}
use lib.Seq.{take_at, drop_at, take_all}
use Rattle.raster.specs.Table.{raster_ok, raster_given, total_of}
use Rattle.raster.specs.Lines.{line_refusal}
use Rattle.raster.proofs.Table.{looked_up_range}
use Rattle.raster.proofs.Lines.{line_refusal_ok, line_ok_range}
use Rattle.crc.specs.Crc.{crc_start, crc_words}
use Rattle.plan.specs.Plan.{plan_of}
use Rattle.plan.proofs.Plans.{plan_of-found}
use Rattle.stream.specs.Words.{register_after}
use Rattle.row.specs.Before.{Carry}
use Rattle.row.specs.Row.{flags_of, carry_after, judged}
use Rattle.law_burst.specs.Stretch.{channel_words, flags_in}
use Rattle.judging.specs.declared.Track.{Track}
use Rattle.judging.specs.declared.Happening.TheVariants.{RowJudged}
use Rattle.judging.specs.declared.Happened.{Happened}
use Rattle.judging.specs.Happening.{line_of, line_after, happened}
use Rattle.judging.proofs.Lines.{line_of_known, completed_numbered, line_after_ok}
use Rattle.law_struck.proofs.Pairs.{length-channel_words, channel_words_append}
use Rattle.law_struck.proofs.Rows.{whole_row}

-- ---- lines

-- the line that a row has, by what is expected and what it says
abbrev pub row_line : ℕ → Track → List Bool → ℕ
row_line code t row = line_of code t.line (channel_words true row)

line_some : (code line : ℕ) → line_refusal code line ≡ 0 → line ≡ 0 → ⊥
line_some code line ok z =
    let r = line_refusal_ok code line ok in
    omega (arith, (line_ok_range code line r.0 r.1).0)

-- ---- a row's active bits

abbrev active_in : ℕ → ℕ
active_in code = (raster_given code).layout.active

-- a row's bits from its first active word on
abbrev pub active_bits : ℕ → List Bool → List Bool
active_bits code row = drop (20 * (total_of code - active_in code)) row

module _ (code : ℕ) (raster : raster_ok code ≡ true) (row : List Bool) (size : length row ≡ 20 * total_of code) where
  length_active_bits : length (active_bits code row) ≡ 20 * active_in code
  length_active_bits = omega (arith, length-drop (20 * (total_of code - active_in code)) row, (looked_up_range code raster).active_fits)

  register_bits : (k : Bool) (line : ℕ) → line_refusal code line ≡ 0
      → register_after (plan_of code line) (channel_words k row) ≡ crc_words crc_start (channel_words k (active_bits code row))
  register_bits k line ok =
      let h = total_of code - active_in code in
      let head = take (20 * h) row in
      let fits = (looked_up_range code raster).active_fits in
      let head_size : length head ≡ 20 * h = omega (arith, length-take (20 * h) row) in
      let words : channel_words k row ≡ channel_words k head ++ channel_words k (active_bits code row) =
      ap (channel_words k) (sym (take-append-drop (20 * h) row)) ∙ channel_words_append k h (active_in code) head (active_bits code row) head_size length_active_bits in
      let active : length (channel_words k (active_bits code row)) ≤ active_in code = omega (arith, length-channel_words k (active_in code) (active_bits code row) length_active_bits) in
      rw (plan_of-found code line ok, words, drop_at (channel_words k head) (channel_words k (active_bits code row)) h (length-channel_words k h head head_size))
      (ap (crc_words crc_start) (take_all (active_in code) (channel_words k (active_bits code row)) active))

-- ---- two rows

module _ (code : ℕ) (raster : raster_ok code ≡ true) (one two : List Bool) (size_one : length one ≡ 20 * total_of code)
    (size_two : length two ≡ 20 * total_of code) where
  stretch_words : (k : Bool) → channel_words k (active_bits code one ++ two) ≡ channel_words k (active_bits code one) ++ channel_words k two
  stretch_words k =
      channel_words_append k (active_in code) (total_of code) (active_bits code one) two (length_active_bits code raster one size_one) size_two

  stretch_active : (k : Bool) → take (active_in code) (channel_words k (active_bits code one ++ two)) ≡ channel_words k (active_bits code one)
  stretch_active k =
      ap (take (active_in code)) (stretch_words k)
      ∙ take_at (channel_words k (active_bits code one)) (channel_words k two) (active_in code)
      (length-channel_words k (active_in code) (active_bits code one) (length_active_bits code raster one size_one))

  stretch_row : (k : Bool) → drop (active_in code) (channel_words k (active_bits code one ++ two)) ≡ channel_words k two
  stretch_row k =
      ap (drop (active_in code)) (stretch_words k)
      ∙ drop_at (channel_words k (active_bits code one)) (channel_words k two) (active_in code)
      (length-channel_words k (active_in code) (active_bits code one) (length_active_bits code raster one size_one))

  -- the carry of the first row
  abbrev carry_one : ℕ → Carry
  carry_one line = carry_after (plan_of code line) (channel_words true one) (channel_words false one)

  flags_of_stretch : (line next : ℕ) → line_refusal code line ≡ 0 → line_refusal code next ≡ 0
      → flags_of (plan_of code next) (carry_one line) (channel_words true two) (channel_words false two)
      ≡ flags_in (plan_of code next) (active_bits code one ++ two)
  flags_of_stretch line next ok ok_next =
      rw
      (register_bits code raster one size_one true line ok, register_bits code raster one size_one false line ok, plan_of-found code next ok_next, stretch_active true, stretch_active false, stretch_row true, stretch_row false)

  module _ (t : Track) (ok : line_refusal code (row_line code t one) ≡ 0) where
    track_one : (whole_row code t one).track ≡ record { line = line_after code (row_line code t one); carry = carry_one (row_line code t one) }
    unfolding happened judged
    track_one =
        ap (λ (g : Happened). g.track)
        (completed_numbered code (row_line code t one) t.carry (channel_words true one) (channel_words false one) (line_some code (row_line code t one) ok))
        ∙ rw ok

    pub second_row : (whole_row code (whole_row code t one).track two).happening
        ≡ RowJudged (line_after code (row_line code t one)) (flags_in (plan_of code (line_after code (row_line code t one))) (active_bits code one ++ two)) true
    unfolding happened judged
    second_row =
        let line = row_line code t one in
        let next = line_after code line in
        let ok_next = line_after_ok code line ok in
        rw
        (track_one, line_of_known code next (channel_words true two) (line_some code next ok_next), completed_numbered code next (carry_one line) (channel_words true two) (channel_words false two) (line_some code next ok_next), ok_next, flags_of_stretch line next ok ok_next)

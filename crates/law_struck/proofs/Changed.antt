-- The stream with a changed run beside the one that was sent.
use mathlib.Core.Path.{◌≡◌, refl, sym, ap, ◌∙◌}
use mathlib.Core.Bool.{Bool, true, false}
use mathlib.Core.List.{List, [], ◌∷◌, ◌++◌}
use Prim.Native.Nat.{ℕ, ◌+◌, ◌*◌, ◌≤◌, ◌-◌}
use native.Mathlib.Omega.{arith}
use lib.ListN.{length, take, drop, length-append}
use lib.Seq.{take_at, take-take}
use Rattle.bits.specs.Bits.{odd}
use Rattle.bits.proofs.Choice.{false_not_true}
use Rattle.raster.specs.Table.{raster_ok, raster_given, total_of}
use Rattle.raster.proofs.Table.{looked_up_range}
use Rattle.cable.specs.Bits.{past}
use Rattle.cable.specs.Words.{start_history}
use Rattle.cable.proofs.Bits.{length-unscrambled}
use Rattle.parts.specs.Parts.{any}
use Rattle.plan.specs.Plan.{plan_of}
use Rattle.law_burst.specs.Stretch.{flags_in, crc_flagged}
use Rattle.recogniser.specs.Event.{opened}
use Rattle.judging.specs.declared.Track.{Track}
use Rattle.judging.specs.declared.Happening.TheVariants.{RowJudged}
use Rattle.judging.specs.Happening.{line_after}
use Rattle.judging.proofs.Lines.{line_after_ok}
use Rattle.stepper.specs.Step.{traced}
use Rattle.tally.specs.Tally.{is_fault}
use Rattle.stepper.proofs.Stepping.{steps_of_append}
use Rattle.law_module.specs.Module.{listed, begun_run, after_bits}
use Rattle.law_module.proofs.Folds.{seen_stays}
use Rattle.law_struck.specs.Struck.{happenings_after}
use Rattle.law_struck.proofs.Nones.{is_dropped, None, none_dropped, no_flags, none_of_parts}
use Rattle.law_struck.proofs.Rows.{bits_at}
use Rattle.law_struck.proofs.Second.{row_line}
use Rattle.law_struck.proofs.Lines.{line_right, line_same}
use Rattle.law_struck.proofs.Streams.{length_bits_at, bits_at_same, cut_stream, before_run}
use Rattle.law_struck.proofs.Two.{first_row, row_next_to, stretch_start, stretch_size, opened_seen, both_rows, second_flags}
use Rattle.law_struck.proofs.Stretches.{data_of, burst_in_stretch}

-- no flag, no CRC flag
flagged_some : (flags : ℕ) → crc_flagged flags ≡ true → flags ≡ 0 → ⊥
unfolding odd
flagged_some flags e z = false_not_true (sym (ap crc_flagged z) ∙ e)

judged_flags : {l f k g : ℕ} {b c : Bool} → RowJudged l f b ∷ [] ≡ RowJudged k g c ∷ [] → f ≡ g
judged_flags e = cc

module _ (code : ℕ) (raster : raster_ok code ≡ true) (before one two after a m n z : List Bool)
    (stream : data_of (a ++ (m ++ z)) ≡ before ++ (one ++ (two ++ after)))
    (long_one : length one ≡ 20 * total_of code) (long_two : length two ≡ 20 * total_of code)
    (opens : (after_bits code before).state.sight.place ≡ opened)
    (equal : length m ≡ length n)
    (start : length before + 20 * (total_of code - (raster_given code).layout.active) ≤ 80 + length a) where
  length_first : length (data_of (a ++ (m ++ z))) ≡ length before + 40 * total_of code + length after
  length_first = ap length stream ∙ simp length-append (omega arith)

  length_sent : length (a ++ (m ++ z)) ≡ length before + 40 * total_of code + length after
  length_sent = sym (length-unscrambled (a ++ (m ++ z)) (past start_history)) ∙ length_first

  length_changed : length (data_of (a ++ (n ++ z))) ≡ length before + 40 * total_of code + length after
  length_changed =
      let same : length (a ++ (n ++ z)) ≡ length (a ++ (m ++ z)) = simp length-append (omega arith) in
      length-unscrambled (a ++ (n ++ z)) (past start_history) ∙ same ∙ length_sent

  -- up to the run, and so up to row k's first active word, the bits are the same
  unchanged : (k : ℕ) → k ≤ length a → take k (data_of (a ++ (m ++ z))) ≡ take k (data_of (a ++ (n ++ z)))
  unchanged k h = before_run (past start_history) a (m ++ z) (n ++ z) k h

  reach : length before + 160 ≤ length a
  reach = omega (arith, (looked_up_range code raster).active_fits)

  changed_stream : data_of (a ++ (n ++ z))
      ≡ before
      ++ (bits_at (length before) (20 * total_of code) (data_of (a ++ (n ++ z)))
      ++ (bits_at (length before + 20 * total_of code) (20 * total_of code) (data_of (a ++ (n ++ z)))
      ++ drop (length before + 20 * total_of code + 20 * total_of code) (data_of (a ++ (n ++ z)))))
  changed_stream =
      let row = 20 * total_of code in
      let bs = data_of (a ++ (n ++ z)) in
      let first : take (length before) bs ≡ before =
      sym (unchanged (length before) (omega (arith, reach)))
      ∙ ap (take (length before)) stream
      ∙ take_at before (one ++ (two ++ after)) (length before) refl in
      cut_stream (length before) row row bs
      ∙ ap (λ (l : List Bool). l ++ (bits_at (length before) row bs ++ (bits_at (length before + row) row bs ++ drop (length before + row + row) bs))) first

  -- the same line is read or expected
  line_alike : 80 ≤ length before → (t : Track)
      → row_line code t (first_row code (length before) (data_of (a ++ (m ++ z)))) ≡ row_line code t (first_row code (length before) (data_of (a ++ (n ++ z))))
  line_alike late t =
      let row = 20 * total_of code in
      let at = length before - 80 in
      let us = data_of (a ++ (m ++ z)) in
      let vs = data_of (a ++ (n ++ z)) in
      let long = (looked_up_range code raster).total_low in
      line_same code raster (first_row code (length before) us) (first_row code (length before) vs)
      (length_bits_at at row us (omega (arith, length_first))) (length_bits_at at row vs (omega (arith, length_changed)))
      (take-take 120 row (drop at us) (omega arith)
      ∙ bits_at_same at 120 us vs (omega (arith, length_first)) (omega (arith, length_changed)) (unchanged (at + 120) (omega (arith, reach)))
      ∙ sym (take-take 120 row (drop at vs) (omega arith))) t

  -- row k+1 shows a flag: it cannot be that nothing was a fault
  pub struck : {line flags : ℕ} {known : Bool} {line_two flags_two : ℕ}
      → happenings_after code before one ≡ RowJudged line flags known ∷ []
      → happenings_after code (before ++ one) two ≡ RowJudged line_two flags_two true ∷ []
      → crc_flagged flags_two ≡ false
      → length m ≤ 18
      → (m ≡ n → ⊥)
      → 80 + length a + length m + 10 ≤ length before + 20 * (total_of code + 6)
      → None is_fault (traced listed code (total_of code) (data_of (a ++ (n ++ z))) begun_run)
      → ⊥
  unfolding any
  struck {line} {flags} {known} {line_two} {flags_two} judged_one judged_two right short differ end none =
      let total = total_of code in
      let at = length before in
      let us = data_of (a ++ (m ++ z)) in
      let vs = data_of (a ++ (n ++ z)) in
      let range = looked_up_range code raster in
      let u = both_rows code raster us before one two after stream long_one long_two opens
      (ap (any is_dropped) judged_one) (ap (any is_dropped) judged_two) in
      let first = bits_at at (20 * total) vs in
      let second = bits_at (at + 20 * total) (20 * total) vs in
      let parts = none_of_parts is_fault code vs before first second _ changed_stream none in
      let v = both_rows code raster vs before first second _ changed_stream (length_bits_at at (20 * total) vs (omega (arith, length_changed)))
      (length_bits_at (at + 20 * total) (20 * total) vs (omega (arith, length_changed))) opens
      (none_dropped (happenings_after code before first) parts.0) (none_dropped (happenings_after code (before ++ first) second) parts.1) in
      let t = (after_bits code before).state.track in
      let row = row_line code t (first_row code at us) in
      let ok = line_right code t (first_row code at us) (row_next_to code at us) line_two flags_two (sym u.second ∙ judged_two) in
      let next = line_after code row in
      let told = second_flags code raster before one two us u (omega (arith, length_first)) row refl ok in
      let shown = second_flags code raster before first second vs v (omega (arith, length_changed)) row (sym (line_alike u.late t)) ok in
      let same : flags_two ≡ flags_in (plan_of code next) (bits_at (stretch_start code at) (stretch_size code) us) = judged_flags (sym judged_two ∙ told) in
      let flagged = burst_in_stretch code next (line_after_ok code row ok) at a m n z equal short differ (omega (arith, range.active_fits, u.late))
      (omega (arith, range.active_fits, u.late)) (omega (arith, range.total_low)) (omega (arith, length_sent, range.active_fits))
      (ap crc_flagged (sym same) ∙ right) in
      flagged_some _ flagged (no_flags (happenings_after code (before ++ first) second) shown parts.1)

  -- a sync was seen where row k opened
  pub seen_changed : (after_bits code (data_of (a ++ (n ++ z)))).state.sight.window.seen ≡ true
  seen_changed =
      rw (changed_stream, steps_of_append listed code (total_of code) before)
      (seen_stays listed code (total_of code) _ (after_bits code before) (opened_seen code raster before opens))

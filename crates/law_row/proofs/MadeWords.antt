-- No word that is made where a row is built or corrected is a reserved code.
use mathlib.Core.Path.{◌≡◌, refl, ap, ◌∙◌}
use mathlib.Core.Bool.{Bool, true, false}
use mathlib.Core.List.{List, [], ◌∷◌, ◌++◌, flat_map}
use Prim.Native.Nat.{ℕ, ◌^◌, ◌≤◌, ◌<◌}
use native.Mathlib.Omega.{arith}
use lib.ListN.{length}
use borrow.Author.Tests.{eqb-true, leb-true, not-false}
use Rattle.bits.specs.Choice.{if}
use Rattle.bits.specs.Words.{reserved_code}
use Rattle.parts.specs.Parts.{any}
use Rattle.parts.proofs.Comparing.{any_cons, any_of_append}
use Rattle.crc.specs.Crc.{crc_words, register_ok}
use Rattle.crc.proofs.Range.{crc_words_range}
use Rattle.crc.proofs.Words.{cr_words-done, cr_not_reserved}
use Rattle.scan.specs.Packet.{checksum_in, right_checksum, summed}
use Rattle.scan.specs.Scan.{Piece, Word, Marker, Packet, wrong_sum}
use Rattle.scan.proofs.Packets.{checksum_not_reserved}
use Rattle.plan.specs.declared.Plan.{Plan}
use Rattle.plan.specs.Fits.{Fits}
use Rattle.plan.specs.Plan.{plan_of}
use Rattle.plan.proofs.Plans.{Plain, plan_of-fits, plan_of_plain}
use Rattle.region.specs.Ancillary.{ancillary}
use Rattle.stream.specs.Words.{y_blank, c_blank, trs, line_words_of, head_words, check_words, eav_of, lines_of, head_of, checks_of, sav_of}
use Rattle.row.specs.Before.{Carry, carried}
use Rattle.row.specs.Row.{check_refusal}
use Rattle.row.proofs.Rows.{carried_ok}
use Rattle.repair.specs.Repair.{wiped_if, put_right}
use Rattle.repair.specs.Answer.{corrected_y, corrected_c}
use Rattle.compose.specs.Compose.{crc_for, stream_of, y_stream, c_stream, build_refusal}
use Rattle.compose.proofs.Refusal.{build_refusal_ok, lengths_of}
use Rattle.law_row.specs.MadeWords.{made_words, sum_words, sums_of}
use Rattle.law_row.proofs.BuiltParts.{eav_of-stream_of, lines_of-stream_of, checks_of-stream_of, sav_of-stream_of}
use Rattle.law_row.proofs.CorrectedParts.{wiped_if-length}
use Rattle.law_row.proofs.CorrectedRow.{before}
use Rattle.law_row.proofs.Rechecked.{put_right_eav, put_right_lines, put_right_checks, put_right_sav, put_right_sum}

-- ---- sums_of: a right checksum

free_sums : (ps : List Piece) → any wrong_sum ps ≡ false → any reserved_code (flat_map sum_words ps) ≡ false
unfolding any flat_map
free_sums [] e = refl
free_sums (Word w ∷ ps) e = free_sums ps e
free_sums (Marker ∷ ps) e = free_sums ps e
free_sums (Packet packet ∷ ps) e =
    let k = any_cons wrong_sum (Packet packet) ps e in
    let right : checksum_in packet ≡ right_checksum packet = eqb-true _ _ (not-false _ k.0) in
    rw (right, checksum_not_reserved (summed packet)) (free_sums ps k.1)

-- ---- made_words

module _ (p : Plan) (fits : Fits p.places) (plain : Plain p.codes) where
  free_words : (crc : Bool) (ws : List ℕ) → eav_of p ws ≡ trs p.codes.eav → lines_of p ws ≡ line_words_of p → sav_of p ws ≡ trs p.codes.sav
      → any reserved_code (if crc (checks_of p ws) []) ≡ false
      → any reserved_code (made_words p crc ws) ≡ false
  unfolding any
  free_words crc ws eav lines sav checks =
      rw (eav, lines, sav, fits.lines, plain.eav, plain.ln0, plain.ln1, plain.sav) checks

  free_checks : (r : ℕ) → register_ok r ≡ true → (covered : List ℕ) → any reserved_code (check_words p (crc_words r covered)) ≡ false
  unfolding any
  free_checks r ok covered =
      let q = crc_words r covered in
      let low : q < 2 ^ 18 = crc_words_range r covered (omega (arith, leb-true r 0x3ffff ok)) in
      rw (fits.checks, cr_words-done q (omega arith), (cr_not_reserved q).0, (cr_not_reserved q).1)

  module _ (known : Bool) (r : ℕ) (ok : register_ok r ≡ true) where
    -- "Without a carry its CRC words are 200 200."
    free_crc_for : any reserved_code (crc_for p known r) ≡ false
    unfolding any reserved_code
    free_crc_for = go known
      where
        go : (k : Bool) → any reserved_code (crc_for p k r) ≡ false
        go true = free_checks r ok (head_words p)
        go false = rw fits.checks

    built_free : (blank : ℕ) (active laid : List ℕ) → length active ≡ p.places.count → length laid ≤ p.places.blanks
        → any reserved_code (made_words p true (stream_of p known r blank active laid)) ≡ false
    built_free blank active laid long room =
        free_words true (stream_of p known r blank active laid)
        (eav_of-stream_of p fits known r blank active laid long room)
        (lines_of-stream_of p fits known r blank active laid long room)
        (sav_of-stream_of p fits known r blank active laid long room)
        (ap (any reserved_code) (checks_of-stream_of p fits known r blank active laid long room) ∙ free_crc_for)

    corrected_free : (ws : List ℕ) → length ws ≡ p.places.total
        → any reserved_code (made_words p known (put_right p known r ws) ++ sums_of p (put_right p known r ws)) ≡ false
    unfolding any
    corrected_free ws long =
        let right = put_right p known r ws in
        rw (
          any_of_append reserved_code (made_words p known right) (sums_of p right),
          free_words known right (put_right_eav p fits known r ws long) (put_right_lines p fits known r ws long) (put_right_sav p fits known r ws long)
              (go known (checks_of p right) (put_right_checks p fits known r ws long)),
        )
        (free_sums (ancillary p right) (put_right_sum p fits known r ws long))
      where
        go : (k : Bool) (have : List ℕ) → have ≡ if k (check_words p (crc_words r (head_of p (put_right p known r ws)))) (checks_of p ws)
            → any reserved_code (if k have []) ≡ false
        go true have e = ap (any reserved_code) e ∙ free_checks r ok (head_of p (put_right p known r ws))
        go false have e = refl

-- ---- the row

module _ (code line : ℕ) (carry : Carry) where
  abbrev plan : Plan
  plan = plan_of code line

  abbrev known : Bool
  known = (carried carry).known

  pub row_free : (y_active c_active y_laid c_laid y c : List ℕ) → build_refusal code line carry y_active c_active y_laid c_laid (length y) (length c) ≡ 0
      → (any reserved_code (made_words plan true (y_stream plan carry y_active y_laid)) ≡ false)
      × (any reserved_code (made_words plan true (c_stream plan carry c_active c_laid)) ≡ false)
  row_free y_active c_active y_laid c_laid y c made =
      let from = build_refusal_ok code line carry y_active c_active y_laid c_laid (length y) (length c) made in
      let registers = carried_ok carry from.registers in
      let free = built_free plan (plan_of-fits code line from.ok) (plan_of_plain code line from.ok) known in
      let long_y = lengths_of plan y_active y_laid from.y_lengths in
      let long_c = lengths_of plan c_active c_laid from.c_lengths in (
        free (carried carry).y registers.0 y_blank y_active y_laid long_y.0 long_y.1,
        free (carried carry).c registers.1 c_blank c_active c_laid long_c.0 long_c.1,
      )

  pub correction_free : (wipe : Bool) (y c : List ℕ) → check_refusal code line carry y c ≡ 0
      → let y_row = corrected_y plan carry wipe y in
      let c_row = corrected_c plan carry wipe c in
      (any reserved_code (made_words plan known y_row ++ sums_of plan y_row) ≡ false) × (any reserved_code (made_words plan known c_row ++ sums_of plan c_row) ≡ false)
  correction_free wipe y c done =
      let b = before code line carry wipe y c done in
      let registers = carried_ok carry b.registers in
      let free = corrected_free plan (plan_of-fits code line b.fits.ok) (plan_of_plain code line b.fits.ok) known in (
        free (carried carry).y registers.0 (wiped_if wipe plan y_blank y) (wiped_if-length plan y wipe y_blank ∙ b.fits.y_length),
        free (carried carry).c registers.1 (wiped_if wipe plan c_blank c) (wiped_if-length plan c wipe c_blank ∙ b.fits.c_length),
      )

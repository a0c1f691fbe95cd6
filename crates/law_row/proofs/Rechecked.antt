-- A corrected stream: its parts, and what is left to find wrong with it.
use mathlib.Core.Path.{◌≡◌, refl, ap, ap₂, ◌∙◌}
use mathlib.Core.Bool.{Bool, true, false, ◌&&◌}
use mathlib.Core.List.{List, [], ◌++◌}
use Prim.Native.Nat.{ℕ}
use native.Mathlib.Omega.{arith}
use lib.ListN.{length}
use Rattle.bits.specs.Choice.{if}
use Rattle.parts.specs.Parts.{any}
use Rattle.parts.proofs.Comparing.{same_refl}
use Rattle.scan.specs.Scan.{scan, cut_piece, wrong_sum}
use Rattle.plan.specs.declared.Plan.{Plan}
use Rattle.plan.specs.Fits.{Fits}
use Rattle.region.specs.Region.{mended}
use Rattle.region.specs.Ancillary.{blanking_of, active_of, ancillary}
use Rattle.region.proofs.Regions.{ancillary_right, ancillary_cut}
use Rattle.stream.specs.declared.Faults.{Faults}
use Rattle.stream.specs.Words.{trs, line_words_of, check_words, eav_of, lines_of, checks_of, sav_of, covered_by}
use Rattle.stream.specs.Faults.{differ, picture_of, faults_of}
use Rattle.repair.specs.Repair.{with_sums, with_codes, with_crc, put_right}
use Rattle.law_row.proofs.CorrectedParts.{with_sums-length, with_sums_before, with_sums_blanking, with_sums_active, with_codes-length, with_codes_eav, with_codes_lines, with_codes-between, with_codes_sav, with_codes-after, with_crc_before, with_crc-after, with_crc_checks}

-- the faults that correction leaves
abbrev pub left_of : Faults → Faults
left_of f = record { eav = false; sav = false; line = false; crc = false; sum = false; cut = f.cut; reserved = f.reserved }

module _ (p : Plan) (fits : Fits p.places) (known : Bool) (r : ℕ) (ws : List ℕ) (long : length ws ≡ p.places.total) where
  -- ---- its parts

  pub put_right_eav : eav_of p (put_right p known r ws) ≡ trs p.codes.eav
  unfolding put_right
  put_right_eav = with_crc_before p fits r (with_codes p (with_sums p ws)) known 0 4 (omega arith) ∙ with_codes_eav p fits (with_sums p ws) (with_sums-length p ws ∙ long)

  pub put_right_lines : lines_of p (put_right p known r ws) ≡ line_words_of p
  unfolding put_right
  put_right_lines =
      with_crc_before p fits r (with_codes p (with_sums p ws)) known 4 p.places.lines (omega arith) ∙ with_codes_lines p fits (with_sums p ws) (with_sums-length p ws ∙ long)

  -- CRC words where there was a row before
  pub put_right_checks : checks_of p (put_right p known r ws) ≡ if known (check_words p (covered_by p r (put_right p known r ws))) (checks_of p ws)
  unfolding put_right
  put_right_checks =
      let m = with_codes p (with_sums p ws) in
      let kept : checks_of p m ≡ checks_of p ws = with_codes-between p fits (with_sums p ws) p.places.crc p.places.checks (omega arith) (omega arith)
      ∙ with_sums_before p fits ws p.places.crc p.places.checks (omega arith) in
      with_crc_checks p fits r m (with_codes-length p (with_sums p ws) ∙ with_sums-length p ws ∙ long) known
      ∙ ap (if known (check_words p (covered_by p r (with_crc p known r m)))) kept

  kept_blanking : blanking_of p (put_right p known r ws) ≡ blanking_of p (with_sums p ws)
  unfolding put_right
  kept_blanking =
      with_crc-after p fits r (with_codes p (with_sums p ws)) known p.places.blank p.places.blanks (omega arith)
      ∙ with_codes-between p fits (with_sums p ws) p.places.blank p.places.blanks (omega arith) (omega arith)

  pub put_right_blanking : blanking_of p (put_right p known r ws) ≡ mended (blanking_of p ws)
  put_right_blanking = kept_blanking ∙ with_sums_blanking p fits ws

  pub put_right_sav : sav_of p (put_right p known r ws) ≡ trs p.codes.sav
  unfolding put_right
  put_right_sav =
      with_crc-after p fits r (with_codes p (with_sums p ws)) known p.places.sav 4 (omega arith) ∙ with_codes_sav p fits (with_sums p ws) (with_sums-length p ws ∙ long)

  kept_active : active_of p (put_right p known r ws) ≡ active_of p (with_sums p ws)
  unfolding put_right
  kept_active =
      with_crc-after p fits r (with_codes p (with_sums p ws)) known p.places.active p.places.count (omega arith)
      ∙ with_codes-after p fits (with_sums p ws) p.places.active p.places.count (omega arith)

  -- active words where they are scanned for packets
  pub put_right_active : active_of p (put_right p known r ws) ≡ if p.v (mended (active_of p ws)) (active_of p ws)
  put_right_active = kept_active ∙ with_sums_active p fits ws

  -- ---- its faults

  kept_ancillary : ancillary p (put_right p known r ws) ≡ ancillary p (with_sums p ws)
  unfolding ancillary
  kept_ancillary = ap₂ (λ (b a : List ℕ). scan b ++ scan (if p.v a [])) kept_blanking kept_active

  pub put_right_sum : any wrong_sum (ancillary p (put_right p known r ws)) ≡ false
  unfolding with_sums
  put_right_sum = ap (any wrong_sum) kept_ancillary ∙ ancillary_right p ws (omega arith)

  put_right_cut : any cut_piece (ancillary p (put_right p known r ws)) ≡ any cut_piece (ancillary p ws)
  unfolding with_sums
  put_right_cut = ap (any cut_piece) kept_ancillary ∙ ancillary_cut p ws (omega arith)

  put_right_picture : picture_of p (put_right p known r ws) ≡ picture_of p ws
  put_right_picture = go p.v put_right_active
    where
      go : (v : Bool) → active_of p (put_right p known r ws) ≡ if v (mended (active_of p ws)) (active_of p ws)
          → if v [] (active_of p (put_right p known r ws)) ≡ if v [] (active_of p ws)
      go true e = refl
      go false e = e

  put_right_crc : (known && differ (checks_of p (put_right p known r ws)) (check_words p (covered_by p r (put_right p known r ws)))) ≡ false
  put_right_crc = go known (checks_of p (put_right p known r ws)) put_right_checks
    where
      words : List ℕ
      words = check_words p (covered_by p r (put_right p known r ws))

      go : (k : Bool) (have : List ℕ) → have ≡ if k words (checks_of p ws) → (k && differ have words) ≡ false
      go true have e = rw (e, same_refl words)
      go false have e = refl

  pub rechecked : faults_of p known r (put_right p known r ws) ≡ left_of (faults_of p known r ws)
  unfolding faults_of
  rechecked =
      rw (
        put_right_crc,
        put_right_eav,
        put_right_sav,
        put_right_lines,
        put_right_sum,
        put_right_cut,
        put_right_picture,
        same_refl (trs p.codes.eav),
        same_refl (trs p.codes.sav),
        same_refl (line_words_of p),
      )

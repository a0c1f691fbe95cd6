-- Laws of the steps of correction, over one stream: lengths, and the parts of what is made.
use mathlib.Core.Path.{◌≡◌, refl, sym, ap, ◌∙◌}
use mathlib.Core.Bool.{Bool, true, false}
use mathlib.Core.List.{List}
use Prim.Native.Nat.{ℕ, ◌+◌, ◌≤◌}
use native.Mathlib.Omega.{arith}
use lib.ListN.{length}
use Rattle.bits.specs.Choice.{if}
use Rattle.parts.specs.Parts.{part, in_part, laid}
use Rattle.parts.proofs.Laid.{length-laid, part_before_laid, part-after-laid, part_over_laid}
use Rattle.parts.proofs.Inside.{length_part, part_of_in_part, part_before_in_part, part-after-in_part}
use Rattle.crc.specs.Crc.{crc_words}
use Rattle.plan.specs.declared.Plan.{Plan}
use Rattle.plan.specs.Fits.{Fits}
use Rattle.region.specs.Region.{mended, wiped}
use Rattle.region.specs.Ancillary.{blanking_of, active_of, in_regions}
use Rattle.region.proofs.Pieces.{length-mended, length-wiped}
use Rattle.region.proofs.Regions.{length-in_regions, blanking_of-in_regions}
use Rattle.stream.specs.Words.{trs, line_words_of, check_words, eav_of, lines_of, checks_of, sav_of, covered_by}
use Rattle.repair.specs.Repair.{wiped_if, with_sums, with_codes, with_crc}
use Rattle.compose.proofs.Laying.{length-line_words_of}

-- ---- parts' laid: over a part as long as the words

laid-part : (at n : ℕ) (vs ws : List ℕ) → length vs ≡ n → at + n ≤ length ws → part at n (laid at vs ws) ≡ vs
laid-part at n vs ws e room = part_over_laid at n vs ws (e ∙ sym (length_part at n ws room))

-- ---- region's in_regions, of a change that keeps lengths: what lies before the regions, and the active words

module _
    (p : Plan)
    (f : List ℕ → List ℕ)
    (keeps : (l : List ℕ) → length (f l) ≡ length l)
    (ws : List ℕ)
    (fits : Fits p.places)
  where
    first : List ℕ
    first = in_part p.places.blank p.places.blanks f ws

    both : List ℕ
    both = in_part p.places.active p.places.count f first

    in_regions_before : (start n : ℕ) → start + n ≤ 8 → part start n (in_regions p f ws) ≡ part start n ws
    unfolding in_regions first both
    in_regions_before start n h = go p.v
      where
        one : part start n first ≡ part start n ws
        one = part_before_in_part p.places.blank p.places.blanks f ws (keeps _) start n (omega arith)

        go : (v : Bool) → part start n (if v both first) ≡ part start n ws
        go true = part_before_in_part p.places.active p.places.count f first (keeps _) start n (omega arith) ∙ one
        go false = one

    in_regions_active : active_of p (in_regions p f ws) ≡ if p.v (f (active_of p ws)) (active_of p ws)
    unfolding in_regions first both
    in_regions_active = go p.v
      where
        one : active_of p first ≡ active_of p ws
        one = part-after-in_part p.places.blank p.places.blanks f ws (keeps _) p.places.active p.places.count (omega arith)

        go : (v : Bool) → active_of p (if v both first) ≡ if v (f (active_of p ws)) (active_of p ws)
        go true = part_of_in_part p.places.active p.places.count f first (keeps _) ∙ ap f one
        go false = one

-- ---- lengths

module _ (p : Plan) (ws : List ℕ) where
  pub wiped_if-length : (wipe : Bool) (blank : ℕ) → length (wiped_if wipe p blank ws) ≡ length ws
  unfolding wiped_if
  wiped_if-length true blank = length-in_regions p (wiped blank) (length-wiped blank) ws
  wiped_if-length false blank = refl

  pub with_sums-length : length (with_sums p ws) ≡ length ws
  unfolding with_sums
  with_sums-length = length-in_regions p mended length-mended ws

  pub with_codes-length : length (with_codes p ws) ≡ length ws
  unfolding with_codes
  with_codes-length = length-laid p.places.sav (trs p.codes.sav) _ ∙ length-laid 4 (line_words_of p) _ ∙ length-laid 0 (trs p.codes.eav) ws

-- ---- with_sums

module _ (p : Plan) (fits : Fits p.places) (ws : List ℕ) where
  pub with_sums_before : (start n : ℕ) → start + n ≤ 8 → part start n (with_sums p ws) ≡ part start n ws
  unfolding with_sums
  with_sums_before = in_regions_before p mended length-mended ws fits

  pub with_sums_blanking : blanking_of p (with_sums p ws) ≡ mended (blanking_of p ws)
  unfolding with_sums
  with_sums_blanking = blanking_of-in_regions p mended length-mended ws (omega arith)

  pub with_sums_active : active_of p (with_sums p ws) ≡ if p.v (mended (active_of p ws)) (active_of p ws)
  unfolding with_sums
  with_sums_active = in_regions_active p mended length-mended ws fits

-- ---- with_codes: the codes and the line number, and what lies between and after them

module _ (p : Plan) (fits : Fits p.places) (ws : List ℕ) where
  pub with_codes_eav : length ws ≡ p.places.total → eav_of p (with_codes p ws) ≡ trs p.codes.eav
  unfolding with_codes
  with_codes_eav long =
      part_before_laid 0 4 p.places.sav _ _ (omega arith) ∙ part_before_laid 0 4 4 _ _ (omega arith)
      ∙ laid-part 0 4 (trs p.codes.eav) ws refl (omega arith)

  pub with_codes_lines : length ws ≡ p.places.total → lines_of p (with_codes p ws) ≡ line_words_of p
  unfolding with_codes
  with_codes_lines long =
      let buffer = laid 0 (trs p.codes.eav) ws in
      part_before_laid 4 p.places.lines p.places.sav _ _ (omega arith)
      ∙ laid-part 4 p.places.lines (line_words_of p) buffer (length-line_words_of p fits) (omega (arith, length-laid 0 (trs p.codes.eav) ws))

  pub with_codes-between : (start n : ℕ) → 6 ≤ start → start + n ≤ p.places.sav → part start n (with_codes p ws) ≡ part start n ws
  unfolding with_codes
  with_codes-between start n from to =
      part_before_laid start n p.places.sav _ _ to ∙ part-after-laid start n 4 (line_words_of p) _ (omega (arith, length-line_words_of p fits))
      ∙ part-after-laid start n 0 _ ws (omega arith)

  pub with_codes_sav : length ws ≡ p.places.total → sav_of p (with_codes p ws) ≡ trs p.codes.sav
  unfolding with_codes
  with_codes_sav long =
      let buffer = laid 4 (line_words_of p) (laid 0 (trs p.codes.eav) ws) in
      let same : length buffer ≡ length ws = length-laid 4 (line_words_of p) _ ∙ length-laid 0 (trs p.codes.eav) ws in
      laid-part p.places.sav 4 (trs p.codes.sav) buffer refl (omega arith)

  pub with_codes-after : (start n : ℕ) → p.places.active ≤ start → part start n (with_codes p ws) ≡ part start n ws
  unfolding with_codes
  with_codes-after start n from =
      part-after-laid start n p.places.sav (trs p.codes.sav) _ (omega arith)
      ∙ part-after-laid start n 4 (line_words_of p) _ (omega (arith, length-line_words_of p fits))
      ∙ part-after-laid start n 0 (trs p.codes.eav) ws (omega arith)

-- ---- with_crc

module _ (p : Plan) (fits : Fits p.places) (r : ℕ) (ws : List ℕ) where
  check_words-length : (q : ℕ) → length (check_words p q) ≡ 2
  check_words-length q = rw fits.checks

  words : List ℕ
  words = check_words p (covered_by p r ws)

  pub with_crc_before : (known : Bool) (start n : ℕ) → start + n ≤ 6 → part start n (with_crc p known r ws) ≡ part start n ws
  unfolding with_crc words
  with_crc_before true start n h = part_before_laid start n p.places.crc words ws (omega arith)
  with_crc_before false start n h = refl

  pub with_crc-after : (known : Bool) (start n : ℕ) → 8 ≤ start → part start n (with_crc p known r ws) ≡ part start n ws
  unfolding with_crc words
  with_crc-after true start n h = part-after-laid start n p.places.crc words ws (omega (arith, check_words-length (covered_by p r ws)))
  with_crc-after false start n h = refl

  with_crc_covered : (known : Bool) → covered_by p r (with_crc p known r ws) ≡ covered_by p r ws
  with_crc_covered known = ap (crc_words r) (with_crc_before known 0 p.places.crc (omega arith))

  pub with_crc_checks : length ws ≡ p.places.total → (known : Bool)
      → checks_of p (with_crc p known r ws) ≡ if known (check_words p (covered_by p r (with_crc p known r ws))) (checks_of p ws)
  unfolding with_crc words
  with_crc_checks long true =
      laid-part p.places.crc p.places.checks words ws (omega (arith, check_words-length (covered_by p r ws))) (omega arith)
      ∙ ap (check_words p) (sym (with_crc_covered true))
  with_crc_checks long false = refl

-- Laws of the regions of a stream.
use mathlib.Core.Path.{◌≡◌, refl, sym, ap, ap₂, ◌∙◌}
use mathlib.Core.Bool.{Bool, true, false, ◌||◌}
use mathlib.Core.List.{List, [], ◌∷◌, ◌++◌, append_assoc, flat_map}
use Prim.Native.Nat.{ℕ, ◌+◌, ◌≤◌}
use native.Mathlib.Omega.{arith}
use lib.ListN.{length, drop, length-append, length-take, length-drop}
use Rattle.bits.specs.Choice.{if}
use Rattle.parts.specs.Parts.{any, in_part}
use Rattle.parts.proofs.Comparing.{any_of_append}
use Rattle.parts.proofs.Inside.{length-in_part, part_of_in_part, part_before_in_part, part-after-in_part}
use Rattle.plan.specs.declared.Plan.{Plan}
use Rattle.scan.specs.declared.Scanned.{Scanned}
use Rattle.scan.specs.Scan.{Piece, Word, Marker, Packet, words_of, scan, packet_words, packets_of, scanned, cut_piece, wrong_sum}
use Rattle.scan.proofs.Remade.{words_of_scan}
use Rattle.region.specs.Ancillary.{blanking_of, active_of, active_region, ancillary, in_regions}
use Rattle.region.specs.Region.{mended}
use Rattle.region.proofs.Pieces.{length-mended}
use Rattle.region.proofs.Mended.{mended_right, mended_cut}

-- ---- scanned

abbrev both_scanned : Scanned → Scanned → Scanned
both_scanned s t =
    record {
      words = s.words + t.words;
      cut = s.cut || t.cut;
      wrong = s.wrong || t.wrong;
    }

pub packets_of_append : (ps qs : List Piece) → packets_of (ps ++ qs) ≡ packets_of ps ++ packets_of qs
unfolding packets_of flat_map
packets_of_append [] qs = refl
packets_of_append (p ∷ ps) qs = ap (λ (l : List ℕ). packet_words p ++ l) (packets_of_append ps qs) ∙ sym (append_assoc (packet_words p) (packets_of ps) (packets_of qs))

scanned_of_append : (ps qs : List Piece) → scanned (ps ++ qs) ≡ both_scanned (scanned ps) (scanned qs)
scanned_of_append ps qs =
    rw (packets_of_append ps qs, length-append (packets_of ps) (packets_of qs), any_of_append cut_piece ps qs, any_of_append wrong_sum ps qs)

packets_le : (ps : List Piece) → length (packets_of ps) ≤ length (flat_map words_of ps)
unfolding packets_of flat_map
packets_le [] = omega arith
packets_le (Word w ∷ ps) = omega (arith, packets_le ps)
packets_le (Marker ∷ ps) = omega (arith, packets_le ps)
packets_le (Packet p ∷ ps) = simp length-append (omega (arith, packets_le ps))

packets_of_scan : (ws : List ℕ) → length (packets_of (scan ws)) ≤ length ws
packets_of_scan ws = omega (arith, packets_le (scan ws), ap length (words_of_scan ws))

-- ---- ancillary: from the scans of the two regions

length-active_region : (p : Plan) (ws : List ℕ) → length (active_region p ws) ≤ length ws
length-active_region p ws = go p.v
  where
    go : (b : Bool) → length (if b (active_of p ws) []) ≤ length ws
    go true = simp (length-take, length-drop) (omega arith)
    go false = omega arith

module _
    (p : Plan)
    (ws blanking active : List ℕ)
    (s t : Scanned)
    (b : blanking ≡ blanking_of p ws)
    (first : s ≡ scanned (scan blanking))
    (a : active ≡ active_region p ws)
    (second : t ≡ scanned (scan active))
  where
    pub ancillary-scanned : both_scanned s t ≡ scanned (ancillary p ws)
    unfolding ancillary
    ancillary-scanned = rw (first, second, b, a) (sym (scanned_of_append (scan (blanking_of p ws)) (scan (active_region p ws))))

    pub ancillary_words : s.words + t.words ≤ length ws + length ws
    ancillary_words =
        rw (first, second, b, a)
        (omega (
          arith,
          packets_of_scan (blanking_of p ws),
          packets_of_scan (active_region p ws),
          length-active_region p ws,
          length-take p.places.blanks (drop p.places.blank ws),
          length-drop p.places.blank ws,
        ))

-- ---- in_regions, by a change that keeps lengths

either_way : (P : List ℕ → Type 0) (b : Bool) (x y : List ℕ) → P x → P y → P (if b x y)
either_way P true x y h k = h
either_way P false x y h k = k

empty : (l : List ℕ) → length l ≡ 0 → l ≡ []
empty [] h = refl
empty (w ∷ l) h = absurd (omega arith)

module _ (p : Plan) (f : List ℕ → List ℕ) (keeps : (l : List ℕ) → length (f l) ≡ length l) (ws : List ℕ) where
  pub length-in_regions : length (in_regions p f ws) ≡ length ws
  unfolding in_regions
  length-in_regions =
      let first = length-in_part p.places.blank p.places.blanks f ws (keeps _) in
      either_way (λ (l : List ℕ). length l ≡ length ws) p.v _ _ (length-in_part p.places.active p.places.count f _ (keeps _) ∙ first) first

  module _ (apart : p.places.blank + p.places.blanks ≤ p.places.active) where
    pub blanking_of-in_regions : blanking_of p (in_regions p f ws) ≡ f (blanking_of p ws)
    unfolding in_regions
    blanking_of-in_regions =
        let first = part_of_in_part p.places.blank p.places.blanks f ws (keeps _) in
        either_way (λ (l : List ℕ). blanking_of p l ≡ f (blanking_of p ws)) p.v _ _
        (part_before_in_part p.places.active p.places.count f _ (keeps _) p.places.blank p.places.blanks apart ∙ first) first

    pub active_region-in_regions : active_region p (in_regions p f ws) ≡ f (active_region p ws)
    unfolding in_regions
    active_region-in_regions = go p.v
      where
        blanked : List ℕ
        blanked = in_part p.places.blank p.places.blanks f ws

        go : (v : Bool) → if v (active_of p (if v (in_part p.places.active p.places.count f blanked) blanked)) [] ≡ f (if v (active_of p ws) [])
        go true =
            part_of_in_part p.places.active p.places.count f blanked (keeps _)
            ∙ ap f (part-after-in_part p.places.blank p.places.blanks f ws (keeps _) p.places.active p.places.count apart)
        go false = sym (empty (f []) (keeps []))

    pub ancillary-in_regions : ancillary p (in_regions p f ws) ≡ scan (f (blanking_of p ws)) ++ scan (f (active_region p ws))
    unfolding ancillary
    ancillary-in_regions = ap₂ (λ (b a : List ℕ). scan b ++ scan a) blanking_of-in_regions active_region-in_regions

-- ---- the stream with its checksums made right

module _ (p : Plan) (ws : List ℕ) (apart : p.places.blank + p.places.blanks ≤ p.places.active) where
  regions : ancillary p (in_regions p mended ws) ≡ scan (mended (blanking_of p ws)) ++ scan (mended (active_region p ws))
  regions = ancillary-in_regions p mended length-mended ws apart

  pub ancillary_right : any wrong_sum (ancillary p (in_regions p mended ws)) ≡ false
  ancillary_right =
      ap (any wrong_sum) regions
      ∙ any_of_append wrong_sum (scan (mended (blanking_of p ws))) (scan (mended (active_region p ws)))
      ∙ ap₂ ◌||◌ (mended_right (blanking_of p ws)) (mended_right (active_region p ws))

  pub ancillary_cut : any cut_piece (ancillary p (in_regions p mended ws)) ≡ any cut_piece (ancillary p ws)
  unfolding ancillary
  ancillary_cut =
      ap (any cut_piece) regions
      ∙ any_of_append cut_piece (scan (mended (blanking_of p ws))) (scan (mended (active_region p ws)))
      ∙ ap₂ ◌||◌ (mended_cut (blanking_of p ws)) (mended_cut (active_region p ws))
      ∙ sym (any_of_append cut_piece (scan (blanking_of p ws)) (scan (active_region p ws)))

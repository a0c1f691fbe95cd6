-- Laws of packets_of and extract_refusal.
use mathlib.Core.Path.{◌≡◌, refl, sym, ap, ◌∙◌}
use mathlib.Core.Bool.{Bool, false, not}
use mathlib.Core.List.{List, [], ◌∷◌, ◌++◌, map, flat_map}
use Prim.Native.Nat.{ℕ, ◌+◌}
use lib.Dec.{eqb}
use lib.ListN.{length, length-append}
use Rattle.parts.specs.Parts.{any, laid, end_to_end}
use Rattle.parts.proofs.Comparing.{any_cons}
use Rattle.parts.proofs.Laid.{laid_of_append}
use Rattle.scan.specs.Scan.{Word, Packet, scan, scan_from, packets_of}
use Rattle.scan.proofs.Remade.{is_packet, scan_of_settled, words_of_packets, settled_packets}
use Rattle.plan.specs.declared.Plan.{Plan}
use Rattle.plan.specs.Refusal.{row_refusal}
use Rattle.plan.proofs.Rows.{or_refusal_first}
use Rattle.region.specs.Ancillary.{blanking_of, active_region, ancillary}
use Rattle.region.proofs.Regions.{packets_of_append}
use Rattle.finding.specs.declared.Channel.{Channel}
use Rattle.finding.specs.Extract.{extract_refusal}

-- ---- packets_of

-- packets laid end to end are given back
abbrev pub not_packet : List ℕ → Bool
not_packet p = not (is_packet p)

pub packets_of_laid : (packets : List (List ℕ)) (z : List ℕ) → any not_packet packets ≡ false
    → packets_of (scan (end_to_end packets ++ z)) ≡ end_to_end packets ++ packets_of (scan z)
unfolding packets_of flat_map
packets_of_laid packets z e =
    ap (λ (l : List ℕ). packets_of (scan (l ++ z))) (sym (words_of_packets packets))
    ∙ ap packets_of (scan_of_settled (map Packet packets) z (settled_packets packets e))
    ∙ packets_of_append (map Packet packets) (scan z)
    ∙ ap (λ (l : List ℕ). l ++ packets_of (scan z)) (whole packets)
  where
    whole : (l : List (List ℕ)) → packets_of (map Packet l) ≡ end_to_end l
    whole [] = refl
    whole (p ∷ l) = ap (λ (ws : List ℕ). p ++ ws) (whole l)

-- and words of which none is 000 hold no packet
pub packets_of_words : (ws : List ℕ) → any (λ w. eqb w 0) ws ≡ false → packets_of (scan ws) ≡ []
unfolding packets_of flat_map scan scan_from any
packets_of_words [] e = refl
packets_of_words (w ∷ ws) e =
    let b = any_cons (λ v. eqb v 0) w ws e in
    ap packets_of (scan_of_settled (Word w ∷ []) ws (rw b.0)) ∙ packets_of_words ws b.1

-- ---- the packets of a channel, region after region

module _ (p : Plan) (ws blanking active : List ℕ) (b : blanking ≡ blanking_of p ws) (a : active ≡ active_region p ws) where
  pub packets_of_both : packets_of (ancillary p ws) ≡ packets_of (scan blanking) ++ packets_of (scan active)
  unfolding ancillary
  packets_of_both = rw (b, a) (packets_of_append (scan (blanking_of p ws)) (scan (active_region p ws)))

  pub length_both : length (packets_of (ancillary p ws)) ≡ length (packets_of (scan blanking)) + length (packets_of (scan active))
  length_both = rw (packets_of_both, length-append)

  pub laid_both : (out : List ℕ)
      → laid 0 (packets_of (ancillary p ws)) out ≡ laid (0 + length (packets_of (scan blanking))) (packets_of (scan active)) (laid 0 (packets_of (scan blanking)) out)
  laid_both out = rw packets_of_both (laid_of_append 0 (packets_of (scan blanking)) (packets_of (scan active)) out)

-- ---- extract_refusal

pub refused_first : (code line : ℕ) (channel : Channel) (y c : List ℕ) (room : ℕ) → (row_refusal code line y c ≡ 0 → ⊥)
    → extract_refusal code line channel y c room ≡ row_refusal code line y c
unfolding extract_refusal
refused_first code line channel y c room bad = or_refusal_first (row_refusal code line y c) _ bad

-- Laws of regions in which no packet is cut and every checksum is right.
use mathlib.Core.Path.{◌≡◌, refl, sym, ◌∙◌}
use mathlib.Core.Bool.{Bool, true, false, not}
use mathlib.Core.List.{List, [], ◌∷◌, ◌++◌, map, flat_map}
use Prim.Native.Nat.{ℕ}
use lib.Dec.{eqb}
use lib.ListN.{length, replicate}
use borrow.Author.Tests.{not-true, not-false, ne_eqb}
use Rattle.bits.specs.Words.{reserved_code}
use Rattle.bits.proofs.Choice.{and-true, false_not_true}
use Rattle.bits.proofs.Lists.{cons_equal}
use Rattle.parts.specs.Parts.{any, end_to_end}
use Rattle.parts.proofs.Comparing.{any_of_append, any_weaken, any_of_map, any_of_replicate}
use Rattle.scan.specs.Packet.{marked, size_of, checksum_in, right_checksum}
use Rattle.scan.specs.Scan.{Piece, Word, Marker, Packet, words_of, scan, scan_from, cut_piece, wrong_sum}
use Rattle.scan.proofs.Remade.{is_packet, unsettled, scan_of_settled, words_of_packets}
use Rattle.law_row.specs.Lawful.{right_packet, all_right}

-- ---- calm regions

-- a piece that is not found as it is whatever follows it, or that has a fault
abbrev troubled : Piece → Bool
troubled (Word w) = eqb w 0
troubled Marker = true
troubled (Packet p) = not (right_packet p)

pub right_packet_parts : (p : List ℕ) → not (right_packet p) ≡ false → (is_packet p ≡ true) × (eqb (checksum_in p) (right_checksum p) ≡ true)
right_packet_parts p e =
    let m = and-true (marked p) _ (not-false (right_packet p) e) in
    let l = and-true (eqb (length p) (size_of p)) _ m.1 in
    (rw (m.0, l.0), l.1)

pub whole_packets : (packets : List (List ℕ)) → all_right packets ≡ true → any (λ p. not (is_packet p)) packets ≡ false
whole_packets packets e =
    any_weaken (λ p. not (right_packet p)) (λ p. not (is_packet p)) (λ p k. rw (right_packet_parts p k).0) packets (not-true _ e)

troubled_unsettled : (p : Piece) → troubled p ≡ false → unsettled p ≡ false
troubled_unsettled (Word w) e = rw e
troubled_unsettled Marker e = e
troubled_unsettled (Packet p) e = rw (right_packet_parts p e).0

troubled_wrong_sum : (p : Piece) → troubled p ≡ false → wrong_sum p ≡ false
troubled_wrong_sum (Word w) e = refl
troubled_wrong_sum Marker e = refl
troubled_wrong_sum (Packet p) e = rw (right_packet_parts p e).1

troubled_cut_piece : (p : Piece) → troubled p ≡ false → cut_piece p ≡ false
troubled_cut_piece (Word w) e = refl
troubled_cut_piece Marker e = e
troubled_cut_piece (Packet p) e = refl

pub record Calm (region : List ℕ) : Type 0 where
  pub sum : any wrong_sum (scan region) ≡ false
  pub cut : any cut_piece (scan region) ≡ false

pub calm_none : Calm []
unfolding scan scan_from any
calm_none = record { sum = refl; cut = refl }

calm_pieces : (ps : List Piece) (z : List ℕ) → any troubled ps ≡ false → Calm z → Calm (flat_map words_of ps ++ z)
calm_pieces ps z e c =
    let s = scan_of_settled ps z (any_weaken troubled unsettled troubled_unsettled ps e) in
    record {
      sum = rw (s, any_of_append, any_weaken troubled wrong_sum troubled_wrong_sum ps e) c.sum;
      cut = rw (s, any_of_append, any_weaken troubled cut_piece troubled_cut_piece ps e) c.cut;
    }

pub calm_packets : (packets : List (List ℕ)) (z : List ℕ) → all_right packets ≡ true → Calm z → Calm (end_to_end packets ++ z)
calm_packets packets z e c =
    rw (← words_of_packets packets) (calm_pieces (map Packet packets) z (any_of_map troubled Packet packets ∙ not-true _ e) c)

calm_words : (ws : List ℕ) → any (λ w. eqb w 0) ws ≡ false → Calm ws
unfolding flat_map
calm_words ws e = rw (words ws) (calm_pieces (map Word ws) [] (any_of_map troubled Word ws ∙ e) calm_none)
  where
    words : (vs : List ℕ) → vs ≡ flat_map words_of (map Word vs) ++ []
    words [] = refl
    words (v ∷ vs) = cons_equal refl (words vs)

pub calm_blanks : (n blank : ℕ) → (blank ≡ 0 → ⊥) → Calm (replicate n blank)
calm_blanks n blank h = calm_words (replicate n blank) (any_of_replicate (λ w. eqb w 0) n blank (ne_eqb blank 0 h))

-- 000 is a reserved code
pub plain_no_zero : (ws : List ℕ) → any reserved_code ws ≡ false → any (λ w. eqb w 0) ws ≡ false
unfolding reserved_code
plain_no_zero ws e = any_weaken reserved_code (λ w. eqb w 0) (λ w k. ne_eqb w 0 (λ z. false_not_true (sym (rw z at k)))) ws e

pub calm_plain : (ws : List ℕ) → any reserved_code ws ≡ false → Calm ws
calm_plain ws e = calm_words ws (plain_no_zero ws e)

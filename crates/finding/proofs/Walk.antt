-- Laws of a walk from whole packet to whole packet, on what depends on whole packets alone.
use mathlib.Core.Path.{◌≡◌, refl, ap, ◌∙◌}
use mathlib.Core.List.{List, [], ◌∷◌}
use Prim.Native.Nat.{ℕ, ◌+◌, ◌-◌, ◌≤◌, ◌<◌}
use native.Mathlib.Omega.{arith}
use lib.ListN.{length, drop}
use Rattle.std.specs.Prelude.{None, Some}
use Rattle.std.specs.declared.ops.Range.{Range}
use Rattle.parts.specs.Parts.{part}
use Rattle.parts.proofs.Inside.{length_part}
use Rattle.scan.specs.Scan.{Piece, Word, Marker, Packet, scan, next_packet}
use Rattle.scan.proofs.Pieces.{AtNothing, AtCut, scan_end}
use Rattle.scan.proofs.Walk.{reach}

-- the next whole packet from a place on, and the place after it
pub record NextWhole {A : Type 0} (f : List Piece → A) (r : List ℕ) (from end : ℕ) (packet : List ℕ) : Type 0 where
  pub onward : from < end
  pub inside : end ≤ length r
  pub seven : 7 ≤ length packet
  pub same : f (scan (drop from r)) ≡ f (Packet packet ∷ scan (drop end r))

module _
    {A : Type 0}
    (f : List Piece → A)
    (over_word : (w : ℕ) (ps : List Piece) → f (Word w ∷ ps) ≡ f ps)
    (over_cut : (ps : List Piece) → f (Marker ∷ ps) ≡ f ps)
    (r : List ℕ)
    (from : ℕ)
  where
    abbrev Same : ℕ → Type 0
    Same i = (from ≤ i) × (f (scan (drop from r)) ≡ f (scan (drop i r)))

    word : (i : ℕ) → AtNothing r i → Same i → Same (i + 1)
    word i t s = (omega arith, s.1 ∙ rw t.next (over_word _ _))

    cut : (i : ℕ) → AtCut r i → Same i → Same (i + 3)
    cut i t s = (omega arith, s.1 ∙ rw t.next (over_cut _))

    pub next_whole : {place : Range ℕ} {size : ℕ} {packet : List ℕ} → Some place ≡ next_packet from (scan (drop from r))
        → size ≡ place.end - place.start → packet ≡ part place.start size r → NextWhole f r from place.end packet
    next_whole {place} {size} {packet} e s p =
        let n = reach r Same word cut from (Some place) e (omega arith, refl) in
        let t = n.1 in
        let end : place.start + (place.end - place.start) ≡ place.end = omega (arith, t.least) in
        let q : packet ≡ part place.start (place.end - place.start) r = p ∙ rw s in
        record {
          onward = omega (arith, n.0.0, t.least);
          inside = omega (arith, t.room, t.least);
          seven = rw (q, length_part _ _ _ t.room) t.least;
          same = n.0.1 ∙ rw (t.next, end, q);
        }

    pub none_whole : None ≡ next_packet from (scan (drop from r)) → f (scan (drop from r)) ≡ f []
    none_whole e = let n = reach r Same word cut from None e (omega arith, refl) in n.2.1 ∙ ap f (scan_end n.0 r n.1)

-- Laws of found and find_of.
use mathlib.Core.Path.{◌≡◌, refl, sym, ap, ◌∙◌}
use mathlib.Core.Bool.{Bool, true, false}
use mathlib.Core.List.{List, [], ◌∷◌, ◌++◌, append-nil, flat_map}
use Prim.Native.Nat.{ℕ, zero, suc, ◌-◌, ◌<◌}
use native.Mathlib.Omega.{arith}
use lib.Dec.{eqb}
use lib.ListN.{length}
use borrow.Author.Tests.{ne_eqb}
use Rattle.std.specs.Prelude.{Option, None, Some, MatchOption}
use Rattle.std.specs.Option.{unwrap_or}
use Rattle.std.specs.Borrow.{Bor}
use Rattle.bits.specs.Choice.{if}
use Rattle.bits.proofs.Choice.{false_not_true}
use Rattle.parts.specs.Parts.{any}
use Rattle.parts.proofs.Comparing.{any_cons, any_of_append}
use Rattle.parts.proofs.Laid.{unless_refused-refused}
use Rattle.scan.specs.Scan.{Piece, Packet, words_of, piece_at, scan_from, scan}
use Rattle.scan.proofs.Pieces.{piece_at_some}
use Rattle.scan.proofs.Remade.{is_packet, unsettled, scan_of_settled}
use Rattle.plan.specs.declared.Plan.{Plan}
use Rattle.plan.specs.Plan.{plan_of}
use Rattle.plan.specs.Refusal.{row_refusal}
use Rattle.region.specs.Ancillary.{blanking_of, active_region, ancillary}
use Rattle.finding.specs.Find.{wanted, found, IsFound, find_of}

-- ---- pieces of no words, which no scan finds

abbrev empty : Piece → Bool
empty p = eqb (length (words_of p)) 0

none_empty_from : (k : ℕ) (ws : List ℕ) → any empty (scan_from k ws) ≡ false
unfolding scan_from any
none_empty_from zero [] = refl
none_empty_from (suc k) [] = refl
none_empty_from (suc k) (w ∷ ws) = none_empty_from k ws
none_empty_from zero (w ∷ ws) =
    let p = piece_at (w ∷ ws) in
    let some : length (words_of p) ≡ 0 → ⊥ = λ e. omega (arith, piece_at_some (w ∷ ws)) in
    rw (ne_eqb (length (words_of p)) 0 some) (none_empty_from (length (words_of p) - 1) ws)

none_empty : (ws : List ℕ) → any empty (scan ws) ≡ false
unfolding scan
none_empty ws = none_empty_from 0 ws

none_empty_ancillary : (p : Plan) (ws : List ℕ) → any empty (ancillary p ws) ≡ false
unfolding ancillary
none_empty_ancillary p ws = rw (any_of_append empty (scan (blanking_of p ws)) (scan (active_region p ws)), none_empty (blanking_of p ws), none_empty (active_region p ws))

-- ---- found

-- the first of two that has words
abbrev pub or_else : List ℕ → List ℕ → List ℕ
or_else [] b = b
or_else (w ∷ a) b = w ∷ a

pub or_else_first : (r a b : List ℕ) → r ≡ a → 0 < length r → r ≡ or_else a b
or_else_first r [] b e h = absurd (omega (arith, ap length e))
or_else_first r (w ∷ a) b e h = e

pub found_or_else : {Next : Type 0} (first result : Option (Bor (List ℕ))) (a b : List ℕ) → IsFound first a
    → MatchOption first Next (λ x. result ≡ Some x) → (Next → IsFound result b) → IsFound result (or_else a b)
found_or_else None result a b none next second = rw none (second next)
found_or_else (Some packet) result a b there same second = rw same (or_else_first packet.now a b there.0 there.1, there.1)

pub found_or_none : (part : Option (Bor (List ℕ))) (none : Bor (List ℕ)) (words : List ℕ) → none.now ≡ [] → IsFound part words
    → (unwrap_or part none).now ≡ words
found_or_none None none words empty found = empty ∙ sym found
found_or_none (Some packet) none words empty found = found.0

module _ (did sdid : ℕ) where
  found_of_append : (ps qs : List Piece) → any empty ps ≡ false → found did sdid (ps ++ qs) ≡ or_else (found did sdid ps) (found did sdid qs)
  unfolding found
  found_of_append [] qs e = refl
  found_of_append (p ∷ ps) qs e =
      let each = any_cons empty p ps e in
      go (wanted did sdid p) (words_of p) each.0 (found_of_append ps qs each.1)
    where
      go : (b : Bool) (ws : List ℕ) → eqb (length ws) 0 ≡ false → found did sdid (ps ++ qs) ≡ or_else (found did sdid ps) (found did sdid qs)
          → if b ws (found did sdid (ps ++ qs)) ≡ or_else (if b ws (found did sdid ps)) (found did sdid qs)
      go true [] some rest = absurd (false_not_true (sym some))
      go true (w ∷ ws) some rest = refl
      go false ws some rest = rest

  pub found_of_ancillary : (p : Plan) (ws : List ℕ)
      → found did sdid (ancillary p ws) ≡ or_else (found did sdid (scan (blanking_of p ws))) (found did sdid (scan (active_region p ws)))
  unfolding ancillary
  found_of_ancillary p ws = found_of_append (scan (blanking_of p ws)) (scan (active_region p ws)) (none_empty (blanking_of p ws))

  found-past : (ps qs : List Piece) → any (wanted did sdid) ps ≡ false → found did sdid (ps ++ qs) ≡ found did sdid qs
  unfolding found
  found-past [] qs e = refl
  found-past (p ∷ ps) qs e = let each = any_cons (wanted did sdid) p ps e in rw each.0 (found-past ps qs each.1)

  -- "The first whole packet with a wanted pair": a wanted packet laid after pieces of which none is wanted
  pub found_of_laid : (ps : List Piece) (p z : List ℕ) → any unsettled ps ≡ false → any (wanted did sdid) ps ≡ false
      → is_packet p ≡ true → wanted did sdid (Packet p) ≡ true → found did sdid (scan (flat_map words_of ps ++ (p ++ z))) ≡ p
  unfolding found any flat_map
  found_of_laid ps p z settled others packet right =
      let this : scan (p ++ z) ≡ Packet p ∷ scan z = ap (λ (l : List ℕ). scan (l ++ z)) (sym (append-nil p)) ∙ scan_of_settled (Packet p ∷ []) z (rw packet) in
      ap (found did sdid) (scan_of_settled ps (p ++ z) settled ∙ ap (λ (qs : List Piece). ps ++ qs) this)
      ∙ found-past ps (Packet p ∷ scan z) others
      ∙ rw right

  -- ---- find_of

  module _ (code line : ℕ) (y c : List ℕ) where
    pub find_of-refused : (row_refusal code line y c ≡ 0 → ⊥) → find_of code line did sdid y c ≡ []
    unfolding find_of
    find_of-refused bad = unless_refused-refused (row_refusal code line y c) _ _ bad

    pub find_of-found : row_refusal code line y c ≡ 0
        → find_of code line did sdid y c ≡ or_else (found did sdid (ancillary (plan_of code line) y)) (found did sdid (ancillary (plan_of code line) c))
    unfolding find_of
    find_of-found ok = rw ok (found_of_append (ancillary (plan_of code line) y) (ancillary (plan_of code line) c) (none_empty_ancillary (plan_of code line) y))

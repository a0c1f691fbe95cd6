-- Laws of a region whose pieces are changed: a loop that changes them in place, and lengths.
use mathlib.Core.Path.{◌≡◌, refl, sym, ap, ap₂, ◌∙◌}
use mathlib.Core.List.{List, [], ◌∷◌, ◌++◌, append_assoc, append-nil, flat_map}
use Prim.Native.Nat.{ℕ, suc, ◌+◌, ◌-◌, ◌≤◌}
use native.Mathlib.Omega.{arith}
use lib.ListN.{length, take, drop, length-append, length-set, length-replicate}
use lib.Seq.{take_all, take-add, take_at}
use borrow.Rule.Slice.PartMut.{put_mid}
use Rattle.std.proofs.lemmas.Slice.{take-put_mid_below, between-put_mid, drop-put_mid}
use Rattle.parts.specs.Parts.{part}
use Rattle.scan.specs.Packet.{right_checksum, user_count}
use Rattle.std.specs.Prelude.{Option}
use Rattle.std.specs.declared.ops.Range.{Range}
use Rattle.scan.specs.Scan.{Piece, Word, Marker, Packet, words_of, scan, next_packet}
use Rattle.scan.proofs.Pieces.{AtNothing, AtCut, AtWhole, scan_end}
use Rattle.scan.proofs.Remade.{words_of_scan}
use Rattle.scan.proofs.Walk.{Reached, reach}
use Rattle.region.specs.Region.{change_piece, changed, mend_packet, mended, wipe_packet, wiped}

-- ---- what is done and what is left

abbrev pub todo : (Piece → List ℕ) → List ℕ → ℕ → List ℕ
todo made r i = take i r ++ flat_map made (scan (drop i r))

pub todo_end : (made : Piece → List ℕ) (r : List ℕ) (i : ℕ) → length r ≤ i → todo made r i ≡ r
unfolding flat_map
todo_end made r i h = rw (scan_end i r h, take_all i r h) (append-nil r)

module _ (made : Piece → List ℕ) (r : List ℕ) (i n : ℕ) (p : Piece) (next : scan (drop i r) ≡ p ∷ scan (drop (i + n) r)) where
  -- what is made of the piece stands in its place
  todo_step : (r' : List ℕ) → take i r' ≡ take i r → part i n r' ≡ made p → drop (i + n) r' ≡ drop (i + n) r → todo made r i ≡ todo made r' (i + n)
  unfolding flat_map
  todo_step r' before here after =
      rw (next, take-add i n r', before, here, after) (sym (append_assoc (take i r) (made p) (flat_map made (scan (drop (i + n) r)))))

  pub todo_kept : made p ≡ words_of p → length (words_of p) ≡ n → todo made r i ≡ todo made r (i + n)
  unfolding flat_map
  todo_kept e long =
      let words : drop i r ≡ words_of p ++ drop (i + n) r = sym (words_of_scan (drop i r)) ∙ rw next (ap (λ (l : List ℕ). words_of p ++ l) (words_of_scan (drop (i + n) r))) in
      todo_step r refl (ap (take n) words ∙ take_at (words_of p) (drop (i + n) r) n long ∙ sym e) refl

pub todo_word : (f : List ℕ → List ℕ) (r : List ℕ) (i : ℕ) → AtNothing r i → todo (change_piece f) r i ≡ todo (change_piece f) r (i + 1)
todo_word f r i t = todo_kept (change_piece f) r i 1 (Word _) t.next refl refl

pub todo_cut : (f : List ℕ → List ℕ) (r : List ℕ) (i : ℕ) → AtCut r i → todo (change_piece f) r i ≡ todo (change_piece f) r (i + 3)
todo_cut f r i t = todo_kept (change_piece f) r i 3 Marker t.next refl refl

-- the packet of n words at place i, as f leaves it
pub todo_packet : (f : List ℕ → List ℕ) (r : List ℕ) (i n : ℕ) (v : List ℕ) → AtWhole r i n → v ≡ f (take n (drop i r)) → length v ≡ n
    → todo (change_piece f) r i ≡ todo (change_piece f) (put_mid i n r v) (i + n)
todo_packet f r i n v t e long =
    let room : i ≤ length r = omega (arith, t.room) in
    let places : i + n - i ≡ n = omega arith in
    let there : length v ≡ i + n - i = omega arith in
    todo_step (change_piece f) r i n (Packet (take n (drop i r))) t.next (put_mid i n r v) (take-put_mid_below i n r v i (omega arith) room)
    (rw places at (between-put_mid i n r v (i + n) room there) ∙ e) (drop-put_mid i n r v (i + n) (omega arith) room long)

-- what is left stays over what is no packet
pub todo_next : (f : List ℕ → List ℕ) (r : List ℕ) (i : ℕ) (found : Option (Range ℕ)) → found ≡ next_packet i (scan (drop i r))
    → Reached r (λ j. todo (change_piece f) r i ≡ todo (change_piece f) r j) (λ j t e. e ∙ todo_word f r j t) (λ j t e. e ∙ todo_cut f r j t) found
todo_next f r i found e = reach r (λ j. todo (change_piece f) r i ≡ todo (change_piece f) r j) (λ j t e. e ∙ todo_word f r j t) (λ j t e. e ∙ todo_cut f r j t) i found e refl

-- ---- lengths

module _ (f : List ℕ → List ℕ) (keeps : (p : List ℕ) → length (f p) ≡ length p) where
  changed_length_from : (ps : List Piece) → length (flat_map (change_piece f) ps) ≡ length (flat_map words_of ps)
  unfolding flat_map
  changed_length_from [] = refl
  changed_length_from (Word w ∷ ps) = ap suc (changed_length_from ps)
  changed_length_from (Marker ∷ ps) = ap (λ (n : ℕ). suc (suc (suc n))) (changed_length_from ps)
  changed_length_from (Packet p ∷ ps) = simp length-append (ap₂ ◌+◌ (keeps p) (changed_length_from ps))

  changed_length : (l : List ℕ) → length (changed f l) ≡ length l
  changed_length l = changed_length_from (scan l) ∙ ap length (words_of_scan l)

pub length-mended : (l : List ℕ) → length (mended l) ≡ length l
unfolding mended
length-mended l = changed_length mend_packet (λ p. length-set p (user_count p + 6) (right_checksum p)) l

pub length-wiped : (blank : ℕ) (l : List ℕ) → length (wiped blank l) ≡ length l
unfolding wiped
length-wiped blank l = changed_length (wipe_packet blank) (λ p. length-replicate (length p) blank) l

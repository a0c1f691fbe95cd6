-- Laws of pieces and of the scan.
use mathlib.Core.Path.{◌≡◌, refl, sym, ap, subst, ◌∙◌}
use mathlib.Core.Bool.{Bool, true, false, cond, not, ◌||◌, and-false, or-true, or-false, or_assoc}
use mathlib.Core.List.{List, [], ◌∷◌, flat_map}
use Prim.Native.Nat.{ℕ, zero, suc, ◌+◌, ◌*◌, ◌-◌, ◌%◌, ◌≤◌, ◌<◌}
use native.Mathlib.Omega.{arith}
use native.Mathlib.Nat.{zero-add, add-zero, add_assoc, add_comm, mul-zero, mul-suc}
use native.Mathlib.Numerals.{one-add}
use lib.ListN.{length, get_or, take, drop, length-append, length-drop, drop_of_length-le}
use lib.Dec.{eqb}
use Rattle.std.specs.List.{prefix_len}
use Rattle.std.specs.Simd.{first_chunks}
use lib.Seq.{length-take-le, drop-drop, get_or-drop, get_or-take}
use borrow.Author.Tests.{le-leb, lt-leb}
use Rattle.bits.specs.Choice.{if}
use Rattle.bits.specs.Words.{nine_of}
use Rattle.parts.specs.Parts.{same, any}
use Rattle.parts.proofs.Comparing.{any_cons}
use Rattle.scan.specs.declared.Here.{Here}
use Rattle.scan.specs.declared.Here.TheVariants.{Nothing, Cut, Whole}
use Rattle.scan.specs.declared.Scanned.{Scanned}
use Rattle.scan.specs.Packet.{marked, size_of, fits, sum_of, right_checksum, checksum_in}
use Rattle.scan.specs.Scan.{Piece, Word, Marker, Packet, words_of, piece_at, scan_from, scan, packets_of, scanned, here_of}
use Rattle.scan.proofs.Packets.{marked_words, marked-room, fits-room, checksum_by_sum, after-marker, summed_at, checksum_in_at}

-- ---- piece_at

-- what holds of a word, of a marker and of a packet, each where it stands, holds of the piece that stands there
pub piece_at_cases : (P : Piece → Type 0) (ws : List ℕ)
    → (marked ws ≡ false → P (Word (get_or ws 0 0)))
    → (marked ws ≡ true → fits ws ≡ false → P Marker)
    → (marked ws ≡ true → fits ws ≡ true → P (Packet (take (size_of ws) ws)))
    → P (piece_at ws)
unfolding piece_at
piece_at_cases P ws word cut whole = go (marked ws) (fits ws) word cut whole
  where
    go : (m f : Bool) → (m ≡ false → P (Word (get_or ws 0 0))) → (m ≡ true → f ≡ false → P Marker)
        → (m ≡ true → f ≡ true → P (Packet (take (size_of ws) ws)))
        → P (if m (if f (Packet (take (size_of ws) ws)) Marker) (Word (get_or ws 0 0)))
    go true true word cut whole = whole refl refl
    go true false word cut whole = cut refl refl
    go false f word cut whole = word refl

pub piece_at_some : (ws : List ℕ) → 0 < length (words_of (piece_at ws))
piece_at_some ws =
    piece_at_cases (λ (p : Piece). 0 < length (words_of p)) ws (λ m. omega arith) (λ m f. omega arith)
    (λ m f. rw (length-take-le (size_of ws) ws (fits-room ws f).1) (omega arith))

pub piece_at_words : (ws : List ℕ) → 0 < length ws → take (length (words_of (piece_at ws))) ws ≡ words_of (piece_at ws)
piece_at_words ws h =
    piece_at_cases (λ (p : Piece). take (length (words_of p)) ws ≡ words_of p) ws (λ m. first ws h) (λ m f. marked_words ws m)
    (λ m f. ap (λ (k : ℕ). take k ws) (length-take-le (size_of ws) ws (fits-room ws f).1))
  where
    first : (l : List ℕ) → 0 < length l → take 1 l ≡ get_or l 0 0 ∷ []
    first [] h = absurd (omega arith)
    first (x ∷ l) h = refl

-- ---- here_of, by the tests that the code makes at a place

module _ (r : List ℕ) (i : ℕ) where
  pub here_of-nothing : marked (drop i r) ≡ false → here_of (piece_at (drop i r)) ≡ Nothing
  unfolding piece_at
  here_of-nothing m = rw m

  pub here_of_cut : marked (drop i r) ≡ true → length r - i < get_or r (i + 5) 0 % 256 + 7 → here_of (piece_at (drop i r)) ≡ Cut
  unfolding piece_at fits
  here_of_cut m h = simp (m, get_or-drop, length-drop, lt-leb _ _ h, and-false)

  pub here_of_whole : marked (drop i r) ≡ true → get_or r (i + 5) 0 % 256 + 7 ≤ length r - i
      → here_of (piece_at (drop i r)) ≡ Whole (get_or r (i + 5) 0 % 256 + 7)
  unfolding piece_at fits
  here_of_whole m h =
      let six : 6 ≤ length r - i = omega arith in
      simp (m, get_or-drop, length-drop, le-leb _ _ six, le-leb _ _ h)
      (ap Whole (length-take-le (get_or r (i + 5) 0 % 256 + 7) (drop i r) (omega (arith, length-drop i r))))

pub ruleset here = (marked-room, here_of-nothing, here_of_cut, here_of_whole)

-- ---- scan: its end and its step

scan_skip : (k : ℕ) (ws : List ℕ) → scan_from k ws ≡ scan (drop k ws)
unfolding scan scan_from
scan_skip zero ws = refl
scan_skip (suc k) [] = refl
scan_skip (suc k) (w ∷ ws) = scan_skip k ws

pub scan_end : (i : ℕ) (r : List ℕ) → length r ≤ i → scan (drop i r) ≡ []
unfolding scan scan_from
scan_end i r h = rw (drop_of_length-le r h)

pub scan_step : (ws : List ℕ) → 0 < length ws → scan ws ≡ piece_at ws ∷ scan (drop (length (words_of (piece_at ws))) ws)
unfolding scan scan_from
scan_step [] h = absurd (omega arith)
scan_step (w ∷ ws) h =
    let e : length (words_of (piece_at (w ∷ ws))) ≡ suc (length (words_of (piece_at (w ∷ ws))) - 1) = omega (arith, piece_at_some (w ∷ ws)) in
    ap (λ (ps : List Piece). piece_at (w ∷ ws) ∷ ps)
    (scan_skip (length (words_of (piece_at (w ∷ ws))) - 1) ws ∙ ap (λ (k : ℕ). scan (drop k (w ∷ ws))) (sym e))

-- ---- scan, by places: a turn of a loop over a region

pub record AtNothing (r : List ℕ) (i : ℕ) : Type 0 where
  pub next : scan (drop i r) ≡ Word (get_or r i 0) ∷ scan (drop (i + 1) r)

pub record AtCut (r : List ℕ) (i : ℕ) : Type 0 where
  pub room : i + 3 ≤ length r
  pub next : scan (drop i r) ≡ Marker ∷ scan (drop (i + 3) r)

pub record AtWhole (r : List ℕ) (i n : ℕ) : Type 0 where
  pub least : 7 ≤ n
  pub room : i + n ≤ length r
  pub size : size_of (take n (drop i r)) ≡ n
  pub next : scan (drop i r) ≡ Packet (take n (drop i r)) ∷ scan (drop (i + n) r)

abbrev pub Turn : List ℕ → ℕ → Here → Type 0
Turn r i Nothing = AtNothing r i
Turn r i Cut = AtCut r i
Turn r i (Whole n) = AtWhole r i n

pub scan-turn : (r : List ℕ) (i : ℕ) (here : Here) → i < length r → here_of (piece_at (drop i r)) ≡ here → Turn r i here
scan-turn r i here h e = subst (Turn r i) e (turn (scan_step l (omega (arith, length-drop i r))))
  where
    l : List ℕ
    l = drop i r

    Step : Piece → Type 0
    Step p = scan l ≡ p ∷ scan (drop (length (words_of p)) l) → Turn r i (here_of p)

    whole : fits l ≡ true → Step (Packet (take (size_of l) l))
    whole f s =
        let n : ℕ = size_of l in
        let room = (fits-room l f).1 in
        let e : length (take n l) ≡ n = length-take-le n l room in
        subst (AtWhole r i) (sym e)
        (record {
          least = omega arith;
          room = omega (arith, length-drop i r);
          size = ap (λ (w : ℕ). w % 256 + 7) (get_or-take n l 5 0 (omega arith));
          next = s ∙ ap (λ (k : ℕ). Packet (take n l) ∷ scan (drop k l)) e ∙ ap (λ (q : List ℕ). Packet (take n l) ∷ scan q) (drop-drop n i r);
        })

    turn : Step (piece_at l)
    turn =
        piece_at_cases Step l (λ m s. record { next = s ∙ simp (get_or-drop, add-zero, drop-drop) })
        (λ m f s. record { room = omega (arith, marked-room r i m); next = s ∙ rw drop-drop }) (λ m f s. whole f s)

-- ---- scanned: of a word where no packet starts, and of words without 000, nothing is told

pub scanned-nothing : (r : List ℕ) (i : ℕ) → i < length r → here_of (piece_at (drop i r)) ≡ Nothing
    → scanned (scan (drop i r)) ≡ scanned (scan (drop (i + 1) r))
unfolding packets_of flat_map any
scanned-nothing r i h e = rw (scan-turn r i Nothing h e).next

abbrev has_zero : List ℕ → Bool
has_zero = any (λ w. eqb w 0)

abbrev pub none_zero : List ℕ → Bool
none_zero ws = not (has_zero ws)

pub scanned-past : (r : List ℕ) (i k : ℕ) → any (λ w. eqb w 0) (take k (drop i r)) ≡ false → scanned (scan (drop i r)) ≡ scanned (scan (drop (i + k) r))
unfolding marked same
scanned-past r i k e = go k (drop i r) e ∙ rw drop-drop
  where
    go : (k : ℕ) (ws : List ℕ) → any (λ w. eqb w 0) (take k ws) ≡ false → scanned (scan ws) ≡ scanned (scan (drop k ws))
    go zero ws e = refl
    go (suc k) [] e = refl
    go (suc k) (w ∷ ws) e =
        let b = any_cons (λ v. eqb v 0) w (take k ws) e in
        scanned-nothing (w ∷ ws) 0 (omega arith) (here_of-nothing (w ∷ ws) 0 (rw b.0)) ∙ go k ws b.1

scanned_past_chunks : (n count : ℕ) (ws : List ℕ) → scanned (scan ws) ≡ scanned (scan (drop (n * prefix_len none_zero (first_chunks n count ws)) ws))
scanned_past_chunks n zero ws = rw mul-zero
scanned_past_chunks n (suc count) ws = go (has_zero (take n ws)) refl (scanned_past_chunks n count (drop n ws))
  where
    more : ℕ
    more = prefix_len none_zero (first_chunks n count (drop n ws))

    go : (b : Bool) → has_zero (take n ws) ≡ b → scanned (scan (drop n ws)) ≡ scanned (scan (drop (n * more) (drop n ws)))
        → scanned (scan ws) ≡ scanned (scan (drop (n * cond (not b) (1 + more) 0) ws))
    go true e rest = rw mul-zero
    go false e rest = scanned-past ws 0 n e ∙ rw zero-add (rest ∙ rw (drop-drop, one-add, mul-suc, add_comm n))

-- the chunks of a region from place i on that come before the first with 000
pub scanned_onward : (n count i passed : ℕ) (r : List ℕ) (chunks : List (List ℕ)) → chunks ≡ first_chunks n count (drop i r) → passed ≡ prefix_len none_zero chunks
    → scanned (scan (drop i r)) ≡ scanned (scan (drop (i + n * passed) r))
scanned_onward n count i passed r chunks cut e = scanned_past_chunks n count (drop i r) ∙ rw (drop-drop, e, cut)

-- ---- scanned: what is told of the pieces passed, and of those that are left

abbrev pub with_rest : ℕ → Bool → Bool → Scanned → Scanned
with_rest words cut wrong rest =
    record {
      words = words + rest.words;
      cut = cut || rest.cut;
      wrong = wrong || rest.wrong;
    }

pub scanned_start : (ps : List Piece) → scanned ps ≡ with_rest 0 false false (scanned ps)
scanned_start ps = rw zero-add

module _ (r : List ℕ) (i : ℕ) (h : i < length r) (words : ℕ) (cut wrong : Bool) where
  pub scanned_cut : here_of (piece_at (drop i r)) ≡ Cut
      → with_rest words cut wrong (scanned (scan (drop i r))) ≡ with_rest words true wrong (scanned (scan (drop (i + 3) r)))
  unfolding packets_of flat_map any
  scanned_cut e = rw ((scan-turn r i Cut h e).next, or-true)

  pub scanned_whole : (last sum : ℕ) → here_of (piece_at (drop i r)) ≡ Whole (last + 1) → sum % 512 ≡ sum_of (drop 3 (take last (drop i r))) % 512
      → with_rest words cut wrong (scanned (scan (drop i r)))
      ≡ with_rest (words + (last + 1)) cut (wrong || not (eqb (get_or r (i + last) 0) (nine_of sum)))
      (scanned (scan (drop (i + (last + 1)) r)))
  unfolding packets_of flat_map any
  scanned_whole last sum e s =
      let n : ℕ = last + 1 in
      let p = take n (drop i r) in
      let t = scan-turn r i (Whole n) h e in
      let a : n - 4 ≡ last - 3 = omega arith in
      let b : n - 1 ≡ last = omega arith in
      let right : nine_of sum ≡ right_checksum p =
      checksum_by_sum sum _ s ∙ rw (summed_at r i n t.size, a, after-marker r i last (omega (arith, t.least))) in
      let has : get_or r (i + last) 0 ≡ checksum_in p = rw (checksum_in_at r i n t.size, b) in
      let long : length p ≡ n = length-take-le n (drop i r) (omega (arith, length-drop i r, t.room)) in
      rw (t.next, right, has, length-append, long) (simp (add_assoc, or_assoc))

pub scanned_end : (words : ℕ) (cut wrong : Bool)
    → with_rest words cut wrong (scanned []) ≡ record { words = words; cut = cut; wrong = wrong }
unfolding packets_of flat_map any
scanned_end words cut wrong = simp or-false (rw add-zero)

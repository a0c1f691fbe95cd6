-- Laws of the scan of what was made from pieces.
use mathlib.Core.Path.{◌≡◌, refl, sym, ap, ap₂, ◌∙◌}
use mathlib.Core.Bool.{Bool, true, false, not, ◌&&◌}
use mathlib.Core.List.{List, [], ◌∷◌, ◌++◌, append_assoc, map, flat_map}
use Prim.Native.Nat.{ℕ, zero, suc, ◌+◌, ◌-◌, ◌≤◌, ◌<◌}
use native.Mathlib.Omega.{arith}
use native.Mathlib.Nat.{sub-zero, zero-sub, suc-sub-suc}
use lib.Dec.{eqb}
use lib.ListN.{length, get_or, take, drop, length-append, take-append-drop}
use lib.Seq.{length-take-le, drop-append_seam, get_or-take, take-take, take_at, take-append-le}
use borrow.Author.Tests.{le-leb, not-true, not-false, eqb-true}
use Rattle.bits.proofs.Choice.{and-true, false_not_true}
use Rattle.bits.proofs.Lists.{cons_equal}
use Rattle.parts.specs.Parts.{same, any, end_to_end}
use Rattle.parts.proofs.Comparing.{any_cons, any_of_map}
use Rattle.scan.specs.Packet.{marker, marked, size_of, fits}
use Rattle.scan.specs.Scan.{Piece, Word, Marker, Packet, words_of, piece_at, scan_from, scan}
use Rattle.scan.proofs.Packets.{fits-room}
use Rattle.scan.proofs.Pieces.{piece_at_cases, piece_at_some, piece_at_words, scan_step}

-- ---- the pieces' words are the region

words_from : (k : ℕ) (ws : List ℕ) → flat_map words_of (scan_from k ws) ≡ drop k ws
unfolding flat_map scan_from
words_from zero [] = refl
words_from (suc k) [] = refl
words_from (suc k) (w ∷ ws) = words_from k ws
words_from zero (w ∷ ws) =
    let p = words_of (piece_at (w ∷ ws)) in
    let e : length p ≡ suc (length p - 1) = omega (arith, piece_at_some (w ∷ ws)) in
    ap (λ (l : List ℕ). p ++ l) (words_from (length p - 1) ws ∙ ap (λ (k : ℕ). drop k (w ∷ ws)) (sym e))
    ∙ ap (λ (l : List ℕ). l ++ drop (length p) (w ∷ ws)) (sym (piece_at_words (w ∷ ws) (omega arith)))
    ∙ take-append-drop (length p) (w ∷ ws)

pub words_of_scan : (ws : List ℕ) → flat_map words_of (scan ws) ≡ ws
unfolding scan
words_of_scan ws = words_from 0 ws

-- ---- a piece that is found at the start of what is made from it

scan_of_piece : (p : Piece) (z : List ℕ) → piece_at (words_of p ++ z) ≡ p → scan (words_of p ++ z) ≡ p ∷ scan z
scan_of_piece p z e =
    let some : 0 < length (words_of p) = rw e at (piece_at_some (words_of p ++ z)) in
    scan_step (words_of p ++ z) (simp length-append (omega arith)) ∙ rw (e, drop-append_seam)

-- ---- what a piece is told by: six words and the length

module _ (a b : List ℕ) (six : take 6 a ≡ take 6 b) where
  marked_alike : marked a ≡ marked b
  unfolding marked
  marked_alike = rw (← take-take 3 6 a (omega arith), six, take-take 3 6 b (omega arith))

  size_alike : size_of a ≡ size_of b
  size_alike = rw (← get_or-take 6 a 5 0 (omega arith), six, get_or-take 6 b 5 0 (omega arith))

  fits_alike : length a ≡ length b → fits a ≡ fits b
  unfolding fits
  fits_alike long = rw (size_alike, long)

piece_at-packet : (p z : List ℕ) → marked (p ++ z) ≡ true → size_of (p ++ z) ≡ length p → piece_at (p ++ z) ≡ Packet p
unfolding piece_at fits
piece_at-packet p z m size =
    let long = length-append p z in
    let least : 6 ≤ length (p ++ z) = omega arith in
    let room : size_of (p ++ z) ≤ length (p ++ z) = omega arith in
    rw (m, le-leb 6 (length (p ++ z)) least, le-leb (size_of (p ++ z)) (length (p ++ z)) room, take_at p z (size_of (p ++ z)) (sym size))

-- ---- pieces that are found whatever follows them

-- a whole packet and no more
abbrev pub is_packet : List ℕ → Bool
is_packet p = marked p && eqb (length p) (size_of p)

abbrev pub settled : Piece → Bool
settled (Word w) = not (eqb w 0)
settled Marker = false
settled (Packet p) = is_packet p

abbrev pub unsettled : Piece → Bool
unsettled p = not (settled p)

piece_at_of_settled : (p : Piece) (z : List ℕ) → settled p ≡ true → piece_at (words_of p ++ z) ≡ p
unfolding piece_at marked same
piece_at_of_settled (Word w) z s = rw (not-true (eqb w 0) s)
piece_at_of_settled Marker z s = absurd (false_not_true s)
piece_at_of_settled (Packet p) z s =
    let b = and-true (marked p) (eqb (length p) (size_of p)) s in
    let size : length p ≡ size_of p = eqb-true (length p) (size_of p) b.1 in
    let six : take 6 (p ++ z) ≡ take 6 p = take-append-le 6 p z (omega arith) in
    piece_at-packet p z (marked_alike (p ++ z) p six ∙ b.0) (size_alike (p ++ z) p six ∙ sym size)

pub scan_of_settled : (ps : List Piece) (z : List ℕ) → any unsettled ps ≡ false → scan (flat_map words_of ps ++ z) ≡ ps ++ scan z
unfolding flat_map
scan_of_settled [] z s = refl
scan_of_settled (p ∷ ps) z s =
    let b = any_cons unsettled p ps s in
    let y = flat_map words_of ps ++ z in
    ap scan (append_assoc (words_of p) (flat_map words_of ps) z)
    ∙ scan_of_piece p y (piece_at_of_settled p y (not-false (settled p) b.0))
    ∙ ap (λ (qs : List Piece). p ∷ qs) (scan_of_settled ps z b.1)

-- ---- whole packets end to end, as pieces

pub words_of_packets : (l : List (List ℕ)) → flat_map words_of (map Packet l) ≡ end_to_end l
unfolding flat_map
words_of_packets [] = refl
words_of_packets (p ∷ l) = ap (λ (ws : List ℕ). p ++ ws) (words_of_packets l)

pub settled_packets : (l : List (List ℕ)) → any (λ p. not (is_packet p)) l ≡ false → any unsettled (map Packet l) ≡ false
settled_packets l e = any_of_map unsettled Packet l ∙ e

-- ---- packets changed after their first six words

take_append : (n : ℕ) (xs ys : List ℕ) → take n (xs ++ ys) ≡ take n xs ++ take (n - length xs) ys
take_append zero xs ys = rw zero-sub
take_append (suc n) [] ys = rw sub-zero
take_append (suc n) (x ∷ xs) ys = rw suc-sub-suc (cons_equal refl (take_append n xs ys))

abbrev pub on_packets : (List ℕ → List ℕ) → Piece → Piece
on_packets f (Word w) = Word w
on_packets f Marker = Marker
on_packets f (Packet p) = Packet (f p)

module _
    (f : List ℕ → List ℕ)
    (long : (p : List ℕ) → length (f p) ≡ length p)
    (head : (p : List ℕ) → take 6 (f p) ≡ take 6 p)
  where
    remade : List Piece → List ℕ
    remade ps = flat_map words_of (map (on_packets f) ps)

    piece_length : (p : Piece) → length (words_of (on_packets f p)) ≡ length (words_of p)
    piece_length (Word w) = refl
    piece_length Marker = refl
    piece_length (Packet p) = long p

    piece_head : (p : Piece) → take 6 (words_of (on_packets f p)) ≡ take 6 (words_of p)
    piece_head (Word w) = refl
    piece_head Marker = refl
    piece_head (Packet p) = head p

    remade_length : (ps : List Piece) → length (remade ps) ≡ length (flat_map words_of ps)
    unfolding remade flat_map
    remade_length [] = refl
    remade_length (p ∷ ps) = simp length-append (ap₂ ◌+◌ (piece_length p) (remade_length ps))

    remade_head : (n : ℕ) (ps : List Piece) → n ≤ 6 → take n (remade ps) ≡ take n (flat_map words_of ps)
    unfolding remade flat_map
    remade_head n [] h = refl
    remade_head n (p ∷ ps) h =
        let a = words_of (on_packets f p) in
        let b = words_of p in
        let front : take n a ≡ take n b = sym (take-take n 6 a h) ∙ ap (take n) (piece_head p) ∙ take-take n 6 b h in
        rw (take_append n a (remade ps), take_append n b (flat_map words_of ps), front, piece_length p, remade_head (n - length b) ps (omega arith))

    -- what is made of a piece and of those after it starts with that piece, changed
    Kept : List ℕ → List ℕ → Piece → Type 0
    Kept ws z p = take 6 (words_of (on_packets f p) ++ z) ≡ take 6 ws → length (words_of (on_packets f p) ++ z) ≡ length ws → piece_at (words_of (on_packets f p) ++ z) ≡ on_packets f p

    piece_at_remade : (ws z : List ℕ) → Kept ws z (piece_at ws)
    unfolding Kept piece_at
    piece_at_remade ws z =
        piece_at_cases (Kept ws z) ws (λ m six l. word (marked_alike (get_or ws 0 0 ∷ z) ws six ∙ m))
        (λ m c six l. cut (marked_alike (marker ++ z) ws six ∙ m) (fits_alike (marker ++ z) ws six l ∙ c))
        (λ m c six l.
        let p = take (size_of ws) ws in
        piece_at-packet (f p) z (marked_alike (f p ++ z) ws six ∙ m)
        (size_alike (f p ++ z) ws six ∙ sym (long p ∙ length-take-le (size_of ws) ws (fits-room ws c).1)))
      where
        word : marked (get_or ws 0 0 ∷ z) ≡ false → piece_at (get_or ws 0 0 ∷ z) ≡ Word (get_or ws 0 0)
        word m = rw m

        cut : marked (marker ++ z) ≡ true → fits (marker ++ z) ≡ false → piece_at (marker ++ z) ≡ Marker
        cut m c = rw (m, c)

    scan_remade : (k : ℕ) (ws : List ℕ) → scan (remade (scan_from k ws)) ≡ map (on_packets f) (scan_from k ws)
    unfolding scan scan_from remade flat_map Kept
    scan_remade zero [] = refl
    scan_remade (suc k) [] = refl
    scan_remade (suc k) (w ∷ ws) = scan_remade k ws
    scan_remade zero (w ∷ ws) =
        let p = piece_at (w ∷ ws) in
        let ps = scan_from (length (words_of p) - 1) ws in
        let whole = words_of_scan (w ∷ ws) in
        scan_of_piece (on_packets f p) (remade ps)
        (piece_at_remade (w ∷ ws) (remade ps) (remade_head 6 (p ∷ ps) (omega arith) ∙ ap (take 6) whole) (remade_length (p ∷ ps) ∙ ap length whole))
        ∙ ap (λ (qs : List Piece). on_packets f p ∷ qs) (scan_remade (length (words_of p) - 1) ws)

    pub scan_of_changed : (made : Piece → List ℕ) → ((p : Piece) → made p ≡ words_of (on_packets f p))
        → (ws : List ℕ) → scan (flat_map made (scan ws)) ≡ map (on_packets f) (scan ws)
    unfolding scan remade flat_map
    scan_of_changed made e ws = ap scan (each (scan ws)) ∙ scan_remade 0 ws
      where
        each : (ps : List Piece) → flat_map made ps ≡ remade ps
        each [] = refl
        each (p ∷ ps) = ap₂ ◌++◌ (e p) (each ps)

-- Laws of mended: the scan of what was mended finds the same pieces with their checksums right, and mending again changes nothing.
use mathlib.Core.Path.{◌≡◌, refl, sym, ap, ap₂, ◌∙◌}
use mathlib.Core.Bool.{false, not}
use mathlib.Core.List.{List, [], ◌∷◌, ◌++◌, map, flat_map}
use Prim.Native.Nat.{ℕ, zero, suc, ◌+◌, ◌-◌, ◌%◌, ◌≤◌}
use native.Mathlib.Omega.{arith}
use lib.ListN.{length, get_or, take, drop, set, length-set}
use lib.Seq.{length-take-le, get_or-take, get_or-set_same, set-set, take-set-le, drop-set-add}
use borrow.Author.Tests.{eq-eqb}
use Rattle.parts.specs.Parts.{part, any}
use Rattle.scan.specs.Packet.{user_count, size_of, checksum_of, right_checksum, checksum_in}
use Rattle.scan.specs.Scan.{Piece, Word, Marker, Packet, words_of, piece_at, scan_from, scan, cut_piece, wrong_sum}
use Rattle.scan.proofs.Packets.{fits-room}
use Rattle.scan.proofs.Pieces.{piece_at_cases}
use Rattle.scan.proofs.Remade.{on_packets, scan_of_changed}
use Rattle.region.specs.Region.{mend_packet, mend_piece, mended}

-- ---- one packet

module _ (p : List ℕ) where
  mend_packet_head : take 6 (mend_packet p) ≡ take 6 p
  mend_packet_head = take-set-le 6 p (user_count p + 6) (right_checksum p) (omega arith)

  mend_packet_count : user_count (mend_packet p) ≡ user_count p
  mend_packet_count =
      ap (λ (w : ℕ). w % 256) (sym (get_or-take 6 (mend_packet p) 5 0 (omega arith)) ∙ ap (λ (l : List ℕ). get_or l 5 0) mend_packet_head ∙ get_or-take 6 p 5 0 (omega arith))

  mend_packet_sum : right_checksum (mend_packet p) ≡ right_checksum p
  mend_packet_sum =
      let u = user_count p in
      let e : u + 6 ≡ 3 + (u + 3) = omega arith in
      ap (λ (k : ℕ). checksum_of (part 3 (k + 3) (mend_packet p))) mend_packet_count
      ∙ ap (λ (k : ℕ). checksum_of (part 3 (u + 3) (set p k (right_checksum p)))) e
      ∙ ap (λ (l : List ℕ). checksum_of (take (u + 3) l)) (drop-set-add 3 p (u + 3) (right_checksum p))
      ∙ ap checksum_of (take-set-le (u + 3) (drop 3 p) (u + 3) (right_checksum p) (omega arith))

  mend_packet_again : mend_packet (mend_packet p) ≡ mend_packet p
  mend_packet_again =
      ap₂ (λ (k v : ℕ). set (mend_packet p) (k + 6) v) mend_packet_count mend_packet_sum ∙ set-set p (user_count p + 6) (right_checksum p) (right_checksum p)

  mend_packet_right : size_of p ≤ length p → wrong_sum (Packet (mend_packet p)) ≡ false
  mend_packet_right h =
      let has : checksum_in (mend_packet p) ≡ right_checksum (mend_packet p) =
      ap (λ (k : ℕ). get_or (mend_packet p) (k + 6) 0) mend_packet_count
      ∙ get_or-set_same p (user_count p + 6) (right_checksum p) 0 (omega arith)
      ∙ sym mend_packet_sum in
      ap not (eq-eqb (checksum_in (mend_packet p)) (right_checksum (mend_packet p)) has)

-- ---- a region

pub scan_of_mended : (l : List ℕ) → scan (mended l) ≡ map (on_packets mend_packet) (scan l)
unfolding mended
scan_of_mended l = scan_of_changed mend_packet (λ p. length-set p (user_count p + 6) (right_checksum p)) mend_packet_head mend_piece same l
  where
    same : (p : Piece) → mend_piece p ≡ words_of (on_packets mend_packet p)
    same (Word w) = refl
    same Marker = refl
    same (Packet p) = refl

pub mended_again : (l : List ℕ) → mended (mended l) ≡ mended l
unfolding mended flat_map
mended_again l = ap (flat_map mend_piece) (scan_of_mended l) ∙ each (scan l)
  where
    again : (p : Piece) → mend_piece (on_packets mend_packet p) ≡ mend_piece p
    again (Word w) = refl
    again Marker = refl
    again (Packet p) = mend_packet_again p

    each : (ps : List Piece) → flat_map mend_piece (map (on_packets mend_packet) ps) ≡ flat_map mend_piece ps
    each [] = refl
    each (p ∷ ps) = ap₂ ◌++◌ (again p) (each ps)

piece_at_right : (ws : List ℕ) → wrong_sum (on_packets mend_packet (piece_at ws)) ≡ false
piece_at_right ws =
    piece_at_cases (λ (p : Piece). wrong_sum (on_packets mend_packet p) ≡ false) ws (λ m. refl) (λ m c. refl)
    (λ m c.
    let n : ℕ = size_of ws in
    let size : size_of (take n ws) ≡ n = ap (λ (w : ℕ). w % 256 + 7) (get_or-take n ws 5 0 (omega arith)) in
    mend_packet_right (take n ws) (omega (arith, length-take-le n ws (fits-room ws c).1)))

pub mended_right : (l : List ℕ) → any wrong_sum (scan (mended l)) ≡ false
unfolding scan scan_from any
mended_right l = ap (any wrong_sum) (scan_of_mended l) ∙ from 0 l
  where
    from : (k : ℕ) (ws : List ℕ) → any wrong_sum (map (on_packets mend_packet) (scan_from k ws)) ≡ false
    from zero [] = refl
    from (suc k) [] = refl
    from (suc k) (w ∷ ws) = from k ws
    from zero (w ∷ ws) = rw (piece_at_right (w ∷ ws)) (from (length (words_of (piece_at (w ∷ ws))) - 1) ws)

pub mended_cut : (l : List ℕ) → any cut_piece (scan (mended l)) ≡ any cut_piece (scan l)
unfolding any
mended_cut l = ap (any cut_piece) (scan_of_mended l) ∙ each (scan l)
  where
    each : (ps : List Piece) → any cut_piece (map (on_packets mend_packet) ps) ≡ any cut_piece ps
    each [] = refl
    each (Word w ∷ ps) = each ps
    each (Marker ∷ ps) = refl
    each (Packet p ∷ ps) = each ps

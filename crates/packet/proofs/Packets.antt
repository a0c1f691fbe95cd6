-- Laws of a built packet: its layout, what is read back of it, and that the scan finds it whole.
use mathlib.Core.Path.{◌≡◌, sym, ap, ◌∙◌}
use mathlib.Core.Bool.{Bool, true, false, not, ◌||◌}
use mathlib.Core.List.{List, [], ◌∷◌, ◌++◌, append-nil, flat_map}
use Prim.Native.Nat.{ℕ, ◌+◌, ◌%◌, ◌≤◌, ◌<◌}
use native.Mathlib.Omega.{arith}
use lib.ListN.{length, get_or, take, set, length-append}
use lib.Seq.{take_at, get_or_at}
use borrow.Author.Tests.{eq-eqb}
use Rattle.parts.specs.Parts.{laid, any}
use Rattle.parts.proofs.Comparing.{same_refl}
use Rattle.parts.proofs.Laid.{laid_of_append}
use Rattle.scan.specs.Packet.{marker, marked, size_of, user_count, checksum_of, summed, checksum_in}
use Rattle.scan.specs.Scan.{Piece, Packet, words_of, scan, wrong_sum}
use Rattle.scan.proofs.Remade.{settled, unsettled, scan_of_settled}
use Rattle.packet.specs.Build.{header_word, body_of, packet_of}
use Rattle.packet.proofs.Words.{header_low}

module _ (did sdid : ℕ) (user : List ℕ) where
  -- ---- laid in four steps

  pub packet-laid : (out : List ℕ) → laid 0 (packet_of did sdid user) out
      ≡ set (laid 6 user (laid 3 (header_word did ∷ header_word sdid ∷ header_word (length user) ∷ []) (laid 0 (0x000 ∷ 0x3ff ∷ 0x3ff ∷ []) out)))
      (length user + 6) (checksum_of (body_of did sdid user))
  unfolding packet_of laid
  packet-laid out =
      let headed = laid 3 (header_word did ∷ header_word sdid ∷ header_word (length user) ∷ []) (laid 0 (0x000 ∷ 0x3ff ∷ 0x3ff ∷ []) out) in
      let end : 6 + length user ≡ length user + 6 = omega arith in
      laid_of_append 6 user (checksum_of (body_of did sdid user) ∷ []) headed
      ∙ ap (λ (n : ℕ). set (laid 6 user headed) n (checksum_of (body_of did sdid user))) end

  -- ---- its length, its start, its size

  pub length-packet : length (packet_of did sdid user) ≡ length user + 7
  unfolding packet_of
  length-packet = simp length-append (omega arith)

  pub packet-marked : marked (packet_of did sdid user) ≡ true
  unfolding packet_of marked
  packet-marked = same_refl marker

  -- ---- its bytes

  pub packet_did : did < 256 → get_or (packet_of did sdid user) 3 0 % 256 ≡ did
  unfolding packet_of
  packet_did h = header_low did h

  pub packet_sdid : sdid < 256 → get_or (packet_of did sdid user) 4 0 % 256 ≡ sdid
  unfolding packet_of
  packet_sdid h = header_low sdid h

  module _ (few : length user ≤ 255) where
    pub packet-count : user_count (packet_of did sdid user) ≡ length user
    unfolding packet_of
    packet-count = header_low (length user) (omega arith)

    pub packet_size : size_of (packet_of did sdid user) ≡ length (packet_of did sdid user)
    packet_size = ap (λ (n : ℕ). n + 7) packet-count ∙ sym length-packet

    -- ---- its checksum

    packet-summed : summed (packet_of did sdid user) ≡ body_of did sdid user
    unfolding packet_of
    packet-summed =
        ap (λ (n : ℕ). take (n + 3) (body_of did sdid user ++ (checksum_of (body_of did sdid user) ∷ []))) packet-count
        ∙ take_at (body_of did sdid user) (checksum_of (body_of did sdid user) ∷ []) (length user + 3) (omega arith)

    packet_checksum : checksum_in (packet_of did sdid user) ≡ checksum_of (body_of did sdid user)
    unfolding packet_of
    packet_checksum =
        ap (λ (n : ℕ). get_or (packet_of did sdid user) (n + 6) 0) packet-count
        ∙ get_or_at (marker ++ body_of did sdid user) (checksum_of (body_of did sdid user)) [] 0 (length user + 6) (omega arith)

    pub packet_sum_right : wrong_sum (Packet (packet_of did sdid user)) ≡ false
    packet_sum_right = ap not (eq-eqb _ _ (packet_checksum ∙ sym (ap checksum_of packet-summed)))

    -- ---- found whole by the scan, after whole packets and words that start none

    packet_settled : settled (Packet (packet_of did sdid user)) ≡ true
    packet_settled = rw (packet-marked, eq-eqb _ _ (sym packet_size))

    pub packet-found : (ps : List Piece) (z : List ℕ) → any unsettled ps ≡ false
        → scan (flat_map words_of ps ++ (packet_of did sdid user ++ z)) ≡ ps ++ (Packet (packet_of did sdid user) ∷ scan z)
    unfolding any flat_map
    packet-found ps z s =
        let p = packet_of did sdid user in
        let alone : scan (p ++ [] ++ z) ≡ Packet p ∷ scan z = scan_of_settled (Packet p ∷ []) z (ap (λ (b : Bool). not b || false) packet_settled) in
        scan_of_settled ps (p ++ z) s ∙ ap (λ (qs : List Piece). ps ++ qs) (rw append-nil at alone)

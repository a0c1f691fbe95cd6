-- A packet that is built, laid into the blanking of Y after whole packets of which none is wanted, and found again.
use mathlib.Core.Path.{◌≡◌, refl, sym, ap, ap₂, ◌∙◌}
use mathlib.Core.Bool.{Bool, true, not}
use mathlib.Core.List.{List, [], ◌∷◌, ◌++◌, flat_map, map}
use Prim.Native.Nat.{ℕ, ◌+◌, ◌-◌, ◌*◌, ◌≤◌, ◌<◌}
use native.Mathlib.Omega.{arith}
use lib.Dec.{eqb}
use lib.ListN.{drop, length, length-drop, take}
use lib.Seq.{length-take-le, take-append-add}
use borrow.Author.Tests.{eq-eqb, not-false}
use Rattle.std.specs.Prelude.{Result, Ok, Err}
use Rattle.bits.specs.Bits.{bits, digit, parity}
use Rattle.bits.specs.Words.{words10}
use Rattle.bits.proofs.Words.{nine_range, tens_append, words10_cons}
use Rattle.refusal.specs.declared.Refusal.{Refusal}
use Rattle.refusal.specs.Refusal.{number_of, refusal_of, result_of}
use Rattle.refusal.proofs.Answers.{refusal_of_result, result_of_err, result_of_ok}
use Rattle.parts.specs.Parts.{end_to_end, laid, laid_unless, part, same}
use Rattle.parts.proofs.Comparing.{any_of_map, same_refl}
use Rattle.parts.proofs.Laid.{drop_to_laid, laid_split, length-laid, part_over_laid, unless_refused-refused}
use Rattle.scan.specs.Packet.{checksum_in, checksum_of, right_checksum}
use Rattle.scan.specs.Scan.{Packet, scan, words_of}
use Rattle.scan.proofs.Remade.{settled_packets, words_of_packets}
use Rattle.plan.specs.declared.Plan.{Plan}
use Rattle.plan.specs.Plan.{plan_of}
use Rattle.plan.specs.Refusal.{or_refusal, row_refusal}
use Rattle.plan.proofs.Plans.{plan_of-fits}
use Rattle.plan.proofs.Rows.{RowFits, or_refusal_first, row_refusal_below, row_refusal_ok}
use Rattle.region.specs.Ancillary.{ancillary, blanking_of}
use Rattle.packet.specs.Build.{body_of, built, build_refusal, header_word, packet_of}
use Rattle.packet.proofs.Packets.{length-packet, packet_did, packet-marked, packet_sdid, packet_size, packet_sum_right}
use Rattle.packet.proofs.Refusals.{build_refusal_below, lawful_of_built}
use Rattle.finding.specs.Find.{find_of, found, wanted}
use Rattle.finding.proofs.Finding.{find_of-found, found_of_ancillary, found_of_laid, or_else_first}
use Rattle.law_row.specs.Lawful.{right_packet}
use Rattle.law_row.proofs.Calm.{right_packet_parts, whole_packets}
use Rattle.law_row.specs.Laid.{PlaceAfter}
use Rattle.law_row.proofs.Checked.{row_taken}
use Rattle.law_row.proofs.Tens.{checksum_ten, tens_laid}

-- ---- words laid inside a part, after its first n words

part_of_laid : (from count n : ℕ) (ws buffer : List ℕ) → n + length ws ≤ count → from + count ≤ length buffer
    → part from count (laid (from + n) ws buffer)
    ≡ part from n buffer ++ (ws ++ take (count - (n + length ws)) (drop (n + length ws) (drop from buffer)))
part_of_laid from count n ws buffer inside room =
    let z = drop from buffer in
    let k = count - (n + length ws) in
    let rest = drop (n + length ws) z in
    let long : length z ≡ length buffer - from = length-drop from buffer in
    let first : length (take n z) ≡ n = length-take-le n z (omega arith) in
    let whole : count ≡ length (take n z) + (length ws + k) = omega arith in
    ap (take count) (drop_to_laid from n ws buffer ∙ laid_split n ws z (omega arith))
    ∙ ap (λ (m : ℕ). take m (take n z ++ (ws ++ rest))) whole
    ∙ take-append-add (take n z) (ws ++ rest) (length ws + k)
    ∙ ap (λ (l : List ℕ). take n z ++ l) (take-append-add ws rest k)

-- ---- the packet's words

header_ten : (byte : ℕ) → header_word byte ≤ 0x3ff
unfolding header_word
header_ten byte = omega (arith, nine_range (byte + digit (parity (bits 8 byte)) * 256))

module _ (did sdid : ℕ) (user : List ℕ) where
  abbrev packet : List ℕ
  packet = packet_of did sdid user

  packet_tens : words10 user ≡ true → words10 packet ≡ true
  unfolding packet_of words10
  packet_tens t =
      let sum = checksum_of (body_of did sdid user) ∷ [] in
      let rest = header_word (length user) ∷ (user ++ sum) in
      words10_cons (header_word did) (header_word sdid ∷ rest) (header_ten did)
      (words10_cons (header_word sdid) rest (header_ten sdid)
      (words10_cons (header_word (length user)) (user ++ sum) (header_ten (length user))
      (tens_append user sum t (words10_cons (checksum_of (body_of did sdid user)) [] (checksum_ten (body_of did sdid user)) refl))))

  pub packet_right : length user ≤ 255 → right_packet packet ≡ true
  packet_right few =
      let sum : eqb (checksum_in packet) (right_checksum packet) ≡ true = not-false _ (packet_sum_right did sdid user few) in
      rw (packet-marked did sdid user, eq-eqb _ _ (sym (packet_size did sdid user few)), sum)

  packet-wanted : did < 256 → sdid < 256 → wanted did sdid (Packet packet) ≡ true
  packet-wanted d s = rw (eq-eqb _ did (packet_did did sdid user d), eq-eqb _ sdid (packet_sdid did sdid user s))

-- ---- the packet found

module _ (code line did sdid : ℕ) (user y c : List ℕ) (packets : List (List ℕ)) where
  abbrev plan : Plan
  plan = plan_of code line

  abbrev words : List ℕ
  words = packet_of did sdid user

  module _ (fits : RowFits code line y c) (few : length user ≤ 255) (d : did < 256) (s : sdid < 256) (at : ℕ)
      (placed : PlaceAfter code line did sdid user y at packets) where
    found_in_blanking : found did sdid (scan (blanking_of plan (laid at words y))) ≡ words
    found_in_blanking =
        let p = plan_of-fits code line fits.ok in
        let n = length (end_to_end packets) in
        let long = length-packet did sdid user in
        let inside : n + length words ≤ plan.places.blanks = omega (arith, placed.room) in
        let wide : plan.places.blank + plan.places.blanks ≤ length y = omega (arith, fits.y_length, p.blank, p.sav, p.active, p.total) in
        let ps = map Packet packets in
        let z = take (plan.places.blanks - (n + length words)) (drop (n + length words) (drop plan.places.blank y)) in
        let laid_there : blanking_of plan (laid at words y) ≡ flat_map words_of ps ++ (words ++ z) =
        ap (λ (k : ℕ). blanking_of plan (laid k words y)) placed.place
        ∙ part_of_laid plan.places.blank plan.places.blanks n words y inside wide
        ∙ ap (λ (l : List ℕ). l ++ (words ++ z)) (placed.others ∙ sym (words_of_packets packets)) in
        ap (λ (l : List ℕ). found did sdid (scan l)) laid_there
        ∙ found_of_laid did sdid ps words z (settled_packets packets (whole_packets packets placed.right))
        (any_of_map (wanted did sdid) Packet packets ∙ placed.unwanted)
        (right_packet_parts words (ap not (packet_right did sdid user few))).0 (packet-wanted did sdid user d s)

    packet-found : words10 user ≡ true → find_of code line did sdid (laid at words y) c ≡ words
    packet-found t =
        let after = laid at words y in
        let some : 0 < length words = omega (arith, length-packet did sdid user) in
        let row : RowFits code line after c =
        record {
          ok = fits.ok;
          y_length = length-laid at words y ∙ fits.y_length;
          c_length = fits.c_length;
          y_words = tens_laid at words y (packet_tens did sdid user t) fits.y_words;
          c_words = fits.c_words;
        } in
        let in_y : words ≡ found did sdid (ancillary plan after) =
        or_else_first words _ _ (sym found_in_blanking) some ∙ sym (found_of_ancillary did sdid plan after) in
        find_of-found did sdid code line after c (row_taken code line after c row) ∙ sym (or_else_first words _ _ in_y some)

-- ---- the calls, one after the other

module _ (did sdid : ℕ) (user out : List ℕ) {made : Result ℕ Refusal} (b : made ≡ built did user (length out)) where
  pub made_number : refusal_of made ≡ build_refusal did user (length out)
  unfolding built
  made_number = ap refusal_of b ∙ refusal_of_result (length user + 7) (build_refusal did user (length out)) (build_refusal_below did user (length out))

  -- words are written exactly where nothing is refused
  pub made_words : {words : ℕ} → made ≡ Ok words → (build_refusal did user (length out) ≡ 0) × (words ≡ length user + 7)
  unfolding built
  made_words done = result_of_ok (length user + 7) (build_refusal did user (length out)) (sym b ∙ done)

  -- .. and the first of the output are the packet
  pub made_packet : {words : ℕ} {out_after whole : List ℕ} → out_after ≡ laid_unless (build_refusal did user (length out)) (packet_of did sdid user) out
      → whole ≡ part 0 words out_after → made ≡ Ok words → whole ≡ packet_of did sdid user
  made_packet o w done =
      let p = packet_of did sdid user in
      let long = length-packet did sdid user in
      let told = made_words done in
      let room = (lawful_of_built did user (length out) told.0).1 in
      w ∙ ap₂ (part 0) told.1 (o ∙ ap (λ (n : ℕ). laid_unless n p out) told.0)
      ∙ part_over_laid 0 (length user + 7) p out (long ∙ sym (length-take-le (length user + 7) out room))

module _ (code line did sdid : ℕ) (user out y c : List ℕ) where
  abbrev refusal : ℕ
  refusal = build_refusal did user (length out)

  -- the row is refused first
  pub sought_refused : {A : Type 0} (work : A) {row : Result A Refusal} {why : Refusal} → row ≡ result_of (row_refusal code line y c) work
      → row ≡ Err why → number_of why ≡ or_refusal (row_refusal code line y c) refusal
  sought_refused work e bad =
      let number = row_refusal code line y c in
      sym (ap refusal_of bad) ∙ ap refusal_of e ∙ refusal_of_result work number (row_refusal_below code line y c)
      ∙ sym (or_refusal_first number refusal (result_of_err work number (sym e ∙ bad)).0)

  module _ {made : Result ℕ Refusal} (b : made ≡ built did user (length out)) where
    pub sought_number : row_refusal code line y c ≡ 0 → refusal_of made ≡ or_refusal (row_refusal code line y c) refusal
    sought_number free = made_number did sdid user out b ∙ rw free

    pub sought_kept : {out_after : List ℕ} {why : Refusal} → out_after ≡ laid_unless refusal (packet_of did sdid user) out → made ≡ Err why → out_after ≡ out
    unfolding built
    sought_kept o bad = o ∙ unless_refused-refused refusal _ out (result_of_err (length user + 7) refusal (sym b ∙ bad)).0

    module _
        (at : ℕ)
        {words : ℕ}
        {out_after whole y_after : List ℕ}
        (o : out_after ≡ laid_unless refusal (packet_of did sdid user) out)
        (w : whole ≡ part 0 words out_after)
        (l : y_after ≡ laid at whole y)
      where
        pub sought_found : {there : List ℕ} {alike : Bool} → there ≡ find_of code line did sdid y_after c → alike ≡ same there whole
            → did < 256 → sdid < 256 → row_refusal code line y c ≡ 0 → made ≡ Ok words
            → (packets : List (List ℕ)) → PlaceAfter code line did sdid user y at packets → alike ≡ true
        sought_found f a d s free done packets placed =
            let p = packet_of did sdid user in
            let e = made_packet did sdid user out b o w done in
            let lawful = (lawful_of_built did user (length out) (made_words did sdid user out b done).0).0 in
            let there_is = packet-found code line did sdid user y c packets (row_refusal_ok code line y c free) lawful.few d s at placed lawful.words in
            let same_there = f ∙ ap (λ (l : List ℕ). find_of code line did sdid l c) (l ∙ ap (λ (ws : List ℕ). laid at ws y) e) ∙ there_is in
            a ∙ ap₂ same same_there e ∙ same_refl p

-- Words of at most 3FF: laid, and made from the pieces of a scan.
use mathlib.Core.Path.{◌≡◌, sym, ap, ◌∙◌}
use mathlib.Core.Bool.{Bool, true, false}
use mathlib.Core.List.{List, [], ◌∷◌, flat_map}
use Prim.Native.Nat.{ℕ, suc, ◌+◌, ◌%◌, ◌≤◌}
use native.Mathlib.Omega.{arith}
use lib.ListN.{length, take, set}
use lib.Seq.{take-append_seam, drop-append_seam}
use Rattle.bits.specs.Choice.{if}
use Rattle.bits.specs.Words.{words10}
use Rattle.bits.proofs.Words.{nine_range, tens_append, tens_blanks, tens_drop, tens_set, tens_take, words10_head, words10_tail}
use Rattle.parts.specs.Parts.{in_part, laid, part}
use Rattle.scan.specs.Packet.{checksum_of, right_checksum, sum_of, summed, user_count}
use Rattle.scan.specs.Scan.{Piece, Word, Marker, Packet, scan, words_of}
use Rattle.scan.proofs.Remade.{words_of_scan}
use Rattle.plan.specs.declared.Plan.{Plan}
use Rattle.region.specs.Ancillary.{in_regions}
use Rattle.region.specs.Region.{mend_piece, mended, wipe_piece, wiped}

pub tens_laid : (at : ℕ) (ws buffer : List ℕ) → words10 ws ≡ true → words10 buffer ≡ true → words10 (laid at ws buffer) ≡ true
unfolding laid
tens_laid at [] buffer t b = b
tens_laid at (w ∷ ws) buffer t b = tens_laid (suc at) ws (set buffer at w) (words10_tail w ws t) (tens_set buffer at w (words10_head w ws t) b)

-- ---- pieces, each made into words of at most 3FF

module _ (f : Piece → List ℕ) (each : (p : Piece) → words10 (words_of p) ≡ true → words10 (f p) ≡ true) where
  tens_pieces : (ps : List Piece) → words10 (flat_map words_of ps) ≡ true → words10 (flat_map f ps) ≡ true
  unfolding flat_map
  tens_pieces [] t = t
  tens_pieces (p ∷ ps) t =
      let first = ap words10 (sym (take-append_seam (words_of p) (flat_map words_of ps))) ∙ tens_take (length (words_of p)) _ t in
      let rest = ap words10 (sym (drop-append_seam (words_of p) (flat_map words_of ps))) ∙ tens_drop (length (words_of p)) _ t in
      tens_append (f p) (flat_map f ps) (each p first) (tens_pieces ps rest)

  tens_scan : (ws : List ℕ) → words10 ws ≡ true → words10 (flat_map f (scan ws)) ≡ true
  tens_scan ws t = tens_pieces (scan ws) (ap words10 (words_of_scan ws) ∙ t)

pub checksum_ten : (ws : List ℕ) → checksum_of ws ≤ 0x3ff
unfolding checksum_of
checksum_ten ws = omega (arith, nine_range (sum_of ws % 512))

mend_tens : (p : Piece) → words10 (words_of p) ≡ true → words10 (mend_piece p) ≡ true
mend_tens (Word w) t = t
mend_tens Marker t = t
mend_tens (Packet p) t = tens_set p (user_count p + 6) (right_checksum p) (checksum_ten (summed p)) t

wipe_tens : (blank : ℕ) → blank ≤ 0x3ff → (p : Piece) → words10 (words_of p) ≡ true → words10 (wipe_piece blank p) ≡ true
wipe_tens blank h (Word w) t = t
wipe_tens blank h Marker t = t
wipe_tens blank h (Packet p) t = tens_blanks (length p) blank h

pub tens_mended : (ws : List ℕ) → words10 ws ≡ true → words10 (mended ws) ≡ true
unfolding mended
tens_mended = tens_scan mend_piece mend_tens

pub tens_wiped : (blank : ℕ) → blank ≤ 0x3ff → (ws : List ℕ) → words10 ws ≡ true → words10 (wiped blank ws) ≡ true
unfolding wiped
tens_wiped blank h = tens_scan (wipe_piece blank) (wipe_tens blank h)

-- ---- regions changed

module _ (f : List ℕ → List ℕ) (each : (ws : List ℕ) → words10 ws ≡ true → words10 (f ws) ≡ true) where
  tens_in_part : (from count : ℕ) (ws : List ℕ) → words10 ws ≡ true → words10 (in_part from count f ws) ≡ true
  unfolding in_part
  tens_in_part from count ws t =
      tens_append (take from ws) _ (tens_take from ws t)
      (tens_append (f (part from count ws)) _ (each (part from count ws) (tens_take count _ (tens_drop from ws t)))
      (tens_drop count _ (tens_drop from ws t)))

  pub tens_in_regions : (p : Plan) (ws : List ℕ) → words10 ws ≡ true → words10 (in_regions p f ws) ≡ true
  unfolding in_regions
  tens_in_regions p ws t = go p.v
    where
      blanking : List ℕ
      blanking = in_part p.places.blank p.places.blanks f ws

      tens : words10 blanking ≡ true
      tens = tens_in_part p.places.blank p.places.blanks ws t

      go : (v : Bool) → words10 (if v (in_part p.places.active p.places.count f blanking) blanking) ≡ true
      go true = tens_in_part p.places.active p.places.count blanking tens
      go false = tens

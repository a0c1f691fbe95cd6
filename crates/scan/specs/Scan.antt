-- "Each region of each channel is scanned alone, left to right": what stands in a region, piece after piece.
use Rattle.std.specs.Prelude.{Bool, true, false, not, ℕ, zero, suc, ◌+◌, ◌-◌, eqb, length, get_or, take, Option, None, Some}
use Rattle.std.specs.declared.ops.Range.{Range}
use mathlib.Core.List.{List, [], ◌∷◌, flat_map}
use Rattle.bits.specs.Choice.{if}
use Rattle.parts.specs.Parts.{any}
use Rattle.scan.specs.declared.Here.{Here}
use Rattle.scan.specs.declared.Here.TheVariants.{Nothing, Cut, Whole}
use Rattle.scan.specs.declared.Scanned.{Scanned}
use Rattle.scan.specs.Packet.{marker, marked, fits, size_of, right_checksum, checksum_in}

-- a word where no packet starts; the first three words of a cut packet; a whole packet, "from its 000 to its checksum"
pub data Piece : Type 0 where
  Word : ℕ → Piece
  Marker : Piece
  Packet : List ℕ → Piece

-- the words of a piece
abbrev pub words_of : Piece → List ℕ
words_of (Word w) = w ∷ []
words_of Marker = marker
words_of (Packet p) = p

-- the piece at the start of these words
unfoldable pub piece_at : List ℕ → Piece
piece_at ws = if (marked ws) (if (fits ws) (Packet (take (size_of ws) ws)) Marker) (Word (get_or ws 0 0))

-- the pieces after the next k words, which belong to the piece before: "scanning goes on after its first three words. After a
-- whole packet it goes on after the checksum."
unfoldable pub scan_from : ℕ → List ℕ → List Piece
scan_from k [] = []
scan_from (suc k) (w ∷ ws) = scan_from k ws
scan_from zero (w ∷ ws) = piece_at (w ∷ ws) ∷ scan_from (length (words_of (piece_at (w ∷ ws))) - 1) ws

-- the pieces of a region
unfoldable pub scan : List ℕ → List Piece
scan region = scan_from 0 region

-- "cut packet"
abbrev pub cut_piece : Piece → Bool
cut_piece (Word w) = false
cut_piece Marker = true
cut_piece (Packet p) = false

-- "Every comparison, of CRC and checksum words too, is of all ten bits."
abbrev pub wrong_sum : Piece → Bool
wrong_sum (Word w) = false
wrong_sum Marker = false
wrong_sum (Packet p) = not (eqb (checksum_in p) (right_checksum p))

-- the words of whole packets: "all whole packets .., in order, end to end"
abbrev pub packet_words : Piece → List ℕ
packet_words (Word w) = []
packet_words Marker = []
packet_words (Packet p) = p

unfoldable pub packets_of : List Piece → List ℕ
packets_of ps = flat_map packet_words ps

-- what is told of pieces: how many words their whole packets have, whether a packet is cut, whether a checksum is wrong
abbrev pub scanned : List Piece → Scanned
scanned ps =
    record {
      words = length (packets_of ps);
      cut = any cut_piece ps;
      wrong = any wrong_sum ps;
    }

-- what is told of the piece at a place: none starts there, a cut packet, a whole one of so many words
abbrev pub here_of : Piece → Here
here_of (Word w) = Nothing
here_of Marker = Cut
here_of (Packet p) = Whole (length p)

-- where the first whole packet stands, of pieces that stand from a place on
unfoldable pub next_packet : ℕ → List Piece → Option (Range ℕ)
next_packet at [] = None
next_packet at (Word w ∷ ps) = next_packet (at + 1) ps
next_packet at (Marker ∷ ps) = next_packet (at + 3) ps
next_packet at (Packet p ∷ ps) = Some (record { start = at; end = at + length p })

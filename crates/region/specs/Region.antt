-- A region's packets changed: their checksums made right, or the packets wiped. All else stays.
use mathlib.Core.List.{List, [], ◌∷◌, flat_map}
use Rattle.std.specs.Prelude.{ℕ, ◌+◌, ◌≡◌, length, replicate, set}
use Rattle.std.specs.Fn.{Shared}
use Rattle.std.specs.Borrow.{MutBor}
use Rattle.scan.specs.Packet.{marker, user_count, right_checksum}
use Rattle.scan.specs.Scan.{Piece, Word, Marker, Packet, scan}

-- a piece with a packet's words changed by f
abbrev pub change_piece : (List ℕ → List ℕ) → Piece → List ℕ
change_piece f (Word w) = w ∷ []
change_piece f Marker = marker
change_piece f (Packet p) = f p

-- every whole packet that the scan finds, changed by f
abbrev pub changed : (List ℕ → List ℕ) → List ℕ → List ℕ
changed f region = flat_map (change_piece f) (scan region)

-- a call leaves f of the words that it is lent
abbrev pub ChangesBy : {F : Type 0} → Shared F (MutBor (List ℕ) × Unit {0}) (Unit {0} × (MutBor (List ℕ) × Unit {0})) → F → (List ℕ → List ℕ) → Type 0
ChangesBy g change f = (lent left : MutBor (List ℕ)) → g.post change (lent, tt) (tt, (left, tt)) → left.now ≡ f lent.now

-- a packet with its checksum right
abbrev pub mend_packet : List ℕ → List ℕ
mend_packet p = set p (user_count p + 6) (right_checksum p)

abbrev pub mend_piece : Piece → List ℕ
mend_piece p = change_piece mend_packet p

-- "Correction writes .. checksums": of every whole packet that the scan finds
unfoldable pub mended : List ℕ → List ℕ
mended region = changed mend_packet region

-- a packet overwritten
abbrev pub wipe_packet : ℕ → List ℕ → List ℕ
wipe_packet blank p = replicate (length p) blank

abbrev pub wipe_piece : ℕ → Piece → List ℕ
wipe_piece blank p = change_piece (wipe_packet blank) p

-- "the whole packets that one scan finds are first overwritten with blanking"
unfoldable pub wiped : ℕ → List ℕ → List ℕ
wiped blank region = changed (wipe_packet blank) region

-- Finding a packet.
use Rattle.std.specs.Prelude.{Bool, false, ◌&&◌, List, [], ◌∷◌, ◌++◌, Option, MatchOption, ℕ, ◌%◌, ◌<◌, ◌≡◌, eqb, get_or, length}
use Rattle.std.specs.Borrow.{Bor}
use Rattle.bits.specs.Choice.{if}
use Rattle.parts.specs.Parts.{unless_refused}
use Rattle.scan.specs.Scan.{Piece, Word, Marker, Packet, words_of}
use Rattle.plan.specs.Plan.{plan_of}
use Rattle.plan.specs.Refusal.{row_refusal}
use Rattle.region.specs.Ancillary.{ancillary}

-- "A packet is found by its DID and SDID bytes."
abbrev pub wanted : ℕ → ℕ → Piece → Bool
wanted did sdid (Word w) = false
wanted did sdid Marker = false
wanted did sdid (Packet p) = eqb (get_or p 3 0 % 256) did && eqb (get_or p 4 0 % 256) sdid

-- "The first whole packet with a wanted pair, .. from its 000 to its checksum"; "if none, an empty part of Y": what a part holds,
-- not where it lies
unfoldable pub found : ℕ → ℕ → List Piece → List ℕ
found did sdid [] = []
found did sdid (p ∷ ps) = if (wanted did sdid p) (words_of p) (found did sdid ps)

-- a part that was found has these words, at least one; where none was, they are none
abbrev pub IsFound : Option (Bor (List ℕ)) → List ℕ → Type 0
IsFound part words = MatchOption part (words ≡ []) (λ packet. (packet.now ≡ words) × (0 < length packet.now))

-- "Y before C"; nothing where the call is refused
unfoldable pub find_of : ℕ → ℕ → ℕ → ℕ → List ℕ → List ℕ → List ℕ
find_of code line did sdid y c =
    unless_refused (row_refusal code line y c)
    (found did sdid (ancillary (plan_of code line) y ++ ancillary (plan_of code line) c))
    []

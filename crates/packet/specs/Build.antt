-- Building a packet.
use Rattle.std.specs.Prelude.{Bool, not, ◌&&◌, List, [], ◌∷◌, ◌++◌, Result, ℕ, ◌+◌, ◌*◌, leb, eqb, length}
use Rattle.bits.specs.Choice.{if}
use Rattle.bits.specs.Bits.{digit, bits, parity}
use Rattle.bits.specs.Words.{words10, reserved_code, nine_of}
use Rattle.refusal.specs.declared.Refusal.{Refusal}
use Rattle.refusal.specs.Refusal.{result_of}
use Rattle.parts.specs.Parts.{any}
use Rattle.scan.specs.Packet.{marker, checksum_of}

-- "DID, SDID and DC carry a byte, bit 8 making the ones in bits 8..0 even, bit 9 its inverse."
unfoldable pub header_word : ℕ → ℕ
header_word byte = nine_of (byte + digit (parity (bits 8 byte)) * 256)

-- "DID, SDID, DC, then .. user words"
abbrev pub body_of : ℕ → ℕ → List ℕ → List ℕ
body_of did sdid user = header_word did ∷ header_word sdid ∷ header_word (length user) ∷ user

-- "000 3FF 3FF, DID, SDID, DC, then DC's low eight bits' worth of user words, then a checksum"
unfoldable pub packet_of : ℕ → ℕ → List ℕ → List ℕ
packet_of did sdid user = marker ++ (body_of did sdid user ++ (checksum_of (body_of did sdid user) ∷ []))

-- "6: in building a packet: DID byte 00, over 255 user words, or a reserved user word"
abbrev pub buildable : ℕ → List ℕ → Bool
buildable did user = not (eqb did 0) && (leb (length user) 255 && not (any reserved_code user))

-- "1: output .. too short for the result"; "Order where several apply: .., 3, 6, .., 1."
unfoldable pub build_refusal : ℕ → List ℕ → ℕ → ℕ
build_refusal did user room =
    if (words10 user) (if (buildable did user) (if (leb (length user + 7) room) 0 1) 6) 3

-- how many words were written
unfoldable pub built : ℕ → List ℕ → ℕ → Result ℕ Refusal
built did user room = result_of (build_refusal did user room) (length user + 7)

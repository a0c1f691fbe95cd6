-- Laws of the refusals of building.
use mathlib.Core.Path.{◌≡◌, refl, ◌∙◌}
use mathlib.Core.Bool.{true, false, not}
use mathlib.Core.List.{List, [], ◌∷◌}
use Prim.Native.Nat.{ℕ, zero, suc, ◌+◌, ◌≤◌, ◌<◌}
use lib.Dec.{leb, eqb}
use native.Mathlib.Omega.{arith}
use lib.ListN.{length, drop}
use borrow.Author.Tests.{le-leb, lt-leb, ne_eqb, leb-true, eqb-false, not-true}
use Rattle.bits.specs.Choice.{if}
use Rattle.bits.specs.Words.{words10, reserved_code}
use Rattle.bits.proofs.Choice.{and-true, if_zero}
use Rattle.std.specs.Prelude.{Err}
use Rattle.refusal.specs.Refusal.{refusal_numbered, refusal_of, result_of}
use Rattle.refusal.proofs.Answers.{refusal_of_result, if_below}
use Rattle.parts.specs.Parts.{any, laid_unless}
use Rattle.parts.proofs.Comparing.{any_of_append}
use Rattle.scan.specs.Packet.{checksum_of}
use Rattle.scan.proofs.Packets.{checksum_not_reserved}
use Rattle.packet.specs.Build.{body_of, packet_of, buildable, build_refusal}
use Rattle.packet.proofs.Words.{header_not_reserved}

pub record Lawful (did : ℕ) (user : List ℕ) : Type 0 where
  pub words : words10 user ≡ true
  pub some : did ≡ 0 → ⊥
  pub few : length user ≤ 255
  pub free : any reserved_code user ≡ false

pub lawful : (did : ℕ) (user : List ℕ) → words10 user ≡ true → buildable did user ≡ true → Lawful did user
lawful did user words can =
    let some = and-true (not (eqb did 0)) _ can in
    let few = and-true (leb (length user) 255) _ some.1 in
    record {
      words = words;
      some = eqb-false did 0 (not-true (eqb did 0) some.0);
      few = leb-true (length user) 255 few.0;
      free = not-true (any reserved_code user) few.1;
    }

module _ (did : ℕ) (user : List ℕ) (room : ℕ) where
  refusal_of_lawful : Lawful did user → build_refusal did user room ≡ if (leb (length user + 7) room) 0 1
  unfolding build_refusal
  refusal_of_lawful l = rw (l.words, ne_eqb did 0 l.some, le-leb (length user) 255 l.few, l.free)

  pub refusal_of_short : Lawful did user → room < length user + 7 → build_refusal did user room ≡ 1
  refusal_of_short l h = refusal_of_lawful l ∙ rw (lt-leb (length user + 7) room h)

  pub refusal_of_room : Lawful did user → length user + 7 ≤ room → build_refusal did user room ≡ 0
  refusal_of_room l h = refusal_of_lawful l ∙ rw (le-leb (length user + 7) room h)

  pub build_refusal_below : build_refusal did user room < 8
  unfolding build_refusal
  build_refusal_below =
      if_below (words10 user) _ 3
      (if_below (buildable did user) _ 6 (if_below (leb (length user + 7) room) 0 1 (omega arith) (omega arith)) (omega arith))
      (omega arith)

  -- what is built is lawful and has room
  pub lawful_of_built : build_refusal did user room ≡ 0 → Lawful did user × (length user + 7 ≤ room)
  unfolding build_refusal
  lawful_of_built e =
      let w = if_zero (words10 user) _ 2 e in
      let d = if_zero (buildable did user) _ 5 w.1 in
      (lawful did user w.0 d.0, leb-true (length user + 7) room (if_zero (leb (length user + 7) room) 0 0 d.1).0)

  -- .. and no word of it after the 000 3FF 3FF is a reserved code
  pub packet_free : (sdid : ℕ) → build_refusal did user room ≡ 0 → any reserved_code (drop 3 (packet_of did sdid user)) ≡ false
  unfolding packet_of any
  packet_free sdid e =
      let sum = checksum_of (body_of did sdid user) in
      rw (
        header_not_reserved did,
        header_not_reserved sdid,
        header_not_reserved (length user),
        any_of_append reserved_code user (sum ∷ []),
        (lawful_of_built e).0.free,
        checksum_not_reserved (body_of did sdid user),
      )

-- ---- what a refusal answers, and the buffer that it leaves

pub refused : (n : ℕ) (user packet out : List ℕ) → (n ≡ 0 → ⊥)
    → (result_of n (length user + 7) ≡ Err (refusal_numbered n)) × (n < 8 → refusal_of (result_of n (length user + 7)) ≡ n) × (out ≡ laid_unless n packet out)
refused zero user packet out h = absurd (h refl)
refused (suc n) user packet out h = (refl, refusal_of_result (length user + 7) (suc n), refl)

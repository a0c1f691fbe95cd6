-- A word's step by the service sheet: entry v is the register v after ten bits of 0.
use mathlib.Core.Path.{◌≡◌, refl, sym, ap, ap₂, ◌∙◌}
use mathlib.Core.Bool.{Bool}
use mathlib.Core.List.{List, [], ◌∷◌}
use Prim.Native.Nat.{ℕ, ◌+◌, ◌*◌, ◌/◌, ◌%◌, ◌^◌, ◌<◌}
use native.Mathlib.Omega.{arith}
use native.Mathlib.Nat.{pow-suc, zero-add}
use lib.Dec.{T, eqb, eqb→eq}
use lib.ListN.{length, get_or}
use lib.Bits.{bit_xor, xor_zero_r, xor_self, xor_block, xor_mod}
use Rattle.bits.specs.Bits.{digit, bits, number}
use Rattle.bits.proofs.Bits.{⊕-self, odd-digit, half_digit, number-bits, xors_self}
use Rattle.bits.proofs.Xor.{xor_assoc}
use Rattle.bits.proofs.Each.{each_from, each_from_at}
use Rattle.crc.specs.Crc.{crc_bit, crc_bits, crc_word}
use Rattle.crc.proofs.Linear.{crc_linear}

-- ---- the rule of a sheet, by one test over its 1,024 entries that the prover computes

unfoldable pub Rule : List ℕ → Type 0
Rule steps = (v : ℕ) → v < 1024 → get_or steps v 0 ≡ crc_word v 0

abbrev pub right : ℕ → ℕ → Bool
right v entry = eqb entry (crc_word v 0)

pub rule_of_test : (steps : List ℕ) → length steps ≡ 1024 → T (each_from right 0 steps) → Rule steps
unfolding Rule
rule_of_test steps l t v h = eqb→eq (get_or steps v 0) (crc_word v 0) (each_from_at right steps 0 t v (omega arith))

-- ---- data bits that the register's low bits equal shift out, and leave the bits above

bit_out : (n : ℕ) (b : Bool) → crc_bit (n * 2 + digit b) b ≡ n
unfolding crc_bit
bit_out n b = rw (odd-digit n b, ⊕-self b) (half_digit n b)

shift_out : (bs : List Bool) (h : ℕ) → crc_bits (number bs + h * 2 ^ length bs) bs ≡ h
unfolding crc_bits number
shift_out [] h = omega arith
shift_out (b ∷ bs) h =
    let n = number bs + h * 2 ^ length bs in
    let e : number (b ∷ bs) + h * 2 ^ length (b ∷ bs) ≡ n * 2 + digit b = rw (pow-suc 2 (length bs)) (omega arith) in
    ap (λ (m : ℕ). crc_bits m bs) (ap (λ (m : ℕ). crc_bit m b) e ∙ bit_out n b) ∙ shift_out bs h

-- ---- so a word's step is the entry of the register's low ten bits xor the word, xor the bits above

-- a register and one with the same bits above differ in the low ten alone
low_differs : (r w : ℕ) → bit_xor r (number (bits 10 w) + r / 1024 * 1024) ≡ bit_xor r w % 1024
low_differs r w =
    let h = r / 1024 in
    let whole : r ≡ h * 1024 + r % 1024 = omega arith in
    let other : number (bits 10 w) + h * 1024 ≡ h * 1024 + w % 1024 = omega (arith, number-bits 10 w) in
    ap₂ bit_xor whole other ∙ xor_block 10 h h (r % 1024) (w % 1024) (omega arith) (omega arith)
    ∙ ap (λ (n : ℕ). n * 1024 + bit_xor (r % 1024) (w % 1024)) (xor_self h) ∙ zero-add (bit_xor (r % 1024) (w % 1024)) ∙ sym (xor_mod r w 10)

pub crc_word_by_entry : (r w : ℕ) → crc_word r w ≡ bit_xor (crc_word (bit_xor r w % 1024) 0) (r / 1024)
unfolding crc_word bits
crc_word_by_entry r w =
    let ws = bits 10 w in
    let h = r / 1024 in
    let q = number ws + h * 1024 in
    let entry : crc_bits (bit_xor r w % 1024) (bits 10 0) ≡ bit_xor (crc_bits r ws) h =
    ap₂ crc_bits (sym (low_differs r w)) (sym (xors_self ws)) ∙ crc_linear r q ws ws refl ∙ ap (bit_xor (crc_bits r ws)) (shift_out ws h) in
    sym (ap (λ (n : ℕ). bit_xor n h) entry ∙ xor_assoc (crc_bits r ws) h h ∙ ap (bit_xor (crc_bits r ws)) (xor_self h) ∙ xor_zero_r (crc_bits r ws))

-- a turn of the loop
pub step_by_sheet : (steps : List ℕ) (r w : ℕ) → Rule steps → bit_xor (get_or steps (bit_xor r w % 1024) 0) (r / 1024) ≡ crc_word r w
unfolding Rule
step_by_sheet steps r w rule = ap (λ (n : ℕ). bit_xor n (r / 1024)) (rule (bit_xor r w % 1024) (omega arith)) ∙ sym (crc_word_by_entry r w)

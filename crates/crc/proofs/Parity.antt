-- The parity of the register's ones takes in that of the bits: an odd number of changed bits always changes the register.
use mathlib.Core.Path.{◌≡◌, refl, sym, ap, ◌∙◌}
use mathlib.Core.Bool.{Bool, true, false}
use mathlib.Core.List.{List, [], ◌∷◌}
use Prim.Native.Nat.{ℕ, ◌/◌}
use native.Mathlib.Omega.{arith}
use lib.ListN.{length}
use lib.Bits.{bit_xor, xor_self}
use lib.Count.{ones}
use Rattle.bits.specs.Bits.{◌⊕◌, odd, bits, xors, count, parity}
use Rattle.bits.proofs.Bits.{⊕-false, ⊕-assoc, ⊕-left}
use Rattle.bits.proofs.Ones.{ones_bits, odd_ones, odd_ones_xor, odd-digit_add}
use Rattle.crc.specs.Crc.{crc_bit, crc_bits}
use Rattle.crc.proofs.Linear.{tap, crc_bit_tap, crc_difference}

abbrev par : ℕ → Bool
par n = odd (ones n)

tap_par : (t : Bool) → par (tap t) ≡ t
unfolding tap odd bits ones
tap_par true = ap odd (ones_bits 18 0x23000 (omega arith))
tap_par false = refl

crc_bit-parity : (r : ℕ) (b : Bool) → par (crc_bit r b) ≡ par r ⊕ b
crc_bit-parity r b =
    ap par (crc_bit_tap r b) ∙ odd_ones_xor (r / 2) (tap (odd r ⊕ b)) ∙ ap (λ (t : Bool). par (r / 2) ⊕ t) (tap_par (odd r ⊕ b))
    ∙ ⊕-left (par (r / 2)) (odd r) b ∙ sym (⊕-assoc (odd r) (par (r / 2)) b) ∙ ap (λ (t : Bool). t ⊕ b) (sym (odd_ones r))

-- ---- the theorem, for lists of any length

pub crc_parity : (r : ℕ) (bs : List Bool) → odd (ones (crc_bits r bs)) ≡ odd (ones r) ⊕ parity bs
unfolding crc_bits odd
crc_parity r [] = sym (⊕-false (par r))
crc_parity r (b ∷ bs) =
    crc_parity (crc_bit r b) bs ∙ ap (λ (t : Bool). t ⊕ parity bs) (crc_bit-parity r b) ∙ ⊕-assoc (par r) b (parity bs)
    ∙ ap (λ (t : Bool). par r ⊕ t) (sym (odd-digit_add b (count bs)))

-- two runs of equal length from one register that end in one register differ at an even number of places
pub even_difference : (r : ℕ) (m n : List Bool) → length m ≡ length n → crc_bits r m ≡ crc_bits r n → parity (xors m n) ≡ false
unfolding ones odd
even_difference r m n el e =
    sym (crc_parity 0 (xors m n)) ∙ ap par (sym (crc_difference r m n el) ∙ ap (λ (k : ℕ). bit_xor k (crc_bits r n)) e ∙ xor_self (crc_bits r n))

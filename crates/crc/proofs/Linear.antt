-- The step is linear: the difference of two registers steps by the difference of the bits.
use mathlib.Core.Path.{◌≡◌, refl, sym, ap, ap₂, ◌∙◌}
use mathlib.Core.Bool.{Bool, true, false}
use mathlib.Core.List.{List, [], ◌∷◌}
use Prim.Native.Nat.{ℕ, ◌/◌}
use native.Mathlib.Omega.{arith}
use lib.ListN.{length}
use lib.Bits.{bit_xor, xor_zero_r, xor_self}
use Rattle.bits.specs.Choice.{if}
use Rattle.bits.specs.Bits.{◌⊕◌, odd, xors}
use Rattle.bits.proofs.Bits.{⊕-swap}
use Rattle.bits.proofs.Xor.{xor_half, xor_odd, xor_swap}
use Rattle.crc.specs.Crc.{crc_bit, crc_bits}

-- ---- the step as an xor: what a bit feeds back

unfoldable pub tap : Bool → ℕ
tap true = 0x23000
tap false = 0

pub crc_bit_tap : (r : ℕ) (b : Bool) → crc_bit r b ≡ bit_xor (r / 2) (tap (odd r ⊕ b))
unfolding crc_bit tap
crc_bit_tap r b = go (odd r ⊕ b)
  where
    go : (t : Bool) → if t (bit_xor (r / 2) 0x23000) (r / 2) ≡ bit_xor (r / 2) (tap t)
    go true = refl
    go false = sym (xor_zero_r (r / 2))

tap_xor : (x y : Bool) → tap (x ⊕ y) ≡ bit_xor (tap x) (tap y)
unfolding tap
tap_xor true true = refl
tap_xor true false = refl
tap_xor false true = refl
tap_xor false false = refl

-- ---- linear, for a bit and for bits

pub crc_bit_linear : (r q : ℕ) (a b : Bool) → crc_bit (bit_xor r q) (a ⊕ b) ≡ bit_xor (crc_bit r a) (crc_bit q b)
crc_bit_linear r q a b =
    crc_bit_tap (bit_xor r q) (a ⊕ b)
    ∙ ap₂ bit_xor (xor_half r q) (ap tap (ap (λ (o : Bool). o ⊕ (a ⊕ b)) (xor_odd r q) ∙ ⊕-swap (odd r) (odd q) a b) ∙ tap_xor (odd r ⊕ a) (odd q ⊕ b))
    ∙ xor_swap (r / 2) (q / 2) (tap (odd r ⊕ a)) (tap (odd q ⊕ b))
    ∙ sym (ap₂ bit_xor (crc_bit_tap r a) (crc_bit_tap q b))

pub crc_linear : (r q : ℕ) (xs ys : List Bool) → length xs ≡ length ys
    → crc_bits (bit_xor r q) (xors xs ys) ≡ bit_xor (crc_bits r xs) (crc_bits q ys)
unfolding crc_bits xors
crc_linear r q [] [] e = refl
crc_linear r q [] (y ∷ ys) e = absurd (omega arith)
crc_linear r q (x ∷ xs) [] e = absurd (omega arith)
crc_linear r q (x ∷ xs) (y ∷ ys) e =
    ap (λ (n : ℕ). crc_bits n (xors xs ys)) (crc_bit_linear r q x y) ∙ crc_linear (crc_bit r x) (crc_bit q y) xs ys (omega arith)

-- ---- two runs from one register: their difference is the run of the difference from zero

pub crc_difference : (r : ℕ) (xs ys : List Bool) → length xs ≡ length ys
    → bit_xor (crc_bits r xs) (crc_bits r ys) ≡ crc_bits 0 (xors xs ys)
crc_difference r xs ys e = sym (crc_linear r r xs ys e) ∙ ap (λ (n : ℕ). crc_bits n (xors xs ys)) (xor_self r)

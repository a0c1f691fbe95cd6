-- Counts of ones, and their parity.
use mathlib.Core.Path.{◌≡◌, refl, sym, ap, ap₂, ◌∙◌}
use mathlib.Core.Bool.{Bool, true, false, not}
use mathlib.Core.List.{List, [], ◌∷◌}
use Prim.Native.Nat.{ℕ, ◌+◌, ◌*◌, ◌/◌, ◌^◌, ◌<◌}
use native.Mathlib.Omega.{arith}
use native.Mathlib.Nat.{mod-eq_of_lt, zero-add}
use lib.Arith.{bin_ind}
use lib.Bits.{bit_xor}
use lib.Count.{ones, ones_step}
use Rattle.bits.specs.Bits.{◌⊕◌, digit, odd, bits, number, count}
use Rattle.bits.proofs.Bits.{digit-odd, odd-digit, half_digit, mod_digit, number-bits, halves, ⊕-swap}
use Rattle.bits.proofs.Xor.{xor_half, xor_odd}

-- the machine's count of ones is the count over the bits
pub ones_number : (bs : List Bool) → ones (number bs) ≡ count bs
unfolding number ones
ones_number [] = refl
ones_number (b ∷ bs) = ones_step (number (b ∷ bs)) ∙ ap₂ (λ (x y : ℕ). x + y) (mod_digit (number bs) b) (ap ones (half_digit (number bs) b) ∙ ones_number bs)

pub ones_bits : (k n : ℕ) → n < 2 ^ k → ones n ≡ count (bits k n)
ones_bits k n h = ap ones (sym (number-bits k n ∙ mod-eq_of_lt h)) ∙ ones_number (bits k n)

pub odd_suc : (n : ℕ) → odd (1 + n) ≡ not (odd n)
odd_suc n = go (odd n) (halves n)
  where
    go : (b : Bool) → n / 2 * 2 + digit b ≡ n → odd (1 + n) ≡ not b
    go true e = let q : 1 + n ≡ (n / 2 + 1) * 2 + digit false = omega arith in ap odd q ∙ odd-digit (n / 2 + 1) false
    go false e = let q : 1 + n ≡ n / 2 * 2 + digit true = omega arith in ap odd q ∙ odd-digit (n / 2) true

-- the parity of a sum
pub odd-digit_add : (b : Bool) (n : ℕ) → odd (digit b + n) ≡ b ⊕ odd n
odd-digit_add true n = odd_suc n
odd-digit_add false n = ap odd (zero-add n)

-- the parity of a number's ones: the lowest bit, and that of the rest
pub odd_ones : (n : ℕ) → odd (ones n) ≡ odd n ⊕ odd (ones (n / 2))
odd_ones n = ap odd (ones_step n ∙ ap (λ (x : ℕ). x + ones (n / 2)) (sym (digit-odd n))) ∙ odd-digit_add (odd n) (ones (n / 2))

no_ones : (b : ℕ) → odd (ones b) ≡ odd (ones 0) ⊕ odd (ones b)
unfolding ones odd
no_ones b = refl

-- the parity of an xor's ones
pub odd_ones_xor : (a b : ℕ) → odd (ones (bit_xor a b)) ≡ odd (ones a) ⊕ odd (ones b)
odd_ones_xor =
    bin_ind (λ (a : ℕ). (b : ℕ) → odd (ones (bit_xor a b)) ≡ odd (ones a) ⊕ odd (ones b)) no_ones
    (λ a ih b.
    odd_ones (bit_xor a b)
    ∙ ap₂ ◌⊕◌ (xor_odd a b) (ap (λ (n : ℕ). odd (ones n)) (xor_half a b) ∙ ih (b / 2))
    ∙ ⊕-swap (odd a) (odd b) (odd (ones (a / 2))) (odd (ones (b / 2)))
    ∙ sym (ap₂ ◌⊕◌ (odd_ones a) (odd_ones b)))

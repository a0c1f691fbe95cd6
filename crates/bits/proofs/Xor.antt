-- Laws of xor on numbers that the library lacks: by the half and the lowest bit.
use mathlib.Core.Path.{◌≡◌, refl, sym, ap, ap₂, ◌∙◌}
use mathlib.Core.Bool.{Bool}
use Prim.Native.Nat.{ℕ, ◌+◌, ◌*◌, ◌/◌}
use lib.Arith.{bin_ind}
use lib.Bits.{bit_xor, differ, xor_step, xor_shr, xor_comm}
use Rattle.bits.specs.Bits.{◌⊕◌, digit, odd}
use Rattle.bits.proofs.Bits.{digit-odd, odd-digit, differ-digit, halves, ⊕-assoc}

pub xor_half : (a b : ℕ) → bit_xor a b / 2 ≡ bit_xor (a / 2) (b / 2)
xor_half a b = xor_shr a b 1

pub xor_odd : (a b : ℕ) → odd (bit_xor a b) ≡ odd a ⊕ odd b
xor_odd a b =
    ap odd (xor_step a b ∙ ap (λ (x : ℕ). bit_xor (a / 2) (b / 2) * 2 + x) (ap₂ differ (sym (digit-odd a)) (sym (digit-odd b)) ∙ differ-digit (odd a) (odd b)))
    ∙ odd-digit (bit_xor (a / 2) (b / 2)) (odd a ⊕ odd b)

-- numbers with equal halves and equal lowest bits are equal
pub by_half : (x y : ℕ) → x / 2 ≡ y / 2 → odd x ≡ odd y → x ≡ y
by_half x y eh eo = sym (halves x) ∙ ap₂ (λ (n : ℕ) (b : Bool). n * 2 + digit b) eh eo ∙ halves y

pub xor_assoc : (a b c : ℕ) → bit_xor (bit_xor a b) c ≡ bit_xor a (bit_xor b c)
xor_assoc =
    bin_ind (λ (a : ℕ). (b c : ℕ) → bit_xor (bit_xor a b) c ≡ bit_xor a (bit_xor b c)) (λ b c. refl)
    (λ a ih b c.
    by_half (bit_xor (bit_xor a b) c) (bit_xor a (bit_xor b c)) (simp xor_half (ih (b / 2) (c / 2))) (simp xor_odd (⊕-assoc (odd a) (odd b) (odd c))))

pub xor_swap : (a b c d : ℕ) → bit_xor (bit_xor a b) (bit_xor c d) ≡ bit_xor (bit_xor a c) (bit_xor b d)
xor_swap a b c d =
    xor_assoc a b (bit_xor c d)
    ∙ ap (bit_xor a) (sym (xor_assoc b c d) ∙ ap (λ (x : ℕ). bit_xor x d) (xor_comm b c) ∙ xor_assoc c b d)
    ∙ sym (xor_assoc a c (bit_xor b d))

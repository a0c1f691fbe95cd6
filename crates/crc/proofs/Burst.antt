-- A burst of at most eighteen bits always changes the register.
-- A difference that is to be 0 after k more bits is below 2 ^ k now, since each tap sets bit 17; and right after the first differing bit it is 23000, which is above 2 ^ 17.
use mathlib.Core.Path.{◌≡◌, refl, sym, ap, subst, ◌∙◌}
use mathlib.Core.Bool.{Bool, true, false}
use mathlib.Core.List.{List, [], ◌∷◌, ◌++◌}
use Prim.Native.Nat.{ℕ, zero, suc, ◌+◌, ◌*◌, ◌/◌, ◌^◌, ◌≤◌, ◌<◌}
use native.Mathlib.Omega.{arith}
use native.Mathlib.Nat.{pow-suc, zero-add}
use lib.Pow.{pow_mono}
use lib.ListN.{length}
use lib.Bits.{bit_xor, xor_self, xor_block}
use Rattle.bits.specs.Choice.{if}
use Rattle.bits.specs.Bits.{◌⊕◌, odd, xors}
use Rattle.bits.proofs.Bits.{⊕-self, length-xors}
use Rattle.crc.specs.Crc.{crc_bit, crc_bits, cr0, cr1}
use Rattle.crc.proofs.Steps.{crc_of_append}
use Rattle.crc.proofs.Linear.{crc_linear, crc_difference}
use Rattle.crc.proofs.Range.{crc_bit_range, crc_range}
use Rattle.crc.proofs.Words.{cr_determine}

-- ---- what a register was before bits that left it small

-- a tap sets bit 17
tap_high : (x : ℕ) → x < 2 ^ 17 → 2 ^ 17 ≤ bit_xor x 0x23000
tap_high x h =
    let e : bit_xor (0 * 2 ^ 17 + x) (1 * 2 ^ 17 + 0x3000) ≡ bit_xor 0 1 * 2 ^ 17 + bit_xor x 0x3000 = xor_block 17 0 1 x 0x3000 h (omega arith) in
    subst (λ (n : ℕ). 2 ^ 17 ≤ bit_xor n 0x23000) (zero-add x) (omega (arith, e))

-- so what is below 2 ^ j, j at most 17, after a bit was below 2 ^ (j + 1) before it
crc_bit_before : (e : ℕ) (d : Bool) (j : ℕ) → e < 2 ^ 18 → j ≤ 17 → crc_bit e d < 2 ^ j → e < 2 ^ suc j
unfolding crc_bit
crc_bit_before e d j he hj = go (odd e ⊕ d)
  where
    go : (t : Bool) → if t (bit_xor (e / 2) 0x23000) (e / 2) < 2 ^ j → e < 2 ^ suc j
    go true h = absurd (omega (arith, tap_high (e / 2) (omega arith), pow_mono hj))
    go false h = omega (arith, pow-suc 2 j)

-- and bits after which the register is 0 began below 2 ^ k, k being their number
crc_before : (e : ℕ) (ds : List Bool) → e < 2 ^ 18 → length ds ≤ 18 → crc_bits e ds ≡ 0 → e < 2 ^ length ds
unfolding crc_bits
crc_before e [] he hl z = omega arith
crc_before e (d ∷ ds) he hl z = crc_bit_before e d (length ds) he (omega arith) (crc_before (crc_bit e d) ds (crc_bit_range e d he) (omega arith) z)

-- ---- a window that differs leaves a difference

bit_one : crc_bit 0 true ≡ 0x23000
unfolding crc_bit odd
bit_one = refl

bit_none : crc_bit 0 false ≡ 0
unfolding crc_bit odd
bit_none = refl

first_differs : (ds : List Bool) → length ds ≤ 17 → crc_bits (crc_bit 0 true) ds ≡ 0 → ⊥
first_differs ds h z = omega (arith, crc_before 0x23000 ds (omega arith) (omega arith) (rw bit_one at z), pow_mono h)

window : (m n : List Bool) → length m ≡ length n → length m ≤ 18 → crc_bits 0 (xors m n) ≡ 0 → m ≡ n
unfolding crc_bits xors crc_bit odd
window [] [] el hl z = refl
window [] (y ∷ n) el hl z = absurd (omega arith)
window (x ∷ m) [] el hl z = absurd (omega arith)
window (true ∷ m) (true ∷ n) el hl z = ap {B = List Bool} (λ l. true ∷ l) (window m n (omega arith) (omega arith) (rw bit_none at z))
window (false ∷ m) (false ∷ n) el hl z = ap {B = List Bool} (λ l. false ∷ l) (window m n (omega arith) (omega arith) (rw bit_none at z))
window (true ∷ m) (false ∷ n) el hl z = absurd (first_differs (xors m n) (omega (arith, length-xors m n (omega arith))) z)
window (false ∷ m) (true ∷ n) el hl z = absurd (first_differs (xors m n) (omega (arith, length-xors m n (omega arith))) z)

-- ---- a difference is not lost over equal bits

one_off : crc_bit 1 false ≡ 0x23000
unfolding crc_bit odd
one_off = refl

kept_bit : (e : ℕ) → e < 2 ^ 18 → crc_bit e false ≡ 0 → e ≡ 0
kept_bit e he z = go e (crc_bit_before e false 0 he (omega arith) (omega arith)) z
  where
    go : (n : ℕ) → n < 2 → crc_bit n false ≡ 0 → n ≡ 0
    go zero h q = refl
    go (suc zero) h q = absurd (omega (arith, sym one_off ∙ q))
    go (suc (suc n)) h q = absurd (omega arith)

kept : (e : ℕ) (z : List Bool) → e < 2 ^ 18 → crc_bits e (xors z z) ≡ 0 → e ≡ 0
unfolding crc_bits xors
kept e [] he q = q
kept e (b ∷ z) he q = kept_bit e he (kept (crc_bit e false) z (crc_bit_range e false he) (rw (⊕-self b) at q))

-- ---- the theorem, for lists of any length

-- two stretches from one register, alike but for a window of at most eighteen bits, that end in one register: the windows are alike too
pub burst : (r : ℕ) (a m n z : List Bool) → length m ≡ length n → length m ≤ 18
    → crc_bits r (a ++ (m ++ z)) ≡ crc_bits r (a ++ (n ++ z)) → m ≡ n
burst r a m n z el hl e =
    let R = crc_bits r a in
    let ends : crc_bits (crc_bits R m) z ≡ crc_bits (crc_bits R n) z =
    sym (crc_of_append r a (m ++ z) ∙ crc_of_append R m z) ∙ e ∙ crc_of_append r a (n ++ z) ∙ crc_of_append R n z in
    let lost : crc_bits (crc_bits 0 (xors m n)) (xors z z) ≡ 0 =
    ap (λ (k : ℕ). crc_bits k (xors z z)) (sym (crc_difference R m n el)) ∙ crc_linear (crc_bits R m) (crc_bits R n) z z refl
    ∙ ap (λ (k : ℕ). bit_xor k (crc_bits (crc_bits R n) z)) ends ∙ xor_self (crc_bits (crc_bits R n) z) in
    window m n el hl (kept (crc_bits 0 (xors m n)) z (crc_range 0 (xors m n) (omega arith)) lost)

-- the same, where the two CRC words of the ends are equal
pub burst_of_cr : (r : ℕ) (a m n z : List Bool) → r < 2 ^ 18 → length m ≡ length n → length m ≤ 18
    → cr0 (crc_bits r (a ++ (m ++ z))) ≡ cr0 (crc_bits r (a ++ (n ++ z)))
    → cr1 (crc_bits r (a ++ (m ++ z))) ≡ cr1 (crc_bits r (a ++ (n ++ z))) → m ≡ n
burst_of_cr r a m n z hr el hl e0 e1 =
    burst r a m n z el hl
    (cr_determine (crc_bits r (a ++ (m ++ z))) (crc_bits r (a ++ (n ++ z))) (crc_range r (a ++ (m ++ z)) hr) (crc_range r (a ++ (n ++ z)) hr) e0 e1)

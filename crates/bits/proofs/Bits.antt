-- Laws of bits, lists of bits and their numbers.
use mathlib.Core.Path.{◌≡◌, refl, sym, ap, ap₂, ◌∙◌}
use mathlib.Core.Bool.{Bool, true, false, not}
use mathlib.Core.List.{List, [], ◌∷◌, ◌++◌, append_assoc}
use Prim.Native.Nat.{ℕ, zero, suc, ◌+◌, ◌*◌, ◌/◌, ◌%◌, ◌^◌, ◌<◌}
use native.Mathlib.Omega.{arith}
use native.Mathlib.Nat.{pow-suc, mod-one, zero-lt-suc, zero-div, zero-mod}
use native.Mathlib.Numerals.{one-add}
use lib.Arith.{mod-mul}
use lib.Pow.{pow_pos, shr-shr}
use lib.Dec.{eqb}
use lib.ListN.{length, take, drop, replicate, length-append}
use lib.Bits.{bit_xor, differ, xor_step, xor_zero_r}
use Rattle.bits.specs.Bits.{◌⊕◌, digit, odd, bits, number, xors, word_bits}

-- ---- ⊕

not-not : (a : Bool) → a ≡ not (not a)
not-not true = refl
not-not false = refl

pub ⊕-self : (a : Bool) → a ⊕ a ≡ false
⊕-self true = refl
⊕-self false = refl

pub ⊕-same : (a b : Bool) → a ⊕ b ≡ false → a ≡ b
⊕-same true true e = refl
⊕-same true false e = e
⊕-same false true e = sym e
⊕-same false false e = refl

pub ⊕-false : (a : Bool) → a ⊕ false ≡ a
⊕-false true = refl
⊕-false false = refl

pub ⊕-assoc : (a b c : Bool) → a ⊕ b ⊕ c ≡ a ⊕ (b ⊕ c)
⊕-assoc true true c = not-not c
⊕-assoc true false c = refl
⊕-assoc false b c = refl

pub ⊕-comm : (a b : Bool) → a ⊕ b ≡ b ⊕ a
⊕-comm true true = refl
⊕-comm true false = refl
⊕-comm false true = refl
⊕-comm false false = refl

pub ⊕-left : (a b c : Bool) → a ⊕ (b ⊕ c) ≡ b ⊕ (a ⊕ c)
⊕-left a b c = sym (⊕-assoc a b c) ∙ ap (λ (x : Bool). x ⊕ c) (⊕-comm a b) ∙ ⊕-assoc b a c

pub ⊕-swap : (a b c d : Bool) → a ⊕ b ⊕ (c ⊕ d) ≡ a ⊕ c ⊕ (b ⊕ d)
⊕-swap a b c d = simp (⊕-assoc, ⊕-left)

-- ---- one bit

below_two : (P : ℕ → Type 0) → P 0 → P 1 → (m : ℕ) → m < 2 → P m
below_two P z o zero h = z
below_two P z o (suc zero) h = o
below_two P z o (suc (suc m)) h = absurd (omega arith)

pub digit-odd : (n : ℕ) → digit (odd n) ≡ n % 2
unfolding odd
digit-odd n = below_two (λ (m : ℕ). digit (eqb m 1) ≡ m) refl refl (n % 2) (omega arith)

pub digit_lt : (b : Bool) → digit b < 2
digit_lt true = omega arith
digit_lt false = omega arith

pub odd-digit : (n : ℕ) (b : Bool) → odd (n * 2 + digit b) ≡ b
unfolding odd
odd-digit n true = let e : (n * 2 + 1) % 2 ≡ 1 = omega arith in ap (λ (m : ℕ). eqb m 1) e
odd-digit n false = let e : (n * 2 + 0) % 2 ≡ 0 = omega arith in ap (λ (m : ℕ). eqb m 1) e

pub mod_digit : (n : ℕ) (b : Bool) → (n * 2 + digit b) % 2 ≡ digit b
mod_digit n true = omega arith
mod_digit n false = omega arith

pub half_digit : (n : ℕ) (b : Bool) → (n * 2 + digit b) / 2 ≡ n
half_digit n true = omega arith
half_digit n false = omega arith

pub differ-digit : (a b : Bool) → differ (digit a) (digit b) ≡ digit (a ⊕ b)
differ-digit true true = refl
differ-digit true false = refl
differ-digit false true = refl
differ-digit false false = refl

-- the code's step: a number is its half and its lowest bit
pub halves : (n : ℕ) → n / 2 * 2 + digit (odd n) ≡ n
halves n = omega (arith, digit-odd n)

-- ---- number and bits

pub number-bits : (k n : ℕ) → number (bits k n) ≡ n % 2 ^ k
unfolding number bits
number-bits zero n = sym (mod-one n)
number-bits (suc k) n =
    ap₂ (λ (x y : ℕ). x * 2 + y) (number-bits k (n / 2)) (digit-odd n)
    ∙ sym (ap (λ (x : ℕ). n % x) (pow-suc 2 k) ∙ mod-mul n (pow_pos k) (zero-lt-suc 1))

pub bits-number : (bs : List Bool) → bits (length bs) (number bs) ≡ bs
unfolding number bits
bits-number [] = refl
bits-number (b ∷ bs) =
    ap₂ (λ (x : Bool) (xs : List Bool). x ∷ xs) (odd-digit (number bs) b)
    (ap (bits (length bs)) (half_digit (number bs) b) ∙ bits-number bs)

pub length-bits : (k n : ℕ) → length (bits k n) ≡ k
unfolding bits
length-bits zero n = refl
length-bits (suc k) n = ap suc (length-bits k (n / 2))

pub number_lt : (bs : List Bool) → number bs < 2 ^ length bs
unfolding number
number_lt [] = omega arith
number_lt (b ∷ bs) = omega (arith, number_lt bs, digit_lt b, pow-suc 2 (length bs))

-- ---- shifts, masks, concatenation, xor: word-wide operations are list operations

pub number_half : (bs : List Bool) → number bs / 2 ≡ number (drop 1 bs)
unfolding number
number_half [] = refl
number_half (b ∷ bs) = half_digit (number bs) b

pub number_shr : (k : ℕ) (bs : List Bool) → number bs / 2 ^ k ≡ number (drop k bs)
unfolding number
number_shr zero bs = omega arith
number_shr (suc k) [] = zero-div (2 ^ suc k)
number_shr (suc k) (b ∷ bs) =
    sym (shr-shr (number (b ∷ bs)) 1 k ∙ ap (λ (j : ℕ). number (b ∷ bs) / 2 ^ j) (one-add k))
    ∙ ap (λ (n : ℕ). n / 2 ^ k) (half_digit (number bs) b)
    ∙ number_shr k bs

pub number_mod : (k : ℕ) (bs : List Bool) → number bs % 2 ^ k ≡ number (take k bs)
unfolding number
number_mod zero bs = mod-one (number bs)
number_mod (suc k) [] = zero-mod (2 ^ suc k)
number_mod (suc k) (b ∷ bs) =
    ap (λ (x : ℕ). number (b ∷ bs) % x) (pow-suc 2 k)
    ∙ mod-mul (number (b ∷ bs)) (pow_pos k) (zero-lt-suc 1)
    ∙ ap₂ (λ (x y : ℕ). x * 2 + y) (ap (λ (n : ℕ). n % 2 ^ k) (half_digit (number bs) b) ∙ number_mod k bs) (mod_digit (number bs) b)

pub number_append : (xs ys : List Bool) → number (xs ++ ys) ≡ number xs + number ys * 2 ^ length xs
unfolding number
number_append [] ys = omega arith
number_append (x ∷ xs) ys = rw (number_append xs ys, pow-suc 2 (length xs)) (omega arith)

pub number_shl : (k : ℕ) (bs : List Bool) → number bs * 2 ^ k ≡ number (replicate k false ++ bs)
unfolding number
number_shl zero bs = omega arith
number_shl (suc k) bs = rw pow-suc (omega (arith, number_shl k bs))

-- `lo + hi * 2 ^ k`, for a lo of k bits
pub number_join : (k : ℕ) (xs ys : List Bool) → length xs ≡ k → number xs + number ys * 2 ^ k ≡ number (xs ++ ys)
number_join k xs ys e = ap (λ (j : ℕ). number xs + number ys * 2 ^ j) (sym e) ∙ sym (number_append xs ys)

pub number-xors : (xs ys : List Bool) → bit_xor (number xs) (number ys) ≡ number (xors xs ys)
unfolding number xors
number-xors [] ys = refl
number-xors (x ∷ xs) [] = xor_zero_r (number (x ∷ xs))
number-xors (x ∷ xs) (y ∷ ys) =
    xor_step (number (x ∷ xs)) (number (y ∷ ys))
    ∙ ap₂ (λ (p q : ℕ). p * 2 + q) (ap₂ bit_xor (half_digit (number xs) x) (half_digit (number ys) y) ∙ number-xors xs ys)
    (ap₂ differ (mod_digit (number xs) x) (mod_digit (number ys) y) ∙ differ-digit x y)

pub length-xors : (m n : List Bool) → length m ≡ length n → length (xors m n) ≡ length m
unfolding xors
length-xors [] [] e = refl
length-xors [] (y ∷ n) e = absurd (omega arith)
length-xors (x ∷ m) [] e = refl
length-xors (x ∷ m) (y ∷ n) e = ap suc (length-xors m n (omega arith))

pub xors_self : (bs : List Bool) → xors bs bs ≡ bits (length bs) 0
unfolding xors bits odd
xors_self [] = refl
xors_self (b ∷ bs) = ap₂ (λ (x : Bool) (l : List Bool). x ∷ l) (⊕-self b) (xors_self bs)

-- ---- word_bits

pub length-word_bits : (ws : List ℕ) → length (word_bits ws) ≡ length ws * 10
unfolding word_bits
length-word_bits [] = refl
length-word_bits (w ∷ ws) = simp (length-append, length-bits) (omega (arith, length-word_bits ws))

pub word_bits_append : (ws vs : List ℕ) → word_bits (ws ++ vs) ≡ word_bits ws ++ word_bits vs
unfolding word_bits
word_bits_append [] vs = refl
word_bits_append (w ∷ ws) vs = ap (λ (l : List Bool). bits 10 w ++ l) (word_bits_append ws vs) ∙ sym (append_assoc (bits 10 w) (word_bits ws) (word_bits vs))

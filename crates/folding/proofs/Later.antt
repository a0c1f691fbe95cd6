-- The register after words of 0: an additive map of which the powers 304, 152, 128 and 0 cancel.
use mathlib.Core.Path.{◌≡◌, refl, sym, ap, ap₂, ◌∙◌}
use mathlib.Core.Bool.{Bool}
use mathlib.Core.List.{List, [], ◌∷◌}
use Prim.Native.Nat.{ℕ, zero, suc, ◌+◌, ◌*◌, ◌-◌, ◌/◌, ◌^◌, ◌<◌}
use native.Mathlib.Omega.{arith}
use native.Mathlib.Nat.{pow-suc, add_comm}
use native.Mathlib.Decide.{dec_lt}
use lib.Dec.{T, eqb, eqb→eq}
use lib.ListN.{length}
use lib.Bits.{bit_xor, xor_zero_r, xor_self, xor_comm, xor_shifted}
use Rattle.bits.specs.Bits.{odd, bits, xors}
use Rattle.bits.proofs.Bits.{length-bits}
use Rattle.bits.proofs.Xor.{xor_half, xor_odd, xor_assoc, xor_swap}
use Rattle.bits.proofs.Below.{all, below}
use Rattle.bits.proofs.Lists.{cons_equal}
use Rattle.crc.specs.Crc.{crc_bit, crc_bits, crc_word, crc_words}
use Rattle.crc.proofs.Linear.{crc_linear}
use Rattle.crc.proofs.Range.{crc_word_range}

-- ---- a word's step is linear

bits_xor : (k v w : ℕ) → bits k (bit_xor v w) ≡ xors (bits k v) (bits k w)
unfolding bits xors
bits_xor zero v w = refl
bits_xor (suc k) v w = cons_equal (xor_odd v w) (ap (bits k) (xor_half v w) ∙ bits_xor k (v / 2) (w / 2))

pub crc_word_linear : (r q v w : ℕ) → crc_word (bit_xor r q) (bit_xor v w) ≡ bit_xor (crc_word r v) (crc_word q w)
unfolding crc_word
crc_word_linear r q v w =
    ap (crc_bits (bit_xor r q)) (bits_xor 10 v w) ∙ crc_linear r q (bits 10 v) (bits 10 w) (length-bits 10 v ∙ sym (length-bits 10 w))

-- ---- the register after n words of 0

unfoldable pub later : ℕ → ℕ → ℕ
later zero r = r
later (suc n) r = later n (crc_word r 0)

-- a difference of the registers goes on as if the words were 0
pub crc_words-differ : (r q : ℕ) (ws : List ℕ) → crc_words (bit_xor r q) ws ≡ bit_xor (crc_words r ws) (later (length ws) q)
unfolding crc_words later
crc_words-differ r q [] = refl
crc_words-differ r q (w ∷ ws) =
    ap (λ (n : ℕ). crc_words n ws) (ap (crc_word (bit_xor r q)) (sym (xor_zero_r w)) ∙ crc_word_linear r q w 0) ∙ crc_words-differ (crc_word r w) (crc_word q 0) ws

abbrev Additive : (ℕ → ℕ) → Type 0
Additive f = (r q : ℕ) → f (bit_xor r q) ≡ bit_xor (f r) (f q)

pub later_additive : (n : ℕ) → Additive (later n)
unfolding later
later_additive zero r q = refl
later_additive (suc n) r q = ap (later n) (crc_word_linear r q 0 0) ∙ later_additive n (crc_word r 0) (crc_word q 0)

pub later_add : (m n r : ℕ) → later (m + n) r ≡ later n (later m r)
unfolding later
later_add zero n r = let e : 0 + n ≡ n = omega arith in ap (λ (k : ℕ). later k r) e
later_add (suc m) n r = let e : suc m + n ≡ suc (m + n) = omega arith in ap (λ (k : ℕ). later k r) e ∙ later_add m n (crc_word r 0)

later_swap : (m n r : ℕ) → later m (later n r) ≡ later n (later m r)
later_swap m n r = sym (later_add n m r) ∙ ap (λ (k : ℕ). later k r) (add_comm n m) ∙ later_add m n r

later_range : (n r : ℕ) → r < 2 ^ 18 → later n r < 2 ^ 18
unfolding later
later_range zero r h = h
later_range (suc n) r h = later_range n (crc_word r 0) (crc_word_range r 0 h)

-- ---- additive maps that agree at each power of two agree

at_zero : (f : ℕ → ℕ) → Additive f → f 0 ≡ 0
at_zero f af = af 0 0 ∙ xor_self (f 0)

agree : (f g : ℕ → ℕ) → Additive f → Additive g → (n : ℕ) → ((k : ℕ) → k < n → f (2 ^ k) ≡ g (2 ^ k)) → (r : ℕ) → r < 2 ^ n → f r ≡ g r
agree f g af ag zero t r h = let e : r ≡ 0 = omega arith in ap f e ∙ at_zero f af ∙ sym (at_zero g ag) ∙ ap g (sym e)
agree f g af ag (suc n) t r h = go (λ q l. agree f g af ag n (λ k m. t k (omega arith)) q l) (dec_lt r (2 ^ n))
  where
    go : ((q : ℕ) → q < 2 ^ n → f q ≡ g q) → Dec (r < 2 ^ n) → f r ≡ g r
    go lower (yes l) = lower r l
    go lower (no l) =
        let q = r - 2 ^ n in
        let small : q < 2 ^ n = omega (arith, pow-suc 2 n) in
        let one : 1 * 2 ^ n ≡ 2 ^ n = omega arith in
        let whole : 1 * 2 ^ n + q ≡ r = omega arith in
        let parts : bit_xor (2 ^ n) q ≡ r = ap (λ (p : ℕ). bit_xor p q) (sym one) ∙ xor_shifted 1 n q small ∙ whole in
        ap f (sym parts) ∙ af (2 ^ n) q ∙ ap₂ bit_xor (t n (omega arith)) (lower q small) ∙ sym (ag (2 ^ n) q) ∙ ap g parts

-- ---- powers that cancel: a word may be moved a places on if it is also moved a - b and a - c places on

abbrev pub Cancel : ℕ → ℕ → ℕ → Type 0
Cancel a b c = (r : ℕ) → r < 2 ^ 18 → later a r ≡ bit_xor (bit_xor r (later b r)) (later c r)

abbrev sum : ℕ → ℕ
sum r = bit_xor (bit_xor r (later 16 r)) (later 19 r)

sum_additive : Additive sum
sum_additive r q =
    ap₂ bit_xor (ap (bit_xor (bit_xor r q)) (later_additive 16 r q) ∙ xor_swap r q (later 16 r) (later 16 q)) (later_additive 19 r q)
    ∙ xor_swap (bit_xor r (later 16 r)) (bit_xor q (later 16 q)) (later 19 r) (later 19 q)

-- by one test that the prover computes, at the eighteen powers of two; what sixteen words leave is computed once
abbrev same : ℕ → ℕ → Bool
same r a = eqb (later 22 a) (bit_xor (bit_xor r a) (later 3 a))

abbrev same_at : ℕ → Bool
same_at k = same (2 ^ k) (later 16 (2 ^ k))

tested : T (all same_at 18)
unfolding later crc_word crc_bits crc_bit bits odd
tested = tt

first : Cancel 38 16 19
first = agree (later 38) sum (later_additive 38) sum_additive 18 at
  where
    at : (k : ℕ) → k < 18 → later 38 (2 ^ k) ≡ sum (2 ^ k)
    at k h =
        let r = 2 ^ k in
        let a = later 16 r in
        later_add 16 22 r ∙ eqb→eq (later 22 a) (bit_xor (bit_xor r a) (later 3 a)) (below same_at 18 tested k h)
        ∙ ap (bit_xor (bit_xor r a)) (sym (later_add 16 3 r))

-- and so their squares
xor_left : (a b c : ℕ) → bit_xor a (bit_xor b c) ≡ bit_xor b (bit_xor a c)
xor_left a b c = sym (xor_assoc a b c) ∙ ap (λ (x : ℕ). bit_xor x c) (xor_comm a b) ∙ xor_assoc b a c

xor_twice : (a b : ℕ) → bit_xor a (bit_xor a b) ≡ b
xor_twice a b = sym (xor_assoc a a b) ∙ ap (λ (x : ℕ). bit_xor x b) (xor_self a)

crossed : (r b c bb bc cc : ℕ)
    → bit_xor (bit_xor (bit_xor (bit_xor r b) c) (bit_xor (bit_xor b bb) bc)) (bit_xor (bit_xor c bc) cc) ≡ bit_xor (bit_xor r bb) cc
crossed r b c bb bc cc = simp (xor_assoc, xor_left, xor_twice)

squared : (a b c : ℕ) → Cancel a b c → Cancel (a + a) (b + b) (c + c)
squared a b c cancel r h =
    let B = later b r in
    let C = later c r in
    let BC = later c B in
    let at_c : later a C ≡ bit_xor (bit_xor C BC) (later c C) =
    cancel C (later_range c r h) ∙ ap (λ (n : ℕ). bit_xor (bit_xor C n) (later c C)) (later_swap b c r) in
    later_add a a r ∙ ap (later a) (cancel r h) ∙ later_additive a (bit_xor r B) C
    ∙ ap₂ bit_xor (later_additive a r B ∙ ap₂ bit_xor (cancel r h) (cancel B (later_range b r h))) at_c
    ∙ crossed r B C (later b B) BC (later c C)
    ∙ sym (ap₂ (λ (m n : ℕ). bit_xor (bit_xor r m) n) (later_add b b r) (later_add c c r))

pub cancel : Cancel 304 128 152
cancel = squared 152 64 76 (squared 76 32 38 (squared 38 16 19 first))

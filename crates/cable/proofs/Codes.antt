-- Word-wide operations of the code are operations on lists of bits.
use mathlib.Core.Path.{◌≡◌, refl, sym, ap, ap₂, subst, ◌∙◌}
use mathlib.Core.Bool.{Bool, false}
use mathlib.Core.List.{List, ◌++◌}
use Prim.Native.Nat.{ℕ, ◌+◌, ◌*◌, ◌/◌, ◌%◌, ◌^◌, ◌<◌}
use native.Mathlib.Omega.{arith}
use native.Mathlib.Nat.{mod-eq_of_lt}
use lib.ListN.{length, take, drop, replicate}
use lib.Bits.{bit_xor}
use Rattle.bits.specs.Bits.{digit, odd, bits, number, xors}
use Rattle.bits.proofs.Bits.{bits-number, number_lt, odd-digit, half_digit, number-bits, number_shr, number_mod, number_shl, number_join, number-xors, ⊕-false, ⊕-assoc}
use Rattle.cable.specs.Bits.{ago, scrambler, descrambler, nrzi, unnrzi, levels, scrambled, unscrambled, past}
use Rattle.cable.specs.Words.{unscramble_word, scramble_word}

-- ---- unscrambling: 1 + x, then 1 + x^5 + x^9

abbrev code_levels : ℕ → ℕ
code_levels x = bit_xor (x / 2) x

abbrev list_levels : List Bool → List Bool
list_levels x = xors (drop 1 x) x

levels_is : (h : ℕ) → code_levels (h % 1024) ≡ number (list_levels (bits 10 h))
levels_is h = simp (← (number-bits 10 h), number_shr 1, number-xors)

-- a shift up, in sixteen bits
abbrev code_up : ℕ → ℕ → ℕ
code_up k x = x * 2 ^ k % 65536

abbrev list_up : ℕ → List Bool → List Bool
list_up k x = take 16 (replicate k false ++ x)

up_is : (k : ℕ) (x : List Bool) → code_up k (number x) ≡ number (list_up k x)
up_is k x = simp (number_shl k) (number_mod 16 (replicate k false ++ x))

abbrev code_data : ℕ → ℕ → ℕ
code_data g u = bit_xor (bit_xor (bit_xor u (g / 512)) (bit_xor (code_up 5 u) (g / 16))) (bit_xor (code_up 9 u) g) % 1024

abbrev list_data : List Bool → List Bool → List Bool
list_data g u = take 10 (xors (xors (xors u (drop 9 g)) (xors (list_up 5 u) (drop 4 g))) (xors (list_up 9 u) g))

data_is : (g u : List Bool) → code_data (number g) (number u) ≡ number (list_data g u)
data_is g u = simp (up_is 5, up_is 9, number_shr 9, number_shr 4, number-xors, number_mod 10)

-- the lists compute to the same ten bits
unscramble_lists : (h w : ℕ) → list_data (list_levels (bits 10 h)) (xors (bits 16 w) (list_up 1 (bits 16 w))) ≡ unscrambled (past h) (bits 10 w)
unfolding bits xors unscrambled past descrambler unnrzi levels
unscramble_lists h w = simp ⊕-false

-- 1 + x on the word
once_is : (w : ℕ) → w < 65536 → bit_xor w (code_up 1 w) ≡ number (xors (bits 16 w) (list_up 1 (bits 16 w)))
once_is w l =
    ap (λ (x : ℕ). bit_xor x (code_up 1 x)) (sym (number-bits 16 w ∙ mod-eq_of_lt l))
    ∙ ap (bit_xor (number (bits 16 w))) (up_is 1 (bits 16 w)) ∙ number-xors _ _

pub unscramble_code : (h w : ℕ) → w < 65536 → code_data (code_levels (h % 1024)) (bit_xor w (code_up 1 w)) ≡ unscramble_word h w
unfolding unscramble_word
unscramble_code h w l = ap₂ code_data (levels_is h) (once_is w l) ∙ data_is _ _ ∙ ap number (unscramble_lists h w)

-- ---- scrambling, five bits at a time

abbrev code_low : ℕ → ℕ → ℕ
code_low s d = bit_xor (bit_xor d (s / 16)) s % 32

abbrev code_high : ℕ → ℕ → ℕ → ℕ
code_high s d low = bit_xor (bit_xor (d / 32) low) (s / 32 % 16 + low * 16) % 32

abbrev list_low : List Bool → List Bool → List Bool
list_low s d = take 5 (xors (xors d (drop 4 s)) s)

abbrev list_high : List Bool → List Bool → List Bool → List Bool
list_high s d low = take 5 (xors (xors (drop 5 d) low) (take 4 (drop 5 s) ++ low))

low_is : (s d : List Bool) → code_low (number s) (number d) ≡ number (list_low s d)
low_is s d = simp (number_shr 4, number-xors, number_mod 5)

high_is : (s d low : List Bool) → length (take 4 (drop 5 s)) ≡ 4 → code_high (number s) (number d) (number low) ≡ number (list_high s d low)
high_is s d low e = simp (number_shr 5, number_mod 4, number_join 4 (take 4 (drop 5 s)) low e, number-xors, number_mod 5)

scrambler_lists : (h d : ℕ) →
    list_low (list_levels (bits 10 h)) (bits 10 d) ++ list_high (list_levels (bits 10 h)) (bits 10 d) (list_low (list_levels (bits 10 h)) (bits 10 d))
    ≡ scrambler (levels (past h)) (bits 10 d)
unfolding bits xors past scrambler levels
scrambler_lists h d = refl

length-between : (h : ℕ) → length (take 4 (drop 5 (list_levels (bits 10 h)))) ≡ 4
unfolding bits xors
length-between h = refl

length_low : (h d : ℕ) → length (list_low (list_levels (bits 10 h)) (bits 10 d)) ≡ 5
unfolding bits xors
length_low h d = refl

pub scrambler_code : (h d : ℕ) →
    code_low (code_levels (h % 1024)) (d % 1024) + code_high (code_levels (h % 1024)) (d % 1024) (code_low (code_levels (h % 1024)) (d % 1024)) * 32
    ≡ number (scrambler (levels (past h)) (bits 10 d))
scrambler_code h d =
    let s = list_levels (bits 10 h) in
    let low = list_low s (bits 10 d) in
    let el : code_low (number s) (number (bits 10 d)) ≡ number low = low_is s (bits 10 d) in
    let eh = high_is s (bits 10 d) low (length-between h) in
    rw (levels_is h, ← (number-bits 10 d), el, eh, number_join 5 low (list_high s (bits 10 d) low) (length_low h d)) (ap number (scrambler_lists h d))

-- ---- NRZI: a running xor, by doubling

abbrev code_run : ℕ → ℕ → ℕ
code_run m x = bit_xor x (x * m) % 2048

abbrev list_run : ℕ → List Bool → List Bool
list_run k x = take 11 (xors x (replicate k false ++ x))

running_lists : (x : ℕ) → drop 1 (list_run 8 (list_run 4 (list_run 2 (list_run 1 (bits 11 x))))) ≡ nrzi (odd x) (bits 10 (x / 2))
unfolding bits xors nrzi
running_lists x = simp (⊕-assoc, ⊕-false)

pub running_code : (x : ℕ) → code_run 256 (code_run 16 (code_run 4 (code_run 2 (x % 2048)))) / 2 ≡ number (nrzi (odd x) (bits 10 (x / 2)))
running_code x =
    simp (← (number-bits 11 x), number_shl 1, number_shl 2, number_shl 4, number_shl 8, number-xors, number_mod 11, number_shr 1) (ap number (running_lists x))

-- ---- scrambling: the two together

length-scrambler : (h d : ℕ) → length (scrambler (levels (past h)) (bits 10 d)) ≡ 10
unfolding bits past scrambler levels
length-scrambler h d = refl

length_running : (x : ℕ) → length (nrzi (odd x) (bits 10 (x / 2))) ≡ 10
unfolding bits nrzi
length_running x = refl

-- the latest bit of a history
latest : (h : ℕ) → h % 1024 / 512 ≡ digit (ago 1 (past h))
unfolding bits past number
latest h = simp (← (number-bits 10 h), number_shr 9) (omega arith)

pub scramble_code : (h d s r : ℕ) → s ≡ number (scrambler (levels (past h)) (bits 10 d))
    → r ≡ number (nrzi (odd (s * 2 + h % 1024 / 512)) (bits 10 ((s * 2 + h % 1024 / 512) / 2))) → r ≡ scramble_word h d
unfolding scramble_word scrambled
scramble_code h d s r es er =
    let S = scrambler (levels (past h)) (bits 10 d) in
    let b = ago 1 (past h) in
    let ex : s * 2 + h % 1024 / 512 ≡ number S * 2 + digit b = rw (es, latest h) in
    let eb : bits 10 (number S) ≡ S = ap (λ (k : ℕ). bits k (number S)) (sym (length-scrambler h d)) ∙ bits-number S in
    er ∙ rw (ex, odd-digit (number S) b, half_digit (number S) b, eb)

-- ten bits are below 1,024
ten_bits_lt : (bs : List Bool) (r : ℕ) → length bs ≡ 10 → r ≡ number bs → r < 1024
ten_bits_lt bs r el er = subst (λ (n : ℕ). n < 1024) (sym er) (subst (λ (k : ℕ). number bs < 2 ^ k) el (number_lt bs))

pub scrambler_lt : (h d s : ℕ) → s ≡ number (scrambler (levels (past h)) (bits 10 d)) → s < 1024
scrambler_lt h d s e = ten_bits_lt (scrambler (levels (past h)) (bits 10 d)) s (length-scrambler h d) e

pub running_lt : (x r : ℕ) → r ≡ number (nrzi (odd x) (bits 10 (x / 2))) → r < 1024
running_lt x r e = ten_bits_lt (nrzi (odd x) (bits 10 (x / 2))) r (length_running x) e

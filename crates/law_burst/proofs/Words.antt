-- The words of a channel in a stretch: those that the CRC covers, and those after them.
use mathlib.Core.Path.{◌≡◌, refl, sym, ap, ap₂, ◌∙◌}
use mathlib.Core.Bool.{Bool, true, false}
use mathlib.Core.List.{List, [], ◌∷◌, ◌++◌}
use Prim.Native.Nat.{ℕ, zero, suc, ◌+◌, ◌*◌, ◌/◌}
use native.Mathlib.Omega.{arith}
use native.Mathlib.Nat.{zero-add, suc-add, add_assoc}
use lib.ListN.{length, take, drop, length-take, length-drop, take-append-drop}
use lib.Seq.{take-append-le, drop-append-le}
use Rattle.bits.specs.Bits.{bits, number, word_bits}
use Rattle.bits.proofs.Bits.{bits-number}
use Rattle.bits.proofs.Lists.{cons_equal}
use Rattle.cable.specs.Words.{grouped}
use Rattle.cable.specs.Channels.{turn, channel_bits}
use Rattle.cable.proofs.Channels.{place_after, share, channel_share, channel_of_append}
use Rattle.law_burst.specs.Stretch.{channel_words}

-- ---- share (of the crate cable): half of whole pairs

share_of_add : (y : Bool) (k m n : ℕ) → share y k (m + n) ≡ share y k m + share y (place_after m k) n
share_of_add y k zero n = rw (zero-add n, zero-add)
share_of_add y k (suc m) n = rw (suc-add m n, share_of_add y (turn k) m n) (sym (add_assoc _ _ _))

share_pair : (y : Bool) (n : ℕ) → share y 0 (20 + n) ≡ 10 + share y 0 n
share_pair true n = share_of_add true 0 20 n
share_pair false n = share_of_add false 0 20 n

share_pairs : (y : Bool) (n : ℕ) → share y 0 (20 * n) ≡ 10 * n
share_pairs y zero = refl
share_pairs y (suc n) =
    let e : 20 * suc n ≡ 20 + 20 * n = omega arith in
    ap (share y 0) e ∙ share_pair y (20 * n) ∙ omega (arith, share_pairs y n)

pub channel_pairs : (y : Bool) (n : ℕ) (bs : List Bool) → length bs ≡ 20 * n → length (channel_bits y 0 bs) ≡ 10 * n
channel_pairs y n bs e = channel_share y 0 bs ∙ ap (share y 0) e ∙ share_pairs y n

-- ---- grouped (of the crate cable)

grouped_of_append : (j k : ℕ) (xs ys : List Bool) → length xs ≡ 10 * j → grouped (j + k) (xs ++ ys) ≡ grouped j xs ++ grouped k ys
unfolding grouped
grouped_of_append zero k [] ys e = ap (λ (n : ℕ). grouped n ys) (zero-add k)
grouped_of_append zero k (x ∷ xs) ys e = absurd (omega arith)
grouped_of_append (suc j) k xs ys e =
    ap (λ (n : ℕ). grouped n (xs ++ ys)) (suc-add j k)
    ∙ cons_equal (ap number (take-append-le 10 xs ys (omega arith)))
    (ap (grouped (j + k)) (drop-append-le 10 xs ys (omega arith)) ∙ grouped_of_append j k (drop 10 xs) ys (omega (arith, length-drop 10 xs)))

pub word_bits_of_grouped : (k : ℕ) (bs : List Bool) → length bs ≡ 10 * k → word_bits (grouped k bs) ≡ bs
unfolding grouped word_bits
word_bits_of_grouped zero [] e = refl
word_bits_of_grouped zero (b ∷ bs) e = absurd (omega arith)
word_bits_of_grouped (suc k) bs e =
    let ten : length (take 10 bs) ≡ 10 = omega (arith, length-take 10 bs) in
    ap₂ (λ (xs ys : List Bool). xs ++ ys) (ap (λ (n : ℕ). bits n (number (take 10 bs))) (sym ten) ∙ bits-number (take 10 bs))
    (word_bits_of_grouped k (drop 10 bs) (omega (arith, length-drop 10 bs)))
    ∙ take-append-drop 10 bs

-- ---- channel_words

pub channel_words_of_append : (y : Bool) (j k : ℕ) (xs ys : List Bool) → length xs ≡ 20 * j → length (xs ++ ys) ≡ 20 * (j + k)
    → channel_words y (xs ++ ys) ≡ grouped j (channel_bits y 0 xs) ++ grouped k (channel_bits y (place_after (20 * j) 0) ys)
channel_words_of_append y j k xs ys e whole =
    let n : length (channel_bits y 0 (xs ++ ys)) / 10 ≡ j + k = omega (arith, channel_pairs y (j + k) (xs ++ ys) whole) in
    ap₂ grouped n (channel_of_append y 0 xs ys ∙ ap (λ (l : ℕ). channel_bits y 0 xs ++ channel_bits y (place_after l 0) ys) e)
    ∙ grouped_of_append j k (channel_bits y 0 xs) (channel_bits y (place_after (20 * j) 0) ys) (channel_pairs y j xs e)

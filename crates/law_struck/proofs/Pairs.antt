-- The words of a channel in whole pairs.
use mathlib.Core.Path.{◌≡◌, refl, sym, ap, ap₂, ◌∙◌}
use mathlib.Core.Bool.{Bool, true, false}
use mathlib.Core.List.{List, [], ◌∷◌, ◌++◌}
use Prim.Native.Nat.{ℕ, zero, suc, ◌+◌, ◌*◌, ◌/◌}
use native.Mathlib.Omega.{arith}
use native.Mathlib.Nat.{zero-add, suc-add}
use lib.ListN.{length, take, drop, replicate, length-append, length-take, length-drop, take-append-drop}
use lib.Seq.{take_all, take_at}
use Rattle.bits.specs.Bits.{number, word_bits}
use Rattle.raster.specs.Layout.{sync_of, hd_unit}
use Rattle.cable.specs.Words.{grouped}
use Rattle.cable.specs.Channels.{paired, turn, channel_bits}
use Rattle.cable.proofs.Coding.{length-grouped}
use Rattle.cable.proofs.Channels.{place_after, channel_of_words}
use Rattle.stream.specs.Words.{trs}
use Rattle.law_burst.specs.Stretch.{channel_words}
use Rattle.law_burst.proofs.Words.{channel_pairs, word_bits_of_grouped, channel_words_of_append}

-- ---- whole pairs

place_after_add : (m n k : ℕ) → place_after (m + n) k ≡ place_after n (place_after m k)
place_after_add zero n k = ap (λ (l : ℕ). place_after l k) (zero-add n)
place_after_add (suc m) n k = ap (λ (l : ℕ). place_after l k) (suc-add m n) ∙ place_after_add m n (turn k)

place_after_pairs : (n : ℕ) → place_after (20 * n) 0 ≡ 0
place_after_pairs zero = refl
place_after_pairs (suc n) =
    let e : 20 * suc n ≡ 20 + 20 * n = omega arith in
    ap (λ (l : ℕ). place_after l 0) e ∙ place_after_add 20 (20 * n) 0 ∙ place_after_pairs n

module _ (y : Bool) where
  channel_words-grouped : (n : ℕ) (bs : List Bool) → length bs ≡ 20 * n → channel_words y bs ≡ grouped n (channel_bits y 0 bs)
  channel_words-grouped n bs e =
      let k : length (channel_bits y 0 bs) / 10 ≡ n = omega (arith, channel_pairs y n bs e) in
      ap (λ (l : ℕ). grouped l (channel_bits y 0 bs)) k

  pub length-channel_words : (n : ℕ) (bs : List Bool) → length bs ≡ 20 * n → length (channel_words y bs) ≡ n
  length-channel_words n bs e = ap length (channel_words-grouped n bs e) ∙ length-grouped n (channel_bits y 0 bs)

  pub channel_words_append : (j k : ℕ) (xs ys : List Bool) → length xs ≡ 20 * j → length ys ≡ 20 * k
      → channel_words y (xs ++ ys) ≡ channel_words y xs ++ channel_words y ys
  channel_words_append j k xs ys ex ey =
      channel_words_of_append y j k xs ys ex (simp length-append (omega arith))
      ∙ ap₂ (λ (us vs : List ℕ). us ++ vs) (sym (channel_words-grouped j xs ex))
      (ap (λ (p : ℕ). grouped k (channel_bits y p ys)) (place_after_pairs j) ∙ sym (channel_words-grouped k ys ey))

  -- the words of the first pairs
  pub channel_words-take : (k n : ℕ) (bs : List Bool) → length bs ≡ 20 * (k + n) → channel_words y (take (20 * k) bs) ≡ take k (channel_words y bs)
  channel_words-take k n bs e =
      let lt : length (take (20 * k) bs) ≡ 20 * k = omega (arith, length-take (20 * k) bs) in
      let ld : length (drop (20 * k) bs) ≡ 20 * n = omega (arith, length-drop (20 * k) bs) in
      sym (take_at (channel_words y (take (20 * k) bs)) (channel_words y (drop (20 * k) bs)) k (length-channel_words k (take (20 * k) bs) lt))
      ∙ ap (take k) (sym (channel_words_append k n (take (20 * k) bs) (drop (20 * k) bs) lt ld) ∙ ap (channel_words y) (take-append-drop (20 * k) bs))

-- ---- one pair

-- the words of Y (true) or C in a pair's bits
abbrev pub word_in : Bool → List Bool → ℕ
word_in true x = number (drop 10 x)
word_in false x = number (take 10 x)

grouped_ten : (c : ℕ) (x : List Bool) → length x ≡ 10 → c ≡ number x → grouped 1 (word_bits (c ∷ [])) ≡ number x ∷ []
unfolding grouped
grouped_ten c x e f =
    let t = take_all 10 x (omega arith) in
    ap (λ (w : ℕ). grouped 1 (word_bits (w ∷ []))) (f ∙ ap number (sym t))
    ∙ ap (grouped 1) (word_bits_of_grouped 1 x e)
    ∙ ap (λ (l : List Bool). number l ∷ []) t

pub channel_words_pair : (y : Bool) (x : List Bool) → length x ≡ 20 → channel_words y x ≡ word_in y x ∷ []
unfolding grouped paired
channel_words_pair y x e = channel_words-grouped y 1 x e ∙ ap (λ (l : List Bool). grouped 1 (channel_bits y 0 l)) (sym (word_bits_of_grouped 2 x e)) ∙ go y
  where
    go : (y : Bool) → grouped 1 (channel_bits y 0 (word_bits (number (take 10 x) ∷ number (take 10 (drop 10 x)) ∷ []))) ≡ word_in y x ∷ []
    go true =
        let l : length (drop 10 x) ≡ 10 = omega (arith, length-drop 10 x) in
        ap (grouped 1) (channel_of_words (number (take 10 x) ∷ []) (number (take 10 (drop 10 x)) ∷ []) refl).1
        ∙ grouped_ten (number (take 10 (drop 10 x))) (drop 10 x) l (ap number (take_all 10 (drop 10 x) (omega arith)))
    go false =
        ap (grouped 1) (channel_of_words (number (take 10 x) ∷ []) (number (take 10 (drop 10 x)) ∷ []) refl).0
        ∙ grouped_ten (number (take 10 x)) (take 10 x) (omega (arith, length-take 10 x)) refl

-- ---- a timing code

ones : (y : Bool) → channel_words y (replicate 20 true) ≡ 0x3ff ∷ []
unfolding number
ones true = channel_words_pair true (replicate 20 true) refl
ones false = channel_words_pair false (replicate 20 true) refl

zeros : (y : Bool) → channel_words y (replicate 20 false) ≡ 0x000 ∷ []
unfolding number
zeros true = channel_words_pair true (replicate 20 false) refl
zeros false = channel_words_pair false (replicate 20 false) refl

sync_words : (y : Bool) → channel_words y (sync_of hd_unit) ≡ 0x3ff ∷ 0x000 ∷ 0x000 ∷ []
sync_words y =
    channel_words_append y 1 2 (replicate 20 true) (replicate 20 false ++ replicate 20 false) refl refl
    ∙ ap₂ (λ (us vs : List ℕ). us ++ vs) (ones y)
    (channel_words_append y 1 1 (replicate 20 false) (replicate 20 false) refl refl
    ∙ ap₂ (λ (us vs : List ℕ). us ++ vs) (zeros y) (zeros y))

-- a sync and its XYZ pair
pub channel_words-trs : (y : Bool) (x : List Bool) → length x ≡ 20 → channel_words y (sync_of hd_unit ++ x) ≡ trs (word_in y x)
channel_words-trs y x e =
    channel_words_append y 3 1 (sync_of hd_unit) x refl e
    ∙ ap₂ (λ (us vs : List ℕ). us ++ vs) (sync_words y) (channel_words_pair y x e)

-- The channels' words in the bits of words that are sent in pairs.
use mathlib.Core.Path.{◌≡◌, refl, sym, ap, ap₂, ◌∙◌}
use mathlib.Core.Bool.{Bool, true, false}
use mathlib.Core.List.{List, [], ◌∷◌, ◌++◌, append_assoc}
use Prim.Native.Nat.{ℕ, zero, suc, ◌+◌, ◌-◌, ◌*◌, ◌/◌, ◌<◌}
use native.Mathlib.Omega.{arith}
use native.Mathlib.Nat.{mod-eq_of_lt}
use lib.ListN.{drop, length, length-append, length-drop}
use lib.Seq.{drop-append-add, drop_at, drop-nil, take_at}
use Rattle.bits.specs.Bits.{bits, number, word_bits}
use Rattle.bits.specs.Words.{words10}
use Rattle.bits.proofs.Bits.{length-bits, length-word_bits, number-bits}
use Rattle.bits.proofs.Lists.{cons_equal}
use Rattle.bits.proofs.Words.{tens_drop, words10_cons, words10_head, words10_tail}
use Rattle.cable.specs.Channels.{channel_bits, paired}
use Rattle.cable.specs.Words.{grouped}
use Rattle.cable.proofs.Channels.{channel_of_words}
use Rattle.law_burst.specs.Stretch.{channel_words}

grouped_of_words : (ws : List ℕ) → words10 ws ≡ true → grouped (length ws) (word_bits ws) ≡ ws
unfolding grouped word_bits
grouped_of_words [] t = refl
grouped_of_words (w ∷ ws) t =
    let ten : w < 1024 = omega (arith, words10_head w ws t) in
    cons_equal
    (ap number (take_at (bits 10 w) (word_bits ws) 10 (length-bits 10 w)) ∙ number-bits 10 w ∙ mod-eq_of_lt ten)
    (ap (grouped (length ws)) (drop_at (bits 10 w) (word_bits ws) 10 (length-bits 10 w)) ∙ grouped_of_words ws (words10_tail w ws t))

-- ten bits a word, in each channel
channel_words_of : (y : Bool) (bs : List Bool) (ws : List ℕ) → words10 ws ≡ true → channel_bits y 0 bs ≡ word_bits ws → channel_words y bs ≡ ws
channel_words_of y bs ws t e =
    let n : length (word_bits ws) / 10 ≡ length ws = omega (arith, length-word_bits ws) in
    ap (λ (l : List Bool). grouped (length l / 10) l) e ∙ ap (λ (k : ℕ). grouped k (word_bits ws)) n ∙ grouped_of_words ws t

-- the pairs after the first k
drop_of_paired : (k : ℕ) (cs ys : List ℕ) → length cs ≡ length ys → drop (20 * k) (word_bits (paired cs ys)) ≡ word_bits (paired (drop k cs) (drop k ys))
unfolding word_bits paired
drop_of_paired zero cs ys e = refl
drop_of_paired (suc k) [] [] e = drop-nil (20 * suc k)
drop_of_paired (suc k) [] (y ∷ ys) e = absurd (omega arith)
drop_of_paired (suc k) (c ∷ cs) [] e = absurd (omega arith)
drop_of_paired (suc k) (c ∷ cs) (y ∷ ys) e =
    let pair = bits 10 c ++ bits 10 y in
    let rest = word_bits (paired cs ys) in
    let twenty : length pair ≡ 20 = length-append (bits 10 c) (bits 10 y) ∙ ap₂ (λ (m n : ℕ). m + n) (length-bits 10 c) (length-bits 10 y) in
    let count : 20 * suc k ≡ length pair + 20 * k = omega arith in
    ap₂ drop count (sym (append_assoc (bits 10 c) (bits 10 y) rest)) ∙ drop-append-add pair rest (20 * k) ∙ drop_of_paired k cs ys (omega arith)

pub tens_of_paired : (cs ys : List ℕ) → length cs ≡ length ys → words10 (paired cs ys) ≡ true → (words10 cs ≡ true) × (words10 ys ≡ true)
unfolding paired
tens_of_paired [] [] e t = (t, t)
tens_of_paired [] (y ∷ ys) e t = absurd (omega arith)
tens_of_paired (c ∷ cs) [] e t = absurd (omega arith)
tens_of_paired (c ∷ cs) (y ∷ ys) e t =
    let after = words10_tail c (y ∷ paired cs ys) t in
    let rest = tens_of_paired cs ys (omega arith) (words10_tail y (paired cs ys) after) in
    (words10_cons c cs (words10_head c (y ∷ paired cs ys) t) rest.0, words10_cons y ys (words10_head y (paired cs ys) after) rest.1)

-- the words of a channel in the pairs after the first k
pub channel_words-after : (k : ℕ) (cs ys : List ℕ) → length cs ≡ length ys → words10 (paired cs ys) ≡ true
    → (channel_words false (drop (20 * k) (word_bits (paired cs ys))) ≡ drop k cs) × (channel_words true (drop (20 * k) (word_bits (paired cs ys))) ≡ drop k ys)
channel_words-after k cs ys e t =
    let tens = tens_of_paired cs ys e t in
    let after = drop_of_paired k cs ys e in
    let both = channel_of_words (drop k cs) (drop k ys) (length-drop k cs ∙ ap (λ (n : ℕ). n - k) e ∙ sym (length-drop k ys)) in (
      channel_words_of false _ (drop k cs) (tens_drop k cs tens.0) (ap (channel_bits false 0) after ∙ both.0),
      channel_words_of true _ (drop k ys) (tens_drop k ys tens.1) (ap (channel_bits true 0) after ∙ both.1),
    )

-- Laws of the words of bytes.
use mathlib.Core.Path.{◌≡◌, refl, sym, ap, ◌∙◌}
use mathlib.Core.List.{List, [], ◌∷◌}
use Prim.Native.Nat.{ℕ, zero, suc, ◌+◌, ◌*◌, ◌≤◌, ◌<◌}
use native.Mathlib.Omega.{arith}
use lib.ListN.{length, get_or, take, drop, set}
use lib.Seq.{take_at, length-take-le}
use Rattle.bits.proofs.Lists.{fill_step}
use Rattle.reader.specs.Reader.{word_of}
use Rattle.section.specs.Section.{words_in, words_over}

-- there are as many as the bytes make
pub length-words_in : (n : ℕ) (bs : List ℕ) → 2 * n ≤ length bs → n ≤ length (words_in bs)
unfolding words_in
length-words_in zero bs h = omega arith
length-words_in (suc n) [] h = absurd (omega arith)
length-words_in (suc n) (a ∷ []) h = absurd (omega arith)
length-words_in (suc n) (a ∷ b ∷ bs) h = omega (arith, length-words_in n bs (omega arith))

-- the word at a place
get_d_words_in : (bs : List ℕ) (i : ℕ) → 2 * i + 1 < length bs → get_or (words_in bs) i 0 ≡ word_of (get_or bs (2 * i) 0) (get_or bs (2 * i + 1) 0)
unfolding words_in
get_d_words_in [] i h = absurd (omega arith)
get_d_words_in (a ∷ []) i h = absurd (omega arith)
get_d_words_in (a ∷ b ∷ bs) zero h = refl
get_d_words_in (a ∷ b ∷ bs) (suc i) h =
    let e : 2 * suc i ≡ suc (suc (2 * i)) = omega arith in
    let f : 2 * suc i + 1 ≡ suc (suc (2 * i + 1)) = omega arith in
    rw (f, e) (get_d_words_in bs i (omega arith))

-- a turn of the loop that lays them
pub over_step : (bs ws : List ℕ) (i w : ℕ) → 2 * i + 1 < length bs → i < length ws → w ≡ word_of (get_or bs (2 * i) 0) (get_or bs (2 * i + 1) 0)
    → set (words_over i bs ws) i w ≡ words_over (i + 1) bs ws
over_step bs ws i w h l e =
    ap (set (words_over i bs ws) i) (e ∙ sym (get_d_words_in bs i h))
    ∙ fill_step (words_in bs) ws i (omega (arith, length-words_in (i + 1) bs (omega arith))) l

-- what was laid stands first
pub first_over : (n : ℕ) (bs ws : List ℕ) → 2 * n ≤ length bs → take n (words_over n bs ws) ≡ take n (words_in bs)
first_over n bs ws h = take_at (take n (words_in bs)) (drop n ws) n (length-take-le n (words_in bs) (length-words_in n bs h))

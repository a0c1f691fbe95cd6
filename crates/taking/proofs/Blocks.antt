-- Laws of words unscrambled into a block, and of a feed's words block by block.
use mathlib.Core.Path.{◌≡◌, sym, ap, ◌∙◌}
use mathlib.Core.Bool.{Bool}
use mathlib.Core.List.{List, [], ◌∷◌, ◌++◌, append-nil, append_assoc}
use Prim.Native.Nat.{ℕ, zero, suc, ◌+◌, ◌≤◌, ◌<◌}
use native.Mathlib.Omega.{arith}
use native.Mathlib.Numerals.{add-one}
use lib.ListN.{length, get_or, set, take, drop, drop_of_length-le}
use lib.Seq.{drop-cons, take-suc-set}
use Rattle.bits.specs.Bits.{word_bits}
use Rattle.bits.proofs.Bits.{word_bits_append}
use Rattle.cable.specs.Words.{unscramble_word, unscramble_words}
use Rattle.cable.proofs.Words.{unscramble_nil, unscramble_step}
use Rattle.laying.specs.Laying.{laid_by}
use Rattle.stepper.specs.Step.{Run, steps}
use Rattle.stepper.proofs.Stepping.{steps_of_append}

-- a turn of the loop over words, and its end
pub block_turn : (i h : ℕ) (ws block : List ℕ) {d : ℕ} → i < length ws → i < length block → d ≡ unscramble_word h (get_or ws i 0)
    → take i block ++ unscramble_words h (drop i ws) ≡ take (i + 1) (set block i d) ++ unscramble_words (get_or ws i 0) (drop (i + 1) ws)
block_turn i h ws block {d} few room e =
    let w = get_or ws i 0 in
    rw (add-one, drop-cons ws i 0 few, unscramble_step h w (drop (suc i) ws), ← e, take-suc-set block i d room)
    (sym (append_assoc (take i block) (d ∷ []) (unscramble_words w (drop (suc i) ws))))

pub block_end : (i h : ℕ) (ws block : List ℕ) {all : List ℕ} → i ≡ length ws → all ≡ take i block ++ unscramble_words h (drop i ws) → take (length ws) block ≡ all
block_end i h ws block e f =
    let past : length ws ≤ length ws = omega arith in
    sym (f ∙ rw (e, drop_of_length-le ws past, unscramble_nil h) (append-nil (take (length ws) block)))

-- words that are cut: each part after the word before it
cut : (n h : ℕ) (ws rest : List ℕ) → length ws ≡ suc n → unscramble_words h (ws ++ rest) ≡ unscramble_words h ws ++ unscramble_words (get_or ws n 0) rest
cut n h [] rest e = absurd (omega arith)
cut zero h (w ∷ []) rest e =
    unscramble_step h w rest
    ∙ ap (λ v. v ++ unscramble_words w rest) (sym (unscramble_step h w [] ∙ ap (λ v. unscramble_word h w ∷ v) (unscramble_nil w)))
cut zero h (w ∷ v ∷ ws) rest e = absurd (omega arith)
cut (suc n) h (w ∷ ws) rest e =
    unscramble_step h w (ws ++ rest)
    ∙ ap (λ v. unscramble_word h w ∷ v) (cut n w ws rest (omega arith))
    ∙ ap (λ v. v ++ unscramble_words (get_or ws n 0) rest) (sym (unscramble_step h w ws))

-- a turn of the loop over the blocks
pub blocks_turn : (code total n h : ℕ) (ws rest : List ℕ) (x : Run) {d : List ℕ} {r : Run} → length ws ≡ suc n
    → d ≡ unscramble_words h ws → r ≡ steps laid_by code total (word_bits d) x
    → steps laid_by code total (word_bits (unscramble_words h (ws ++ rest))) x
    ≡ steps laid_by code total (word_bits (unscramble_words (get_or ws n 0) rest)) r
blocks_turn code total n h ws rest x {d} some f g =
    let left = unscramble_words (get_or ws n 0) rest in
    ap (λ (v : List ℕ). steps laid_by code total (word_bits v) x) (cut n h ws rest some ∙ ap (λ u. u ++ left) (sym f))
    ∙ ap (λ (v : List Bool). steps laid_by code total v x) (word_bits_append d left)
    ∙ steps_of_append laid_by code total (word_bits d) (word_bits left) x
    ∙ ap (steps laid_by code total (word_bits left)) (sym g)

pub blocks_end : (code total h : ℕ) (ws : List ℕ) (x : Run) → length ws ≡ 0 → steps laid_by code total (word_bits (unscramble_words h ws)) x ≡ x
unfolding steps word_bits
blocks_end code total h [] x none = rw (unscramble_nil h)
blocks_end code total h (w ∷ ws) x none = absurd (omega arith)

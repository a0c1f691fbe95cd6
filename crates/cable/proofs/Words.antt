-- Laws of scrambled and unscrambled words, and of the next history.
use mathlib.Core.Path.{◌≡◌, refl, sym, ap, ◌∙◌}
use mathlib.Core.Bool.{Bool, true}
use mathlib.Core.List.{List, [], ◌∷◌, ◌++◌}
use Prim.Native.Nat.{ℕ, zero, suc, ◌%◌, ◌≤◌, ◌<◌}
use native.Mathlib.Omega.{arith}
use native.Mathlib.Nat.{mod-eq_of_lt}
use lib.Dec.{leb}
use lib.ListN.{length, drop}
use borrow.Author.Tests.{leb-true}
use Rattle.bits.specs.Bits.{bits, number, word_bits}
use Rattle.bits.specs.Words.{words10}
use Rattle.bits.proofs.Choice.{if_zero}
use Rattle.bits.proofs.Bits.{number-bits}
use Rattle.std.specs.Prelude.{Err}
use Rattle.refusal.specs.Refusal.{refusal_numbered, refusal_of}
use Rattle.refusal.proofs.Answers.{result_of_bad, refusal_of_result}
use Rattle.cable.specs.Bits.{scrambled, unscrambled, past}
use Rattle.cable.specs.Words.{scramble_words, unscramble_words, scramble_word, unscramble_word, last_ten, scramble_next, unscramble_next, code_refusal, coded, filled}
use Rattle.bits.proofs.Lists.{cons_equal}
use Rattle.bits.proofs.Words.{words10_head, words10_tail}
use Rattle.cable.proofs.Bits.{cable_bit, data_bit, taken_bit, taken, scrambled_bitwise, unscrambled_bitwise, taken_bitwise, unscrambled_of_scrambled, unscrambled_from_eleventh}
use Rattle.cable.proofs.Coding.{Coding, word_bits_are, word_range, words_nil, words_step, length_words, words_range, words_bits, next_none, next_step, next_range, words_of_append, next_of_append}

-- ---- the two codings: the history after a word is the word made, or the word taken

pub scrambling : Coding scrambled scrambled cable_bit cable_bit scramble_word
unfolding scramble_word
scrambling = record { made = scrambled_bitwise; sent = scrambled_bitwise; on_bits = word_bits_are scrambled_bitwise; on_range = λ h w _. word_range scrambled_bitwise h w }

pub unscrambling : Coding unscrambled taken data_bit taken_bit (λ (h w : ℕ). w)
unscrambling = record { made = unscrambled_bitwise; sent = taken_bitwise; on_bits = λ h w. refl; on_range = λ h w low. low }

pub scramble_nil : (h : ℕ) → scramble_words h [] ≡ []
unfolding scramble_words
scramble_nil = words_nil scrambling

pub unscramble_nil : (h : ℕ) → unscramble_words h [] ≡ []
unfolding unscramble_words
unscramble_nil = words_nil unscrambling

pub scramble_step : (h w : ℕ) (ws : List ℕ) → scramble_words h (w ∷ ws) ≡ scramble_word h w ∷ scramble_words (scramble_word h w) ws
unfolding scramble_word scramble_words
scramble_step = words_step scrambling

pub unscramble_step : (h w : ℕ) (ws : List ℕ) → unscramble_words h (w ∷ ws) ≡ unscramble_word h w ∷ unscramble_words w ws
unfolding unscramble_word unscramble_words
unscramble_step = words_step unscrambling

pub length_scramble : (h : ℕ) (ws : List ℕ) → length (scramble_words h ws) ≡ length ws
unfolding scramble_words
length_scramble = length_words scrambling

pub length_unscramble : (h : ℕ) (ws : List ℕ) → length (unscramble_words h ws) ≡ length ws
unfolding unscramble_words
length_unscramble = length_words unscrambling

pub scramble_range : (ws : List ℕ) (h : ℕ) → words10 (scramble_words h ws) ≡ true
unfolding scramble_words
scramble_range = words_range scrambling

pub unscramble_range : (ws : List ℕ) (h : ℕ) → words10 (unscramble_words h ws) ≡ true
unfolding unscramble_words
unscramble_range = words_range unscrambling

pub scrambled_words_bits : (ws : List ℕ) (h : ℕ) → word_bits (scramble_words h ws) ≡ scrambled (past h) (word_bits ws)
unfolding scramble_words
scrambled_words_bits = words_bits scrambling

pub unscrambled_words_bits : (ws : List ℕ) (h : ℕ) → word_bits (unscramble_words h ws) ≡ unscrambled (past h) (word_bits ws)
unfolding unscramble_words
unscrambled_words_bits = words_bits unscrambling

-- ---- the next history

pub unscramble_next_step : (h w : ℕ) (ws : List ℕ) → unscramble_next h (w ∷ ws) ≡ unscramble_next w ws
unfolding unscramble_next
unscramble_next_step = next_step unscrambling

-- "for no words, the one given"
pub scramble_next_none : (h : ℕ) → h ≤ 0x3ff → scramble_next h [] ≡ h
unfolding scramble_next
scramble_next_none = next_none scrambling

pub unscramble_next_none : (h : ℕ) → h ≤ 0x3ff → unscramble_next h [] ≡ h
unfolding unscramble_next
unscramble_next_none = next_none unscrambling

pub scramble_next_range : (ws : List ℕ) (h : ℕ) → scramble_next h ws ≤ 0x3ff
unfolding scramble_next
scramble_next_range = next_range scrambling

pub unscramble_next_range : (ws : List ℕ) (h : ℕ) → unscramble_next h ws ≤ 0x3ff
unfolding unscramble_next
unscramble_next_range = next_range unscrambling

-- ---- words after words

pub scramble_of_append : (ws vs : List ℕ) (h : ℕ) → scramble_words h (ws ++ vs) ≡ scramble_words h ws ++ scramble_words (scramble_next h ws) vs
unfolding scramble_words scramble_next
scramble_of_append = words_of_append scrambling

pub unscramble_of_append : (ws vs : List ℕ) (h : ℕ) → unscramble_words h (ws ++ vs) ≡ unscramble_words h ws ++ unscramble_words (unscramble_next h ws) vs
unfolding unscramble_words unscramble_next
unscramble_of_append = words_of_append unscrambling

pub scramble_next_of_append : (ws vs : List ℕ) (h : ℕ) → scramble_next h (ws ++ vs) ≡ scramble_next (scramble_next h ws) vs
unfolding scramble_next
scramble_next_of_append = next_of_append scrambling

pub unscramble_next_of_append : (ws vs : List ℕ) (h : ℕ) → unscramble_next h (ws ++ vs) ≡ unscramble_next (unscramble_next h ws) vs
unfolding unscramble_next
unscramble_next_of_append = next_of_append unscrambling

-- ---- there and back: the receiver's words are the sender's, and its history follows the sender's

unscramble_of_scramble_word : (h d : ℕ) → unscramble_word h (scramble_word h d) ≡ d % 1024
unfolding unscramble_word
unscramble_of_scramble_word h d =
    ap (λ (bs : List Bool). number (unscrambled (past h) bs)) (scrambling.on_bits h d)
    ∙ ap number (unscrambled_of_scrambled (past h) (bits 10 d)) ∙ number-bits 10 d

pub unscramble_of_scramble : (ws : List ℕ) (h : ℕ) → words10 ws ≡ true → unscramble_words h (scramble_words h ws) ≡ ws
unscramble_of_scramble [] h t = ap (unscramble_words h) (scramble_nil h) ∙ unscramble_nil h
unscramble_of_scramble (d ∷ ds) h t =
    let s = scramble_word h d in
    let r : d ≤ 0x3ff = words10_head d ds t in
    ap (unscramble_words h) (scramble_step h d ds)
    ∙ unscramble_step h s (scramble_words s ds)
    ∙ cons_equal (unscramble_of_scramble_word h d ∙ mod-eq_of_lt (omega arith)) (unscramble_of_scramble ds s (words10_tail d ds t))

pub next_of_scramble : (h : ℕ) (ws : List ℕ) → scramble_next h ws ≡ unscramble_next h (scramble_words h ws)
unfolding scramble_next unscramble_next
next_of_scramble h ws = ap (λ (bs : List Bool). last_ten (bits 10 h ++ bs)) (sym (scrambled_words_bits ws h))

-- "From any two histories, unscrambled bits agree from the eleventh on."
pub unscramble_from_eleventh : (g h : ℕ) (ws : List ℕ) → drop 10 (word_bits (unscramble_words g ws)) ≡ drop 10 (word_bits (unscramble_words h ws))
unscramble_from_eleventh g h ws =
    ap (drop 10) (unscrambled_words_bits ws g) ∙ unscrambled_from_eleventh (past g) (past h) (word_bits ws) ∙ sym (ap (drop 10) (unscrambled_words_bits ws h))

-- ---- refusals

-- "A refusal returns its number ..": its row of the table alone, and no history
pub coded-refused : (n next : ℕ) → (n ≡ 0 → ⊥) → (coded n next ≡ Err (refusal_numbered n)) × (n < 8 → refusal_of (coded n next) ≡ n)
coded-refused n next h = (result_of_bad next n h, refusal_of_result next n)

-- "A refusal .. changes no buffer"
pub filled-refused : (n : ℕ) (result out : List ℕ) → (n ≡ 0 → ⊥) → out ≡ filled n result out
filled-refused zero result out h = absurd (h refl)
filled-refused (suc n) result out h = refl

-- no refusal: history and words are of ten bits, and the output has the room
pub code_refusal_none : (h : ℕ) (ws : List ℕ) (room : ℕ) → code_refusal h ws room ≡ 0 → (h ≤ 0x3ff) × (words10 ws ≡ true) × (length ws ≤ room)
unfolding code_refusal
code_refusal_none h ws room e =
    let a = if_zero (leb h 0x3ff) _ 2 e in
    let b = if_zero (words10 ws) _ 2 a.1 in
    (leb-true h 0x3ff a.0, b.0, leb-true (length ws) room (if_zero (leb (length ws) room) 0 0 b.1).0)

-- Scrambling and unscrambling of words.
use Rattle.std.specs.Prelude.{Bool, List, [], ◌∷◌, ◌++◌, ℕ, zero, suc, ◌-◌, leb, length, take, drop, Result}
use Rattle.bits.specs.Choice.{if}
use Rattle.bits.specs.Bits.{bits, number, word_bits}
use Rattle.bits.specs.Words.{words10}
use Rattle.refusal.specs.declared.Refusal.{Refusal}
use Rattle.refusal.specs.Refusal.{result_of}
use Rattle.cable.specs.Bits.{scrambled, unscrambled, past}

-- ten bits at a time, k words
unfoldable pub grouped : ℕ → List Bool → List ℕ
grouped zero bs = []
grouped (suc k) bs = number (take 10 bs) ∷ grouped k (drop 10 bs)

-- "Each sample pair is sent C word first, then Y, each lowest bit first.": words are in the order in which they are sent;
-- the words of their scrambled, or unscrambled, bits
unfoldable pub scramble_words : ℕ → List ℕ → List ℕ
scramble_words h ws = grouped (length ws) (scrambled (past h) (word_bits ws))

unfoldable pub unscramble_words : ℕ → List ℕ → List ℕ
unscramble_words h ws = grouped (length ws) (unscrambled (past h) (word_bits ws))

-- one word
unfoldable pub scramble_word : ℕ → ℕ → ℕ
scramble_word h d = number (scrambled (past h) (bits 10 d))

unfoldable pub unscramble_word : ℕ → ℕ → ℕ
unscramble_word h w = number (unscrambled (past h) (bits 10 w))

-- "all zero unless one is given"
abbrev pub start_history : ℕ
start_history = 0

-- "the last ten cable bits as one word, oldest lowest"
unfoldable pub last_ten : List Bool → ℕ
last_ten bs = number (drop (length bs - 10) bs)

-- "Scrambling and unscrambling answer the next history too; for no words, the one given."
unfoldable pub scramble_next : ℕ → List ℕ → ℕ
scramble_next h ws = last_ten (bits 10 h ++ scrambled (past h) (word_bits ws))

unfoldable pub unscramble_next : ℕ → List ℕ → ℕ
unscramble_next h ws = last_ten (bits 10 h ++ word_bits ws)

-- "3: a word or history above 3FF", then "1: output .. too short for the result"; the room is the output's length
unfoldable pub code_refusal : ℕ → List ℕ → ℕ → ℕ
code_refusal h ws room = if (leb h 0x3ff) (if (words10 ws) (if (leb (length ws) room) 0 1) 3) 3

-- the answer for a refusal and the next history
abbrev pub coded : ℕ → ℕ → Result ℕ Refusal
coded = result_of

-- ".. changes no buffer ..", "Beyond what a result fills, a buffer keeps what it held."
abbrev pub filled : ℕ → List ℕ → List ℕ → List ℕ
filled zero result out = result ++ drop (length result) out
filled (suc n) result out = out

-- Coding a word at a time.
use Rattle.std.specs.Prelude.{List, [], ◌∷◌, ℕ}

-- the words that steps make of words, one after the other, and the history after the last: a step goes from a history and a word to the word that is
-- made and the next history
pub data Stepwise (step : ℕ → ℕ → ℕ × ℕ → Type 0) : ℕ → List ℕ → List ℕ → ℕ → Type 0 where
  none : {h : ℕ} → Stepwise step h [] [] h
  more : {h w v next last : ℕ} {ws vs : List ℕ} → step h w (v, next) → Stepwise step next ws vs last → Stepwise step h (w ∷ ws) (v ∷ vs) last

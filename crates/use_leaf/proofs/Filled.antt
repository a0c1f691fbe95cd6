-- Beyond the words that are coded, an output keeps what it held.
use mathlib.Core.Path.{◌≡◌, refl, ap, ◌∙◌}
use mathlib.Core.List.{List}
use Prim.Native.Nat.{ℕ, zero, suc}
use lib.ListN.{length, drop}
use lib.Seq.{drop_at}
use Rattle.cable.specs.Words.{filled, scramble_words, unscramble_words}
use Rattle.cable.proofs.Words.{length_scramble, length_unscramble}

filled_beyond : (n k : ℕ) (result out : List ℕ) → length result ≡ k → drop k (filled n result out) ≡ drop k out
filled_beyond zero k result out e = drop_at result (drop (length result) out) k e ∙ ap (λ (i : ℕ). drop i out) e
filled_beyond (suc n) k result out e = refl

pub scramble_beyond : (n h : ℕ) (ws out : List ℕ) → drop (length ws) (filled n (scramble_words h ws) out) ≡ drop (length ws) out
scramble_beyond n h ws out = filled_beyond n (length ws) (scramble_words h ws) out (length_scramble h ws)

pub unscramble_beyond : (n h : ℕ) (ws out : List ℕ) → drop (length ws) (filled n (unscramble_words h ws) out) ≡ drop (length ws) out
unscramble_beyond n h ws out = filled_beyond n (length ws) (unscramble_words h ws) out (length_unscramble h ws)

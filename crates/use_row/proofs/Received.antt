-- Cable words that are unscrambled into a buffer: the buffer's first words.
use mathlib.Core.Path.{◌≡◌, ap, ◌∙◌}
use mathlib.Core.List.{List}
use Prim.Native.Nat.{ℕ}
use lib.ListN.{length}
use lib.Seq.{take_at}
use Rattle.cable.specs.Words.{code_refusal, filled, unscramble_words}
use Rattle.cable.proofs.Words.{length_unscramble}
use Rattle.parts.specs.Parts.{part}

pub unscramble_words_sent : (h : ℕ) (ws out sent : List ℕ) {after : List ℕ} → code_refusal h ws (length out) ≡ 0
    → after ≡ filled (code_refusal h ws (length out)) (unscramble_words h ws) out → sent ≡ part 0 (length ws) after → sent ≡ unscramble_words h ws
unscramble_words_sent h ws out sent ok f s =
    let whole = f ∙ ap (λ (n : ℕ). filled n (unscramble_words h ws) out) ok in
    s ∙ ap (part 0 (length ws)) whole ∙ take_at (unscramble_words h ws) _ (length ws) (length_unscramble h ws)

-- There and back: the words that were scrambled are unscrambled again.
use mathlib.Core.Path.{◌≡◌, refl, sym, ap, ◌∙◌}
use mathlib.Core.Bool.{Bool, true, false}
use mathlib.Core.List.{List, ◌++◌}
use Prim.Native.Nat.{ℕ, ◌≤◌}
use lib.Dec.{leb}
use lib.ListN.{length, drop}
use lib.Seq.{take_at}
use borrow.Author.Tests.{le-leb}
use Rattle.std.specs.Prelude.{Result}
use Rattle.bits.specs.Choice.{if}
use Rattle.bits.specs.Words.{words10}
use Rattle.refusal.specs.declared.Refusal.{Refusal}
use Rattle.refusal.specs.Refusal.{refusal_numbered, refusal_of}
use Rattle.cable.specs.Words.{code_refusal, coded, filled, scramble_next, scramble_words, unscramble_next, unscramble_words}
use Rattle.cable.proofs.Words.{code_refusal_none, length_scramble, next_of_scramble, scramble_range, unscramble_of_scramble}
use Rattle.parts.specs.Parts.{part}

-- an answer says its number
pub coded_number : (h : ℕ) (ws : List ℕ) (room next : ℕ) → refusal_of (coded (code_refusal h ws room) next) ≡ code_refusal h ws room
unfolding code_refusal refusal_numbered
coded_number h ws room next = go (leb h 0x3ff) (words10 ws) (leb (length ws) room)
  where
    go : (a b c : Bool) → refusal_of (coded (if a (if b (if c 0 1) 3) 3) next) ≡ if a (if b (if c 0 1) 3) 3
    go true true true = refl
    go true true false = refl
    go true false c = refl
    go false b c = refl

-- the cable's first words are those that were scrambled
sent_words : (h : ℕ) (ws cable : List ℕ) → code_refusal h ws (length cable) ≡ 0
    → part 0 (length ws) (filled (code_refusal h ws (length cable)) (scramble_words h ws) cable) ≡ scramble_words h ws
sent_words h ws cable ok = rw ok (take_at (scramble_words h ws) _ (length ws) (length_scramble h ws))

sent_refusal : (h : ℕ) (ws : List ℕ) (room other : ℕ) → code_refusal h ws room ≡ 0 → length ws ≤ other → code_refusal h (scramble_words h ws) other ≡ 0
unfolding code_refusal
sent_refusal h ws room other ok fits =
    let none = code_refusal_none h ws room ok in
    rw (le-leb h 0x3ff none.0, scramble_range ws h, length_scramble h ws, le-leb (length ws) other fits)

pub there_and_back : (h : ℕ) (ws cable out sent : List ℕ) {cable_after out_after : List ℕ} {there back : Result ℕ Refusal}
    → there ≡ coded (code_refusal h ws (length cable)) (scramble_next h ws)
    → cable_after ≡ filled (code_refusal h ws (length cable)) (scramble_words h ws) cable
    → sent ≡ part 0 (length ws) cable_after
    → back ≡ coded (code_refusal h sent (length out)) (unscramble_next h sent)
    → out_after ≡ filled (code_refusal h sent (length out)) (unscramble_words h sent) out
    → refusal_of there ≡ 0
    → length ws ≤ length out
    → (back ≡ there) × (out_after ≡ ws ++ drop (length ws) out)
there_and_back h ws cable out sent t u s b o z fits =
    let ok : code_refusal h ws (length cable) ≡ 0 = sym (coded_number h ws (length cable) (scramble_next h ws)) ∙ sym (ap (λ r. refusal_of r) t) ∙ z in
    let same : sent ≡ scramble_words h ws = s ∙ ap (part 0 (length ws)) u ∙ sent_words h ws cable ok in
    let taken = sent_refusal h ws (length cable) (length out) ok fits in
    let again = unscramble_of_scramble ws h (code_refusal_none h ws (length cable) ok).1 in
    (b ∙ rw (same, taken, ← next_of_scramble h ws) (sym (t ∙ rw ok)), o ∙ rw (same, taken, again))

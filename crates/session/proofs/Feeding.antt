-- Laws of a feed: the fold that it means, and the history after its words.
use mathlib.Core.Path.{◌≡◌, ◌∙◌}
use mathlib.Core.Bool.{true}
use mathlib.Core.List.{List, [], ◌∷◌}
use Prim.Native.Nat.{ℕ, suc, ◌-◌, ◌≤◌, ◌<◌}
use native.Mathlib.Omega.{arith}
use lib.ListN.{length, get_or}
use Rattle.bits.specs.Bits.{word_bits}
use Rattle.bits.specs.Words.{words10}
use Rattle.bits.proofs.Words.{words10_head, words10_tail}
use Rattle.raster.specs.Table.{total_of}
use Rattle.cable.specs.Words.{unscramble_words, unscramble_next}
use Rattle.cable.proofs.Words.{unscramble_next_step, unscramble_next_none}
use Rattle.laying.specs.Laying.{laid_by}
use Rattle.session.specs.declared.Session.{Session}
use Rattle.stepper.specs.Step.{Run, run, steps}
use Rattle.session.specs.Session.{fed_run}

-- the fold that a feed means, with T at hand
pub fed_run-steps : (s : Session) (ws y c : List ℕ) {total : ℕ} {x : Run} → total ≡ total_of s.raster
    → x ≡ steps laid_by s.raster total (word_bits (unscramble_words s.history ws)) (run s.state y c) → x ≡ fed_run s ws y c
unfolding fed_run
fed_run-steps s ws y c t e = rw (← t) e

-- the history after words is the last of them
pub unscramble_next_last : (h : ℕ) (ws : List ℕ) → words10 ws ≡ true → 0 < length ws → unscramble_next h ws ≡ get_or ws (length ws - 1) 0
unscramble_next_last h [] t l = absurd (omega arith)
unscramble_next_last h (w ∷ []) t l = unscramble_next_step h w [] ∙ unscramble_next_none w (words10_head w [] t)
unscramble_next_last h (w ∷ v ∷ vs) t l =
    let e : length (w ∷ v ∷ vs) - 1 ≡ suc (length (v ∷ vs) - 1) = omega arith in
    rw e (unscramble_next_step h w (v ∷ vs) ∙ unscramble_next_last w (v ∷ vs) (words10_tail w (v ∷ vs) t) (omega arith))

pub unscramble_next_of_none : (h : ℕ) (ws : List ℕ) → h ≤ 0x3ff → length ws ≡ 0 → unscramble_next h ws ≡ h
unscramble_next_of_none h [] l e = unscramble_next_none h l
unscramble_next_of_none h (w ∷ ws) l e = absurd (omega arith)

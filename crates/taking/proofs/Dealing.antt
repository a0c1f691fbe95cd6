-- Words dealt out to two rows, pair after pair; and what is left to do after pairs that were cut out of the words.
use mathlib.Core.Path.{◌≡◌, refl, ap, ap₂, ◌∙◌}
use mathlib.Core.Bool.{true}
use mathlib.Core.List.{List, [], ◌∷◌}
use Prim.Native.Nat.{ℕ, zero, suc, ◌+◌, ◌*◌, ◌/◌, ◌%◌, ◌≤◌, ◌<◌}
use native.Mathlib.Omega.{arith}
use lib.ListN.{length, get_or, set, drop}
use lib.Seq.{get_or-take, get_or-drop}
use Rattle.bits.specs.Words.{words10}
use Rattle.bits.proofs.Words.{words10_nil, words10_cons}
use Rattle.parts.specs.Parts.{part}
use Rattle.recogniser.specs.Event.{place}
use Rattle.stepper.specs.declared.State.{State}
use Rattle.stepper.specs.Step.{run}
use Rattle.taking.specs.Hurry.{CalmFor, gone_on, last_after, standing}
use Rattle.taking.proofs.Words.{lay_turn, straddled}
use Rattle.taking.specs.Deal.{dealt, straddling}

-- one pair more
pub dealt_one : (ws : List ℕ) (which from k n : ℕ) (row₀ : List ℕ) {row : List ℕ} {i j : ℕ} → row ≡ dealt ws which from k row₀ → from + k ≡ i → 2 * k + which ≡ j → suc k ≡ n
    → set row i (get_or ws j 0) ≡ dealt ws which from n row₀
dealt_one ws which from k n row₀ e f g h = rw (← f, ← g, ← h, e)

-- words that were cut are of ten bits, and are the same where the words were a part of others
pub tens_each : (ws : List ℕ) → ((i : ℕ) → i < length ws → get_or ws i 0 ≤ 0x3ff) → words10 ws ≡ true
tens_each [] each = words10_nil [] refl
tens_each (w ∷ ws) each = words10_cons w ws (each 0 (omega arith)) (tens_each ws (λ i h. each (suc i) (omega arith)))

pub straddling_part : (from n : ℕ) (ws : List ℕ) (i up : ℕ) → i + 1 < n → straddling (part from n ws) i up ≡ straddling ws (from + i) up
straddling_part from n ws i up h =
    let e : from + (i + 1) ≡ from + i + 1 = omega arith in
    let at = λ (j : ℕ) (m : j < n). get_or-take n (drop from ws) j 0 m ∙ get_or-drop from ws j 0 in
    rw (at i (omega arith), at (i + 1) h, e)

-- the pairs after the first, cut out of the words from the one on in which the second begins
module _ (ws : List ℕ) (tens : words10 ws ≡ true) (l bit j : ℕ) (low : bit ≤ 19) (sixty : l < 0x1000000000000000) (here : j + bit / 10 ≡ 1)
    (cut : List ℕ) where
  abbrev Cut : ℕ → Type 0
  Cut n = (i : ℕ) → i < n → get_or cut i 0 ≡ straddling ws (j + i) (bit % 10)

  pub laid_cut : (code total : ℕ) (s : State) (from k : ℕ) (y c : List ℕ) → 1 ≤ from → from + k < total → 2 * (k + 1) ≤ length ws → CalmFor l ws (k + 1) → Cut (2 * k)
      → gone_on code total (drop (2 * (0 + 1)) ws) (run (standing s (last_after l ws (0 + 1)) (place (from + (0 + 1)) bit)) y c)
      ≡ gone_on code total (drop (2 * (k + 1)) ws) (run (standing s (last_after l ws (k + 1)) (place (from + (k + 1)) bit)) (dealt cut 1 (from + 1) k y) (dealt cut 0 (from + 1) k c))
  laid_cut code total s from zero y c some room fits calm all = refl
  laid_cut code total s from (suc k) y c some room fits calm all =
      let laid = straddled ws tens l (k + 1) bit (j + 2 * k) (omega arith) (omega arith) sixty low (omega arith) in
      laid_cut code total s from k y c some (omega arith) (omega arith) (λ i h. calm i (omega arith)) (λ i h. all i (omega arith))
      ∙ lay_turn ws tens code total s l (k + 1) from bit (dealt cut 1 (from + 1) k y) (dealt cut 0 (from + 1) k c) (omega arith) (calm (k + 1) (omega arith)) low some (omega arith)
      (all (2 * k + 1) (omega arith) ∙ words_of (2 * k + 1) (j + 2 * k + 1) (omega arith) ∙ laid.1)
      (all (2 * k + 0) (omega arith) ∙ words_of (2 * k + 0) (j + 2 * k) (omega arith) ∙ laid.0)
      ∙ ap₂ (λ (n i : ℕ). gone_on code total (drop (2 * n) ws) (run (standing s (last_after l ws n) (place (from + n) bit)) (set (dealt cut 1 (from + 1) k y) i (get_or cut (2 * k + 1) 0)) (set (dealt cut 0 (from + 1) k c) i (get_or cut (2 * k + 0) 0)))) next place_is
    where
      words_of : (i n : ℕ) → j + i ≡ n → straddling ws (j + i) (bit % 10) ≡ straddling ws n (bit % 10)
      words_of i n e = ap (λ (m : ℕ). straddling ws m (bit % 10)) e

      next : k + 1 + 1 ≡ suc k + 1
      next = omega arith

      place_is : from + (k + 1) ≡ from + 1 + k
      place_is = omega arith

-- Two words of zeros one after the other: none among neighbours so far, and so each pair calm after the first.
use mathlib.Core.Path.{◌≡◌, refl, subst, ◌∙◌}
use mathlib.Core.Bool.{Bool, true, false}
use mathlib.Core.List.{List}
use Prim.Native.Nat.{ℕ, zero, suc, ◌+◌, ◌*◌, ◌≤◌, ◌<◌}
use native.Mathlib.Omega.{arith}
use lib.Dec.{ltb}
use lib.ListN.{length, get_or, take, length-take}
use lib.Seq.{get_or-take}
use borrow.Author.Count.{below_more}
use borrow.Author.Tests.{ltb-true, ltb-false}
use Rattle.bits.specs.Words.{words10}
use Rattle.taking.specs.Hurry.{Calm, CalmFor, NoGap, last_after}
use Rattle.taking.proofs.Sliding.{calm_high}
use Rattle.taking.proofs.Words.{pair_at, last_next, last_none}

-- ---- pairs in which no sync can end

module _ (ws : List ℕ) (tens : words10 ws ≡ true) (l : ℕ) where
  pub calm_more : (k : ℕ) → CalmFor l ws k → Calm (last_after l ws k) → CalmFor l ws (k + 1)
  calm_more k before here = below_more (λ j. Calm (last_after l ws j)) k before here

  -- a pair that is not all zeros leaves a one among the last twenty bits
  calm_after : (k : ℕ) → 2 * k + 1 < length ws → (get_or ws (2 * k) 0 ≡ 0 → get_or ws (2 * k + 1) 0 ≡ 0 → ⊥) → Calm (last_after l ws (k + 1))
  calm_after k fits some = calm_high (last_after l ws (k + 1)) (go (ltb 0 (pair_at ws tens (2 * k))) refl)
    where
      go : (t : Bool) → ltb 0 (pair_at ws tens (2 * k)) ≡ t → 0x10000000000 ≤ last_after l ws (k + 1)
      go true e = omega (arith, ltb-true 0 (pair_at ws tens (2 * k)) e, last_next ws tens l k fits)
      go false e = let z = ltb-false 0 (pair_at ws tens (2 * k)) e in absurd (some (omega (arith, z)) (omega (arith, z)))

  pub calm_no_gap : (n : ℕ) → Calm l → NoGap (take (2 * n) ws) → 2 * n ≤ length ws → CalmFor l ws n
  calm_no_gap n first none fits zero h = rw (last_none ws tens l) first
  calm_no_gap n first none fits (suc k) h =
      let e : k + 1 ≡ suc k = omega arith in
      let at = λ (i : ℕ) (m : i < 2 * n). get_or-take (2 * n) ws i 0 m in
      subst (λ (m : ℕ). Calm (last_after l ws m)) e
      (calm_after k (omega arith)
      (λ a b. none (2 * k) (omega (arith, length-take (2 * n) ws)) (at (2 * k) (omega arith) ∙ a) (at (2 * k + 1) (omega arith) ∙ b)))

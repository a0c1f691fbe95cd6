-- Laws of part and in_part: where a part stands, and a change that keeps the part's length, which is the change laid over it.
use mathlib.Core.Path.{◌≡◌, sym, ap, ◌∙◌}
use mathlib.Core.List.{List, [], ◌∷◌, ◌++◌}
use Prim.Native.Nat.{ℕ, zero, suc, ◌+◌, ◌-◌, ◌≤◌, min}
use native.Mathlib.Omega.{arith}
use lib.ListN.{length, take, drop, length-take, length-drop}
use lib.Seq.{drop-nil, drop-drop}
use borrow.Rule.Slice.PartMut.{put_mid}
use Rattle.std.proofs.lemmas.List.{take_min, drop_min}
use Rattle.parts.specs.Parts.{part, in_part, laid}
use Rattle.parts.proofs.Laid.{length-laid, laid_cons, laid_front, part_before_laid, part-after-laid, part_over_laid}

-- ---- part

pub length_part : (from count : ℕ) (ws : List ℕ) → from + count ≤ length ws → length (part from count ws) ≡ count
length_part from count ws h = simp (length-take, length-drop) (omega arith)

-- ---- the places of a part

module _ (from count : ℕ) (ws : List ℕ) {start end : ℕ} (s : start ≡ min from (length ws)) (e : end ≡ min (from + count) (length ws)) where
  rest_from : drop start ws ≡ drop from ws
  rest_from = rw s (drop_min from ws)

  rest-after : drop (end - start) (drop start ws) ≡ drop count (drop from ws)
  rest-after =
      let on : start + (end - start) ≡ end = omega arith in
      drop-drop (end - start) start ws ∙ rw (on, e) (drop_min (from + count) ws) ∙ sym (drop-drop count from ws)

  pub part_between : take (end - start) (drop start ws) ≡ part from count ws
  part_between =
      let as_many : end - start ≡ min count (length (drop from ws)) = omega (arith, length-drop from ws) in
      rw (rest_from, as_many) (take_min count (drop from ws))

  pub put_in_part : (vs : List ℕ) → put_mid start (end - start) ws vs ≡ take from ws ++ (vs ++ drop count (drop from ws))
  put_in_part vs = rw (rest-after, s, take_min)

-- ---- in_part

laid-part : (from count : ℕ) (vs ws : List ℕ) → length vs ≡ length (part from count ws)
    → take from ws ++ (vs ++ drop count (drop from ws)) ≡ laid from vs ws
unfolding laid
laid-part zero count vs ws k = sym (laid_front count vs ws k)
laid-part (suc from) count [] [] k = drop-nil count
laid-part (suc from) count (v ∷ vs) [] k = absurd (omega (arith, length-take {A = ℕ} count []))
laid-part (suc from) count vs (w ∷ ws) k = ap (λ (l : List ℕ). w ∷ l) (laid-part from count vs ws k) ∙ sym (laid_cons from w vs ws)

module _ (from count : ℕ) (f : List ℕ → List ℕ) (ws : List ℕ) (keeps : length (f (part from count ws)) ≡ length (part from count ws)) where
  pub in_part-laid : in_part from count f ws ≡ laid from (f (part from count ws)) ws
  unfolding in_part
  in_part-laid = laid-part from count (f (part from count ws)) ws keeps

  pub length-in_part : length (in_part from count f ws) ≡ length ws
  length-in_part = ap length in_part-laid ∙ length-laid from (f (part from count ws)) ws

  -- the changed part itself, a part that ends before it, one that starts after it
  pub part_of_in_part : part from count (in_part from count f ws) ≡ f (part from count ws)
  part_of_in_part = ap (part from count) in_part-laid ∙ part_over_laid from count (f (part from count ws)) ws keeps

  pub part_before_in_part : (start n : ℕ) → start + n ≤ from → part start n (in_part from count f ws) ≡ part start n ws
  part_before_in_part start n h = ap (part start n) in_part-laid ∙ part_before_laid start n from (f (part from count ws)) ws h

  pub part-after-in_part : (start n : ℕ) → from + count ≤ start → part start n (in_part from count f ws) ≡ part start n ws
  part-after-in_part start n h =
      ap (part start n) in_part-laid
      ∙ part-after-laid start n from (f (part from count ws)) ws (omega (arith, length-take count (drop from ws)))

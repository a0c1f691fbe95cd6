-- Words in the order in which they are sent, parted into the two channels: a turn of the loop, and its end.
use mathlib.Core.Path.{◌≡◌, refl, sym, ap, ap₂, ◌∙◌}
use mathlib.Core.List.{List, [], ◌∷◌, ◌++◌, append_assoc}
use Prim.Native.Nat.{ℕ, suc, ◌+◌, ◌*◌, ◌≤◌, ◌<◌}
use native.Mathlib.Omega.{arith}
use native.Mathlib.Numerals.{add-one}
use lib.ListN.{get_or, length, set, take}
use lib.Seq.{length-take-le, take_all, take-suc, take-suc-set}
use Rattle.cable.specs.Channels.{paired}

paired_snoc : (cs ys : List ℕ) (c y : ℕ) → length cs ≡ length ys → paired (cs ++ (c ∷ [])) (ys ++ (y ∷ [])) ≡ paired cs ys ++ (c ∷ y ∷ [])
unfolding paired
paired_snoc [] [] c y e = refl
paired_snoc [] (v ∷ ys) c y e = absurd (omega arith)
paired_snoc (d ∷ cs) [] c y e = absurd (omega arith)
paired_snoc (d ∷ cs) (v ∷ ys) c y e = ap (λ (l : List ℕ). d ∷ v ∷ l) (paired_snoc cs ys c y (omega arith))

take_two : (n : ℕ) (l : List ℕ) → suc n < length l → take (suc (suc n)) l ≡ take n l ++ (get_or l n 0 ∷ get_or l (suc n) 0 ∷ [])
take_two n l h =
    take-suc l (suc n) 0 h
    ∙ ap (λ (t : List ℕ). t ++ (get_or l (suc n) 0 ∷ [])) (take-suc l n 0 (omega arith))
    ∙ append_assoc (take n l) (get_or l n 0 ∷ []) (get_or l (suc n) 0 ∷ [])

module _ (words y c : List ℕ) (same : length y ≡ length c) (i : ℕ) (done : paired (take i c) (take i y) ≡ take (2 * i) words) where
  pub parting_step : 2 * length y ≤ length words → i < length y
      → paired (take (i + 1) (set c i (get_or words (2 * i) 0))) (take (i + 1) (set y i (get_or words (2 * i + 1) 0))) ≡ take (2 * (i + 1)) words
  parting_step half h =
      let n = 2 * i in
      let two : 2 * (i + 1) ≡ suc (suc n) = omega arith in
      let in_c : i < length c = omega (arith, same) in
      let long : length (take i c) ≡ length (take i y) = length-take-le i c (omega arith) ∙ sym (length-take-le i y (omega arith)) in
      rw (add-one i, take-suc-set y i (get_or words (n + 1) 0) h, take-suc-set c i (get_or words n 0) in_c)
      (paired_snoc (take i c) (take i y) (get_or words n 0) (get_or words (n + 1) 0) long
      ∙ ap₂ (λ (l : List ℕ) (k : ℕ). l ++ (get_or words n 0 ∷ get_or words k 0 ∷ [])) done (add-one n)
      ∙ sym (take_two n words (omega arith))
      ∙ ap (λ (k : ℕ). take k words) (sym two ∙ ap (λ (k : ℕ). 2 * k) (add-one i)))

  pub parting_end : i ≡ length y → length words ≡ 2 * length y → paired c y ≡ words
  parting_end e whole =
      let all_c : take i c ≡ c = take_all i c (omega (arith, same)) in
      let all_y : take i y ≡ y = take_all i y (omega arith) in
      ap₂ paired (sym all_c) (sym all_y) ∙ done ∙ take_all (2 * i) words (omega arith)

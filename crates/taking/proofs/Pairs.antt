-- A pair that ends in twenty bits: its words, from the last sixty bits before them.
use mathlib.Core.Path.{◌≡◌, sym, ap, ap₂, ◌∙◌}
use mathlib.Core.Bool.{Bool, false}
use mathlib.Core.List.{List, [], ◌∷◌, ◌++◌}
use Prim.Native.Nat.{ℕ, suc, ◌+◌, ◌-◌, ◌*◌, ◌/◌, ◌%◌, ◌^◌, ◌≤◌, ◌<◌}
use native.Mathlib.Omega.{arith}
use native.Mathlib.Nat.{mul_assoc, add-mul, mul_left_comm, add-mul-div_left}
use lib.ListN.{length, take, drop, get_or, set, take-append-drop, length-take, length-drop}
use lib.Seq.{take-suc, drop-cons}
use lib.Pow.{pow_pos, pow-add, shr-shr, split}
use borrow.Author.Tests.{lt-ltb}
use Rattle.bits.specs.Bits.{number}
use Rattle.bits.proofs.Bits.{number_mod}
use Rattle.align.specs.Search.{slid}
use Rattle.recogniser.specs.Sight.{c_word, y_word}
use Rattle.recogniser.specs.Event.{nowhere, place}
use Rattle.laying.specs.Laying.{laid_by}
use Rattle.stepper.specs.declared.State.{State}
use Rattle.stepper.specs.Step.{run, steps}
use Rattle.taking.specs.Hurry.{Calm, slides, standing}
use Rattle.taking.proofs.Sliding.{slides_of_append, slides_value}
use Rattle.taking.proofs.Quiet.{passed, twenty}

-- the code's number: the last twenty bits and the next twenty, from the pair's first bit on
abbrev pub pair_from : ℕ → ℕ → ℕ → ℕ
pair_from last next down = (last / 0x10000000000 + next * 0x100000) / 2 ^ down

-- its low twenty bits are what `last` is, from its fortieth bit on, when the pair ends
module _ (bs : List Bool) (l k j : ℕ) (long : length bs ≡ 20) (e : k + j ≡ 20) where
  abbrev at_end : ℕ
  at_end = slides l (take k bs)

  long_take : length (take k bs) ≡ k
  long_take = omega (arith, length-take k bs)

  at_end_value : at_end ≡ l / 2 ^ k + number bs % 2 ^ k * 2 ^ (40 + j)
  at_end_value =
      slides_value (take k bs) l (40 + j) (omega (arith, long_take))
      ∙ ap₂ (λ (n r : ℕ). l / 2 ^ n + r * 2 ^ (40 + j)) long_take (sym (number_mod k bs))

  -- both, with the quotient of the twenty bits by 2^k and their remainder
  end_shifted : at_end / 0x10000000000 ≡ l / 0x10000000000 / 2 ^ k + number bs % 2 ^ k * 2 ^ j
  end_shifted =
      let r = number bs % 2 ^ k in
      let f : r * 2 ^ (40 + j) ≡ 2 ^ 40 * (r * 2 ^ j) = ap (λ (m : ℕ). r * m) (pow-add 2 40 j) ∙ mul_left_comm r (2 ^ 40) (2 ^ j) in
      ap (λ (m : ℕ). m / 0x10000000000) (at_end_value ∙ ap (λ (m : ℕ). l / 2 ^ k + m) f)
      ∙ add-mul-div_left (l / 2 ^ k) (r * 2 ^ j) (pow_pos 40)
      ∙ ap (λ (m : ℕ). m + r * 2 ^ j) (shr-shr l k 40 ∙ ap (λ (m : ℕ). l / 2 ^ m) (let c : k + 40 ≡ 40 + k = omega arith in c) ∙ sym (shr-shr l 40 k))

  pair_shifted : pair_from l (number bs) k ≡ l / 0x10000000000 / 2 ^ k + number bs * 2 ^ j
  pair_shifted =
      let d = number bs in
      let p : 0x100000 ≡ 2 ^ k * 2 ^ j = ap (λ (m : ℕ). 2 ^ m) (sym e) ∙ pow-add 2 k j in
      let f : d * 0x100000 ≡ 2 ^ k * (d * 2 ^ j) = ap (λ (m : ℕ). d * m) p ∙ mul_left_comm d (2 ^ k) (2 ^ j) in
      ap (λ (m : ℕ). (l / 0x10000000000 + m) / 2 ^ k) f
      ∙ add-mul-div_left (l / 0x10000000000) (d * 2 ^ j) (pow_pos k)

  over : number bs * 2 ^ j ≡ number bs / 2 ^ k * 0x100000 + number bs % 2 ^ k * 2 ^ j
  over =
      let d = number bs in
      let p : 2 ^ k * 2 ^ j ≡ 0x100000 = sym (pow-add 2 k j) ∙ ap (λ (m : ℕ). 2 ^ m) e in
      ap (λ (m : ℕ). m * 2 ^ j) (sym (split d k))
      ∙ add-mul (d / 2 ^ k * 2 ^ k) (d % 2 ^ k) (2 ^ j)
      ∙ ap (λ (m : ℕ). m + d % 2 ^ k * 2 ^ j) (mul_assoc (d / 2 ^ k) (2 ^ k) (2 ^ j) ∙ ap (λ (m : ℕ). d / 2 ^ k * m) p)

  pair_value : pair_from l (number bs) k ≡ at_end / 0x10000000000 + number bs / 2 ^ k * 0x100000
  pair_value = omega (arith, pair_shifted, end_shifted, over)

  pub pair_c : pair_from l (number bs) k % 1024 ≡ c_word at_end
  pair_c = omega (arith, pair_value)

  pub pair_y : pair_from l (number bs) k / 1024 % 1024 ≡ y_word at_end
  pair_y = omega (arith, pair_value)

-- ---- twenty bits with which no sync ends

module _ (bs : List Bool) (l : ℕ) (long : length bs ≡ 20) where
  -- the last sixty bits after them
  pub slid_twenty : slides l bs ≡ l / 0x100000 + number bs * 0x10000000000
  slid_twenty = slides_value bs l 40 (omega arith) ∙ rw long

module _ (code total : ℕ) (s : State) where
  pub pass_twenty : (bs : List Bool) (l : ℕ) (y c : List ℕ) → length bs ≡ 20 → Calm l
      → steps laid_by code total bs (run (standing s l nowhere) y c)
      ≡ run (standing s (l / 0x100000 + number bs * 0x10000000000) nowhere) y c
  pass_twenty bs l y c long calm =
      passed code total s bs l y c (calm bs long) ∙ ap (λ (m : ℕ). run (standing s m nowhere) y c) (slid_twenty bs l long)

  pub lay_twenty : (bs : List Bool) (l pairs bit : ℕ) (y c : List ℕ) → length bs ≡ 20 → Calm l → bit ≤ 19 → 1 ≤ pairs → pairs < total
      → steps laid_by code total bs (run (standing s l (place pairs bit)) y c)
      ≡ run (standing s (l / 0x100000 + number bs * 0x10000000000) (place (pairs + 1) bit))
      (set y pairs (pair_from l (number bs) (20 - bit) / 1024 % 1024))
      (set c pairs (pair_from l (number bs) (20 - bit) % 1024))
  unfolding laid_by
  lay_twenty bs l pairs bit y c long calm low some room =
      ap (λ (v : List Bool). steps laid_by code total v (run (standing s l (place pairs bit)) y c)) (sym parts)
      ∙ twenty code total s xs b ys l pairs bit y c some (omega arith) (omega (arith, length-take j bs)) (omega (arith, length-drop (suc j) bs))
      (rw parts (calm bs long))
      ∙ rw (parts, lt-ltb pairs total room, is_y, is_c, slid_twenty bs l long)
    where
      j : ℕ
      j = 19 - bit

      xs : List Bool
      xs = take j bs

      b : Bool
      b = get_or bs j false

      ys : List Bool
      ys = drop (suc j) bs

      parts : xs ++ (b ∷ ys) ≡ bs
      parts = ap (λ (v : List Bool). xs ++ v) (sym (drop-cons bs j false (omega arith))) ∙ take-append-drop j bs

      k_is : suc j ≡ 20 - bit
      k_is = omega arith

      end_is : slid (slides l xs) b ≡ slides l (take (20 - bit) bs)
      end_is =
          sym (slides_of_append l xs (b ∷ []))
          ∙ ap (slides l) (sym (take-suc bs j false (omega arith)))
          ∙ ap (λ (k : ℕ). slides l (take k bs)) k_is

      is_y : y_word (slid (slides l xs) b) ≡ pair_from l (number bs) (20 - bit) / 1024 % 1024
      is_y = ap y_word end_is ∙ sym (pair_y bs l (20 - bit) bit long (omega arith))

      is_c : c_word (slid (slides l xs) b) ≡ pair_from l (number bs) (20 - bit) % 1024
      is_c = ap c_word end_is ∙ sym (pair_c bs l (20 - bit) bit long (omega arith))

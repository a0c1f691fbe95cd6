-- Ten bits of two words that stand one after the other, from a bit of the first on.
use mathlib.Core.Path.{◌≡◌, sym, ap, ◌∙◌}
use Prim.Native.Nat.{ℕ, ◌+◌, ◌*◌, ◌/◌, ◌%◌, ◌^◌, ◌≤◌, ◌<◌}
use native.Mathlib.Omega.{arith}
use native.Mathlib.Nat.{add_comm, mul_comm, mul_assoc, mul-add, add-mul-div_left, mul-le-mul_left, div-lt_iff_lt-mul, mod-lt}
use lib.Pow.{pow_pos, pow-add, split, shr-shr}

module _ (up down : ℕ) (ten : down + up ≡ 10) where
  whole : 2 ^ down * 2 ^ up ≡ 1024
  whole = sym (pow-add 2 down up) ∙ ap (λ (n : ℕ). 2 ^ n) ten

  -- a number of words of ten bits, shifted down: those above the first stand higher by as much as it loses
  above : (a n : ℕ) → (a + n * 1024) / 2 ^ down ≡ a / 2 ^ down + 2 ^ up * n
  above a n =
      let f : n * 1024 ≡ 2 ^ down * (2 ^ up * n) = ap (λ (m : ℕ). n * m) (sym whole) ∙ mul_comm n (2 ^ down * 2 ^ up) ∙ mul_assoc (2 ^ down) (2 ^ up) n in
      ap (λ (m : ℕ). (a + m) / 2 ^ down) f ∙ add-mul-div_left a (2 ^ up * n) (pow_pos down)

  module _ (a b : ℕ) (low : a ≤ 0x3ff) where
    abbrev rest : ℕ
    rest = 2 ^ up * (b % 2 ^ down)

    split_b : 2 ^ up * b ≡ b / 2 ^ down * 1024 + rest
    split_b =
        let f : 2 ^ up * (b / 2 ^ down * 2 ^ down) ≡ b / 2 ^ down * 1024 = mul_comm (2 ^ up) (b / 2 ^ down * 2 ^ down) ∙ mul_assoc (b / 2 ^ down) (2 ^ down) (2 ^ up) ∙ ap (λ (m : ℕ). b / 2 ^ down * m) whole in
        ap (λ (m : ℕ). 2 ^ up * m) (sym (split b down)) ∙ mul-add (2 ^ up) (b / 2 ^ down * 2 ^ down) (b % 2 ^ down) ∙ ap (λ (m : ℕ). m + rest) f

    rest_low : rest + 2 ^ up ≤ 1024
    rest_low = omega (arith, mul-le-mul_left (2 ^ up) (mod-lt b (pow_pos down)), mul_comm (2 ^ up) (2 ^ down), whole, mul-add (2 ^ up) (b % 2 ^ down) 1)

    a_low : a / 2 ^ down < 2 ^ up
    a_low = (div-lt_iff_lt-mul (pow_pos down)).1 (omega (arith, whole, mul_comm (2 ^ up) (2 ^ down)))

    -- the code's sum
    pub joins : a / 2 ^ down + b * 2 ^ up % 65536 % 1024 ≡ (a + b * 1024) / 2 ^ down % 1024
    joins = omega (arith, above a b, split_b, rest_low, a_low, mul_comm b (2 ^ up))

  -- more words above do not count
  higher : (a b t : ℕ) → (a + (b + t * 1024) * 1024) / 2 ^ down % 1024 ≡ (a + b * 1024) / 2 ^ down % 1024
  higher a b t =
      omega (arith, above a (b + t * 1024), above a b, mul-add (2 ^ up) b (t * 1024), mul_assoc (2 ^ up) t 1024)

  -- the first words of four, cut at another bit: the next word, and the one after it
  pub next_word : (a b t u : ℕ) → (a + (b + (t + u * 1024) * 1024) * 1024) / 2 ^ down % 1024 ≡ (a + b * 1024) / 2 ^ down % 1024
  next_word a b t u = higher a b (t + u * 1024)

  pub second_word : (a b t u : ℕ) → a ≤ 0x3ff → (a + (b + (t + u * 1024) * 1024) * 1024) / 2 ^ down / 1024 % 1024 ≡ (b + t * 1024) / 2 ^ down % 1024
  second_word a b t u low =
      let n = b + (t + u * 1024) * 1024 in
      let swap : (a + n * 1024) / 2 ^ down / 2 ^ 10 ≡ (a + n * 1024) / 2 ^ 10 / 2 ^ down =
      shr-shr (a + n * 1024) down 10 ∙ ap (λ (m : ℕ). (a + n * 1024) / 2 ^ m) (add_comm down 10) ∙ sym (shr-shr (a + n * 1024) 10 down) in
      let f : (a + n * 1024) / 1024 ≡ n = omega arith in
      ap (λ (m : ℕ). m % 1024) (swap ∙ ap (λ (m : ℕ). m / 2 ^ down) f) ∙ higher b t u

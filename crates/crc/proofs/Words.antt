-- When `ran` and `cr_words` refuse, and the two CRC words of a register.
use mathlib.Core.Path.{◌≡◌, sym, ap, ◌∙◌}
use mathlib.Core.Bool.{true, false, and-false}
use mathlib.Core.List.{List}
use Prim.Native.Nat.{ℕ, ◌/◌, ◌%◌, ◌^◌, ◌≤◌, ◌<◌}
use native.Mathlib.Omega.{arith}
use borrow.Author.Tests.{le-leb, lt-leb}
use Rattle.std.specs.Prelude.{Ok, Err}
use Rattle.bits.specs.Words.{words10, reserved_code}
use Rattle.bits.proofs.Words.{nine_range, nine_low, nine_not_reserved}
use Rattle.refusal.specs.declared.Refusal.TheVariants.{TooHigh}
use Rattle.crc.specs.Crc.{crc_words, register_ok, ran, cr0, cr1, crc_pair, cr_words}

-- ---- ran: done exactly when the register is at most 3FFFF and no word is above 3FF, else 3

pub ran-done : (r : ℕ) (ws : List ℕ) → r ≤ 0x3ffff → words10 ws ≡ true → ran r ws ≡ Ok (crc_words r ws)
unfolding ran
ran-done r ws h k = simp (le-leb r 0x3ffff h, k)

pub ran_register : (r : ℕ) (ws : List ℕ) → 0x3ffff < r → ran r ws ≡ Err TooHigh
unfolding ran
ran_register r ws h = simp (lt-leb r 0x3ffff h)

pub ran_words : (r : ℕ) (ws : List ℕ) → words10 ws ≡ false → ran r ws ≡ Err TooHigh
unfolding ran
ran_words r ws k = simp (k, and-false (register_ok r))

-- ---- cr_words: done exactly when the register is at most 3FFFF, else 3

pub cr_words-done : (r : ℕ) → r ≤ 0x3ffff → cr_words r ≡ Ok (crc_pair r)
unfolding cr_words
cr_words-done r h = rw (le-leb r 0x3ffff h)

pub cr_words_register : (r : ℕ) → 0x3ffff < r → cr_words r ≡ Err TooHigh
unfolding cr_words
cr_words_register r h = rw (lt-leb r 0x3ffff h)

-- ---- cr0 and cr1: ten-bit words, never reserved, and the register can be read back from them

pub cr_range : (r : ℕ) → (cr0 r < 1024) × (cr1 r < 1024)
cr_range r = (omega (arith, nine_range r), omega (arith, nine_range (r / 512)))

pub cr_not_reserved : (r : ℕ) → (reserved_code (cr0 r) ≡ false) × (reserved_code (cr1 r) ≡ false)
cr_not_reserved r = (nine_not_reserved r, nine_not_reserved (r / 512))

pub cr_determine : (r q : ℕ) → r < 2 ^ 18 → q < 2 ^ 18 → cr0 r ≡ cr0 q → cr1 r ≡ cr1 q → r ≡ q
cr_determine r q hr hq e0 e1 =
    let low : r % 512 ≡ q % 512 = sym (nine_low r) ∙ ap (λ (n : ℕ). n % 512) e0 ∙ nine_low q in
    let high : r / 512 % 512 ≡ q / 512 % 512 = sym (nine_low (r / 512)) ∙ ap (λ (n : ℕ). n % 512) e1 ∙ nine_low (q / 512) in
    omega arith

-- Laws of the line number words: range, reading of built words, building of read ones.
use mathlib.Core.Path.{◌≡◌, refl, sym, ap₂, ◌∙◌}
use mathlib.Core.Bool.{Bool, true, false, ◌&&◌}
use Prim.Native.Nat.{ℕ, zero, suc, ◌+◌, ◌*◌, ◌/◌, ◌%◌, ◌<◌}
use native.Mathlib.Omega.{arith}
use lib.Dec.{eqb}
use borrow.Author.Tests.{le-leb, eq-eqb, eqb-true}
use Rattle.std.specs.Prelude.{Some, Ok, Err}
use Rattle.bits.specs.Choice.{if, unless_zero}
use Rattle.bits.proofs.Choice.{some_unless_zero}
use Rattle.refusal.specs.declared.Refusal.{Refusal}
use Rattle.refusal.specs.Refusal.{refusal_numbered, refusal_of}
use Rattle.refusal.proofs.Answers.{result_of_ok, result_of_bad, result_of_err, refusal_of_result}
use Rattle.bits.specs.Words.{reserved_code}
use Rattle.bits.proofs.Words.{nine_range, nine_low, nine_not_reserved}
use Rattle.raster.specs.Table.{raster_ok}
use Rattle.raster.specs.Lines.{line_ok, line_refusal}
use Rattle.raster.proofs.Lines.{line_ok_range, line_refusal_below}
use Rattle.timing.specs.declared.LineWords.{LineWords}
use Rattle.timing.specs.Line.{ln0_of, ln1_of, words_of, line_words, line_in, line_from, read_refusal, line_read}

-- ---- ln0_of and ln1_of, for every number

pub line_range : (line : ℕ) → (ln0_of line < 1024) × (ln1_of line < 1024)
line_range line =
    let r = nine_range (line % 128 * 4) in
    let s = nine_range (line / 128 % 16 * 4) in
    (omega arith, omega arith)

pub line_not_reserved : (line : ℕ) → (reserved_code (ln0_of line) ≡ false) × (reserved_code (ln1_of line) ≡ false)
line_not_reserved line = (nine_not_reserved (line % 128 * 4), nine_not_reserved (line / 128 % 16 * 4))

-- ---- line_words

module _ (code line : ℕ) where
  pub line_words_made : line_refusal code line ≡ 0 → line_words code line ≡ Ok (words_of line)
  unfolding line_words
  line_words_made ok = rw ok

  pub line_words_refused : (line_refusal code line ≡ 0 → ⊥) → line_words code line ≡ Err (refusal_numbered (line_refusal code line))
  unfolding line_words
  line_words_refused bad = result_of_bad (words_of line) (line_refusal code line) bad

  pub line_words_refusal : refusal_of (line_words code line) ≡ line_refusal code line
  unfolding line_words
  line_words_refusal = refusal_of_result (words_of line) (line_refusal code line) (line_refusal_below code line)

  -- words are answered only for a line in range, and are its own
  pub line_words_ok : {words : LineWords} → line_words code line ≡ Ok words → (line_refusal code line ≡ 0) × (words ≡ words_of line)
  unfolding line_words
  line_words_ok e = result_of_ok (words_of line) (line_refusal code line) e

  pub line_words_err : {refusal : Refusal} → line_words code line ≡ Err refusal → line_refusal code line ≡ 0 → ⊥
  unfolding line_words
  line_words_err e = (result_of_err (words_of line) (line_refusal code line) e).0

-- ---- line_in

-- what was put from bit 2 on, below bit 9, comes back out
from_two : (w x : ℕ) → w % 512 ≡ x * 4 % 512 → x < 128 → w / 4 ≡ w / 512 * 128 + x
from_two w x e h =
    let q : x * 4 % 512 ≡ x * 4 = omega arith in
    omega arith

-- the eleven bits of a number come back out of its words
pub line_in_of_built : (line : ℕ) → line < 2048 → line_in (ln0_of line) (ln1_of line) ≡ line
line_in_of_built line h =
    let r = from_two (ln0_of line) (line % 128) (nine_low (line % 128 * 4)) (omega arith) in
    let s = from_two (ln1_of line) (line / 128 % 16) (nine_low (line / 128 % 16 * 4)) (omega arith) in
    omega arith

pub line_words_differ : (a b : ℕ) → a < 2048 → b < 2048 → ln0_of a ≡ ln0_of b → ln1_of a ≡ ln1_of b → a ≡ b
line_words_differ a b ha hb e0 e1 = sym (line_in_of_built a ha) ∙ ap₂ line_in e0 e1 ∙ line_in_of_built b hb

-- ---- line_from

pub line_from_exact : (code ln0 ln1 : ℕ) → line_ok code (line_in ln0 ln1) ≡ true → ln0 ≡ ln0_of (line_in ln0 ln1) → ln1 ≡ ln1_of (line_in ln0 ln1)
    → line_from code ln0 ln1 ≡ line_in ln0 ln1
line_from_exact code ln0 ln1 on e0 e1 = rw (eq-eqb ln0 (ln0_of (line_in ln0 ln1)) e0, eq-eqb ln1 (ln1_of (line_in ln0 ln1)) e1, on)

pub line_from_other : (code ln0 ln1 : ℕ)
    → ((line_ok code (line_in ln0 ln1) ≡ true) × (ln0 ≡ ln0_of (line_in ln0 ln1)) × (ln1 ≡ ln1_of (line_in ln0 ln1)) → ⊥)
    → line_from code ln0 ln1 ≡ 0
line_from_other code ln0 ln1 bad =
    go (eqb ln0 (ln0_of m)) (eqb ln1 (ln1_of m)) (line_ok code m) (eqb-true ln0 (ln0_of m)) (eqb-true ln1 (ln1_of m)) (λ e. e)
  where
    m : ℕ
    m = line_in ln0 ln1

    go : (x y z : Bool) → (x ≡ true → ln0 ≡ ln0_of m) → (y ≡ true → ln1 ≡ ln1_of m) → (z ≡ true → line_ok code m ≡ true)
        → if ((x && y) && z) m 0 ≡ 0
    go true true true fx fy fz = absurd (bad (fz refl, fx refl, fy refl))
    go true true false fx fy fz = refl
    go true false z fx fy fz = refl
    go false y z fx fy fz = refl

-- ---- line_read

pub line_read_of_build : (code line : ℕ) → raster_ok code ≡ true → line_ok code line ≡ true
    → line_read code (ln0_of line) (ln1_of line) ≡ Ok (Some line)
unfolding line_read
line_read_of_build code line ok on =
    let r = line_range line in
    let lines = line_ok_range code line ok on in
    let e = line_in_of_built line (omega arith) in
    let taken : read_refusal code (ln0_of line) (ln1_of line) ≡ 0 =
    rw (ok, le-leb (ln0_of line) 0x3ff (omega arith), le-leb (ln1_of line) 0x3ff (omega arith)) in
    let said : line_from code (ln0_of line) (ln1_of line) ≡ line =
    rw (e, eq-eqb (ln0_of line) (ln0_of line) refl, eq-eqb (ln1_of line) (ln1_of line) refl, on) in
    rw (taken, said, some_unless_zero line lines.0)

-- the words name a line: it is in range, and they are the words built for it
abbrev Named : ℕ → ℕ → ℕ → ℕ → Type 0
Named code ln0 ln1 line = (ln0 ≡ ln0_of line) × (ln1 ≡ ln1_of line) × (line_ok code line ≡ true)

line_from_named : (code ln0 ln1 line : ℕ) → unless_zero (line_from code ln0 ln1) ≡ Some line → Named code ln0 ln1 line
line_from_named code ln0 ln1 line = go (eqb ln0 (ln0_of m)) (eqb ln1 (ln1_of m)) (line_ok code m) (eqb-true ln0 (ln0_of m)) (eqb-true ln1 (ln1_of m)) (λ e. e)
  where
    m : ℕ
    m = line_in ln0 ln1

    named : (n : ℕ) → unless_zero n ≡ Some line → n ≡ line
    named zero e = cc
    named (suc n) e = cc

    go : (x y z : Bool) → (x ≡ true → ln0 ≡ ln0_of m) → (y ≡ true → ln1 ≡ ln1_of m) → (z ≡ true → line_ok code m ≡ true)
        → unless_zero (if ((x && y) && z) m 0) ≡ Some line → Named code ln0 ln1 line
    go true true true fx fy fz e = let q = named m e in rw (← q) (fx refl, fy refl, fz refl)
    go true true false fx fy fz e = cc
    go true false z fx fy fz e = cc
    go false y z fx fy fz e = cc

-- a line is answered only for the very words that are built for it
pub line_build_of_read : (code ln0 ln1 line : ℕ) → line_read code ln0 ln1 ≡ Ok (Some line) → Named code ln0 ln1 line
unfolding line_read
line_build_of_read code ln0 ln1 line e =
    line_from_named code ln0 ln1 line (sym (result_of_ok (unless_zero (line_from code ln0 ln1)) (read_refusal code ln0 ln1) e).1)

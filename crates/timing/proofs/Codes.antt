-- Laws of the XYZ word: what the code's counts of ones are, range, reading of built words, building of read ones, distance.
use mathlib.Core.Path.{◌≡◌, refl, ap, ◌∙◌}
use mathlib.Core.Bool.{Bool, true, false, ◌||◌}
use mathlib.Core.List.{[], ◌∷◌}
use Prim.Native.Nat.{ℕ, ◌+◌, ◌*◌, ◌%◌, ◌≤◌, ◌<◌}
use native.Mathlib.Omega.{arith}
use lib.Bits.{bit_and}
use lib.Count.{ones}
use lib.Dec.{T, leb, eqb, eqb→eq}
use mir.Val.{bool_byte}
use borrow.Author.Tests.{eqb-true}
use Rattle.bits.specs.Choice.{if}
use Rattle.bits.specs.Bits.{◌⊕◌, odd, bits, number, xors, count, parity}
use Rattle.bits.specs.Words.{reserved_code}
use Rattle.bits.proofs.Bits.{⊕-same, number_lt}
use Rattle.std.specs.Prelude.{Option, None, Some, Result, Ok, Err}
use Rattle.refusal.specs.declared.Refusal.{Refusal}
use Rattle.refusal.specs.declared.Refusal.TheVariants.{TooHigh}
use Rattle.timing.specs.declared.Fvh.{Fvh}
use Rattle.timing.specs.Xyz.{xyz_of, fvh, f_bit, v_bit, h_bit, exact_xyz, read_xyz, reading, told, reading_of}
use Rattle.bits.proofs.Choice.{by_three}
use Rattle.bits.proofs.Below.{every, every_at}

-- ---- xyz_of

-- the word from counts of ones of the masked F, V, H bits
abbrev counted : ℕ → ℕ
counted k = 512 + k * 64 + ones (bit_and k 3) % 2 * 32 + ones (bit_and k 5) % 2 * 16 + ones (bit_and k 6) % 2 * 8 + ones (bit_and k 7) % 2 * 4

pub xyz_counted : (f v h : Bool) → counted (bool_byte f * 4 + bool_byte v * 2 + bool_byte h) ≡ xyz_of f v h
unfolding ones xyz_of number odd
xyz_counted =
    by_three (λ (f v h : Bool). counted (bool_byte f * 4 + bool_byte v * 2 + bool_byte h) ≡ xyz_of f v h)
    refl refl refl refl refl refl refl refl

pub xyz_range : (f v h : Bool) → (512 ≤ xyz_of f v h) × (xyz_of f v h < 1024)
unfolding xyz_of number
xyz_range f v h = (
  omega arith,
  number_lt (false ∷ false ∷ parity (f ∷ v ∷ h ∷ []) ∷ parity (f ∷ v ∷ []) ∷ parity (f ∷ h ∷ []) ∷ parity (v ∷ h ∷ []) ∷ h ∷ v ∷ f ∷ true ∷ []),
)

pub xyz_not_reserved : (f v h : Bool) → reserved_code (xyz_of f v h) ≡ false
unfolding reserved_code xyz_of number odd
xyz_not_reserved = by_three (λ (f v h : Bool). reserved_code (xyz_of f v h) ≡ false) refl refl refl refl refl refl refl refl

-- ---- read_xyz

pub xyz_read_of_build : (f v h : Bool) → read_xyz (xyz_of f v h) ≡ Ok (Some (fvh f v h))
unfolding read_xyz xyz_of number odd
xyz_read_of_build = by_three (λ (f v h : Bool). read_xyz (xyz_of f v h) ≡ Ok (Some (fvh f v h))) refl refl refl refl refl refl refl refl

-- the word of what was read
abbrev word_of : Result (Option Fvh) Refusal → ℕ
word_of (Err refusal) = 0
word_of (Ok None) = 0
word_of (Ok (Some x)) = xyz_of x.f x.v x.h

-- the reading of a word, by its tests
abbrev read_as : Bool → Bool → ℕ → Result (Option Fvh) Refusal
read_as low exact w = if low (Ok (if exact (Some (fvh (f_bit w) (v_bit w) (h_bit w))) None)) (Err TooHigh)

pub xyz_build_of_read : (w : ℕ) (f v h : Bool) → read_xyz w ≡ Ok (Some (fvh f v h)) → w ≡ xyz_of f v h
unfolding read_xyz
xyz_build_of_read w f v h e = go (leb w 0x3ff) (exact_xyz w) (eqb-true w (xyz_of (f_bit w) (v_bit w) (h_bit w))) e
  where
    go : (a b : Bool) → (b ≡ true → w ≡ xyz_of (f_bit w) (v_bit w) (h_bit w))
        → read_as a b w ≡ Ok (Some (fvh f v h)) → w ≡ xyz_of f v h
    go true true k q = k refl ∙ ap word_of q
    go true false k q = cc
    go false b k q = cc

-- what is told of the reading is what is told of the word
xyz_told : (w : ℕ) → told (read_xyz w) ≡ reading_of w
unfolding read_xyz
xyz_told w = go (leb w 0x3ff) (exact_xyz w)
  where
    go : (a b : Bool) → told (read_as a b w)
        ≡ if a (if b (reading 0 true (f_bit w) (v_bit w) (h_bit w)) (reading 0 false false false false)) (reading 3 false false false false)
    go true true = refl
    go true false = refl
    go false b = refl

pub xyz_answered : (w : ℕ) (r : Result (Option Fvh) Refusal) → r ≡ read_xyz w → (r ≡ read_xyz w) × (told r ≡ reading_of w)
xyz_answered w r e = (e, ap told e ∙ xyz_told w)

-- ---- the eight codes

-- in how many bits two codes differ
abbrev apart : Bool → Bool → Bool → Bool → Bool → Bool → ℕ
apart f v h f' v' h' = count (xors (bits 10 (xyz_of f v h)) (bits 10 (xyz_of f' v' h')))

abbrev apart_test : Bool → Bool → Bool → Bool → Bool → Bool → Bool
apart_test f v h f' v' h' = if (f ⊕ f' || v ⊕ v' || h ⊕ h') (eqb (apart f v h f' v' h') 4) true

-- two codes of the eight differ in exactly four bits
pub xyz_four_apart : (f v h f' v' h' : Bool) → ((f ≡ f') × (v ≡ v') × (h ≡ h') → ⊥)
    → count (xors (bits 10 (xyz_of f v h)) (bits 10 (xyz_of f' v' h'))) ≡ 4
unfolding xyz_of odd bits number xors
xyz_four_apart f v h f' v' h' other =
    go (f ⊕ f') (v ⊕ v') (h ⊕ h') (⊕-same f f') (⊕-same v v') (⊕-same h h')
    (every_at (λ h'. apart_test f v h f' v' h')
    (every_at (λ v'. every (λ h'. apart_test f v h f' v' h'))
    (every_at (λ f'. every (λ v'. every (λ h'. apart_test f v h f' v' h')))
    (by_three (λ (f v h : Bool). T (every (λ f'. every (λ v'. every (λ h'. apart_test f v h f' v' h'))))) tt tt tt tt tt tt tt tt f v h)
    f') v') h')
  where
    go : (a b c : Bool) → (a ≡ false → f ≡ f') → (b ≡ false → v ≡ v') → (c ≡ false → h ≡ h')
        → T (if (a || b || c) (eqb (apart f v h f' v' h') 4) true) → apart f v h f' v' h' ≡ 4
    go true b c ef ev eh t = eqb→eq (apart f v h f' v' h') 4 t
    go false true c ef ev eh t = eqb→eq (apart f v h f' v' h') 4 t
    go false false true ef ev eh t = eqb→eq (apart f v h f' v' h') 4 t
    go false false false ef ev eh t = absurd (other (ef refl, ev refl, eh refl))

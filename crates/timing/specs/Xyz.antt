-- Timing codes: the XYZ word.
use Rattle.std.specs.Prelude.{Bool, true, false, [], ◌∷◌, ℕ, ◌/◌, leb, eqb, Option, None, Some, Result, Ok, Err}
use Rattle.bits.specs.Choice.{if}
use Rattle.bits.specs.Bits.{odd, number, parity}
use Rattle.refusal.specs.declared.Refusal.{Refusal}
use Rattle.refusal.specs.declared.Refusal.TheVariants.{TooHigh}
use Rattle.refusal.specs.Refusal.{number_of}
use Rattle.timing.specs.declared.Fvh.{Fvh}

-- "XYZ: bit 9 is 1; bits 8, 7, 6 are F, V, H; bits 5 to 2 are V^H, F^H, F^V, F^V^H; bits 1, 0 are 0."
-- "Parity is a count of ones, odd or even." Lowest bit first:
unfoldable pub xyz_of : Bool → Bool → Bool → ℕ
xyz_of f v h =
    number
    (false
    ∷ false
    ∷ parity (f ∷ v ∷ h ∷ [])
    ∷ parity (f ∷ v ∷ [])
    ∷ parity (f ∷ h ∷ [])
    ∷ parity (v ∷ h ∷ [])
    ∷ h
    ∷ v
    ∷ f
    ∷ true
    ∷ [])

-- bits 8, 7, 6 of a word
abbrev pub f_bit : ℕ → Bool
f_bit w = odd (w / 256)

abbrev pub v_bit : ℕ → Bool
v_bit w = odd (w / 128)

abbrev pub h_bit : ℕ → Bool
h_bit w = odd (w / 64)

-- all ten bits are those of the code of its F, V and H
abbrev pub exact_xyz : ℕ → Bool
exact_xyz w = eqb w (xyz_of (f_bit w) (v_bit w) (h_bit w))

abbrev pub fvh : Bool → Bool → Bool → Fvh
fvh f v h = record { f = f; v = v; h = h }

-- "Reading answers F, V and H, or not exact."; 3 for a word above 3FF
unfoldable pub read_xyz : ℕ → Result (Option Fvh) Refusal
read_xyz w = if (leb w 0x3ff) (Ok (if (exact_xyz w) (Some (fvh (f_bit w) (v_bit w) (h_bit w))) None)) (Err TooHigh)

-- what is told of a reading: the refusal number, whether the word is exact, F, V and H; zeros where there is nothing to tell
pub record Reading : Type 0 where
  pub refusal : ℕ
  pub exact : Bool
  pub f : Bool
  pub v : Bool
  pub h : Bool

abbrev pub reading : ℕ → Bool → Bool → Bool → Bool → Reading
reading refusal exact f v h = record { refusal = refusal; exact = exact; f = f; v = v; h = h }

-- of each case
abbrev pub told : Result (Option Fvh) Refusal → Reading
told (Err refusal) = reading (number_of refusal) false false false false
told (Ok None) = reading 0 false false false false
told (Ok (Some x)) = reading 0 true x.f x.v x.h

-- of a word
abbrev pub reading_of : ℕ → Reading
reading_of w =
    if (leb w 0x3ff)
    (if (exact_xyz w) (reading 0 true (f_bit w) (v_bit w) (h_bit w)) (reading 0 false false false false))
    (reading 3 false false false false)

-- Bits of a stream at places, and the unscrambled bits of cable bits in which a run is changed.
use mathlib.Core.Path.{◌≡◌, sym, ap, ap₂, ◌∙◌}
use mathlib.Core.Bool.{Bool}
use mathlib.Core.List.{List, ◌++◌, append_assoc}
use Prim.Native.Nat.{ℕ, ◌+◌, ◌-◌, ◌≤◌}
use native.Mathlib.Omega.{arith}
use lib.ListN.{length, take, drop, length-append, length-take, length-drop, take-append-drop}
use lib.Seq.{take-append-le, drop-append-le, take-append-add, take-add, take_at, drop_at, drop-drop, length-take-le}
use Rattle.cable.specs.Bits.{unscrambled, past}
use Rattle.cable.proofs.Bits.{length-unscrambled, unscrambled_of_append}
use Rattle.law_burst.specs.Stretch.{received}
use Rattle.law_struck.proofs.Rows.{bits_at}

-- ---- bits_at

pub length_bits_at : (at n : ℕ) (bs : List Bool) → at + n ≤ length bs → length (bits_at at n bs) ≡ n
length_bits_at at n bs h = omega (arith, length-take n (drop at bs), length-drop at bs)

-- what follows does not count
pub bits_at_append : (at n : ℕ) (xs ys : List Bool) → at + n ≤ length xs → bits_at at n (xs ++ ys) ≡ bits_at at n xs
bits_at_append at n xs ys h =
    ap (take n) (drop-append-le at xs ys (omega arith)) ∙ take-append-le n (drop at xs) ys (omega (arith, length-drop at xs))

pub bits_at_join : (at m n : ℕ) (bs : List Bool) → bits_at at m bs ++ bits_at (at + m) n bs ≡ bits_at at (m + n) bs
bits_at_join at m n bs =
    ap (λ (l : List Bool). bits_at at m bs ++ take n l) (sym (drop-drop m at bs)) ∙ sym (take-add m n (drop at bs))

-- bits that are the same up to some place are the same at places before it
pub bits_at_same : (at n : ℕ) (xs ys : List Bool) → at ≤ length xs → at ≤ length ys → take (at + n) xs ≡ take (at + n) ys → bits_at at n xs ≡ bits_at at n ys
bits_at_same at n xs ys hx hy e = sym (of xs hx) ∙ ap (drop at) e ∙ of ys hy
  where
    of : (bs : List Bool) → at ≤ length bs → drop at (take (at + n) bs) ≡ bits_at at n bs
    of bs h = ap (drop at) (take-add at n bs) ∙ drop_at (take at bs) (bits_at at n bs) at (length-take-le at bs h)

-- a stream, cut at three places
pub cut_stream : (i j k : ℕ) (bs : List Bool) → bs ≡ take i bs ++ (bits_at i j bs ++ (bits_at (i + j) k bs ++ drop (i + j + k) bs))
cut_stream i j k bs =
    sym (take-append-drop i bs)
    ∙ ap (λ (l : List Bool). take i bs ++ l)
    (sym (take-append-drop j (drop i bs))
    ∙ ap (λ (l : List Bool). bits_at i j bs ++ l)
    (drop-drop j i bs ∙ sym (take-append-drop k (drop (i + j) bs)) ∙ ap (λ (l : List Bool). bits_at (i + j) k bs ++ l) (drop-drop k (i + j) bs)))

pub bits_at_drop : (at m n : ℕ) (bs : List Bool) → at + m ≤ length bs → drop m (bits_at at (m + n) bs) ≡ bits_at (at + m) n bs
bits_at_drop at m n bs h =
    ap (drop m) (sym (bits_at_join at m n bs)) ∙ drop_at (bits_at at m bs) (bits_at (at + m) n bs) m (length_bits_at at m bs h)

-- ---- unscrambled bits

take-unscrambled : (k : ℕ) (p cable : List Bool) → k ≤ length cable → take k (unscrambled p cable) ≡ unscrambled p (take k cable)
take-unscrambled k p cable h =
    ap (λ (l : List Bool). take k (unscrambled p l)) (sym (take-append-drop k cable))
    ∙ ap (take k) (unscrambled_of_append (take k cable) (drop k cable) p)
    ∙ take_at (unscrambled p (take k cable)) _ k (length-unscrambled (take k cable) p ∙ length-take-le k cable h)

-- the bits before a run are the same, whatever it is
pub before_run : (p a m n : List Bool) (k : ℕ) → k ≤ length a → take k (unscrambled p (a ++ m)) ≡ take k (unscrambled p (a ++ n))
before_run p a m n k h = to m ∙ sym (to n)
  where
    to : (l : List Bool) → take k (unscrambled p (a ++ l)) ≡ unscrambled p (take k a)
    to l = take-unscrambled k p (a ++ l) (omega (arith, length-append a l)) ∙ ap (unscrambled p) (take-append-le k a l h)

-- a stretch in which the run lies
module _ (h at size : ℕ) (a m z : List Bool) (low : at ≤ length a) (high : length a + length m ≤ at + size) (inside : at + size ≤ length (a ++ (m ++ z))) where
  stretch_cable : take at a ++ (drop at a ++ (m ++ take (at + size - (length a + length m)) z)) ≡ take (at + size) (a ++ (m ++ z))
  stretch_cable =
      let j = at + size - (length a + length m) in
      let e : at + size ≡ length a + (length m + j) = omega arith in
      sym (append_assoc (take at a) (drop at a) (m ++ take j z))
      ∙ ap₂ (λ (xs ys : List Bool). xs ++ ys) (take-append-drop at a) (sym (take-append-add m z j))
      ∙ sym (take-append-add a (m ++ z) (length m + j))
      ∙ ap (λ (k : ℕ). take k (a ++ (m ++ z))) (sym e)

  pub received-run :
      received h (take at a) (drop at a ++ (m ++ take (at + size - (length a + length m)) z)) ≡ bits_at at size (unscrambled (past h) (a ++ (m ++ z)))
  received-run =
      let stream = unscrambled (past h) (a ++ (m ++ z)) in
      let long : at ≤ length stream = omega (arith, length-unscrambled (a ++ (m ++ z)) (past h)) in
      ap₂ (λ (k : ℕ) (l : List Bool). drop k (unscrambled (past h) l)) (length-take-le at a low) stretch_cable
      ∙ ap (drop at) (sym (take-unscrambled (at + size) (past h) (a ++ (m ++ z)) inside) ∙ take-add at size stream)
      ∙ drop_at (take at stream) (take size (drop at stream)) at (length-take-le at stream long)

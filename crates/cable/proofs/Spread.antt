-- How far a changed run of cable bits spreads: over the run and the ten bits after it, and it shows there.
use mathlib.Core.Path.{◌≡◌, sym, ap, ◌∙◌}
use mathlib.Core.Bool.{Bool}
use mathlib.Core.List.{List, ◌++◌, reverse_aux, append_assoc}
use Prim.Native.Nat.{ℕ, ◌+◌, ◌≤◌}
use native.Mathlib.Omega.{arith}
use lib.ListN.{length, take, drop, length-append, length-take, take-append-drop}
use lib.Seq.{take_at}
use Rattle.cable.specs.Bits.{unscrambled}
use Rattle.cable.proofs.Bits.{length-unscrambled, unscrambled_of_append, unscrambled_from_eleventh, unscrambled_injective}

-- the data bits of `a`, then a run `m` or a run `n`, then `z`: as before, then other bits, then the same again
pub record Spread (p a m n z : List Bool) : Type 0 where
  pub start : List Bool
  pub one : List Bool
  pub other : List Bool
  pub rest : List Bool
  pub of_one : unscrambled p (a ++ (m ++ z)) ≡ start ++ (one ++ rest)
  pub of_other : unscrambled p (a ++ (n ++ z)) ≡ start ++ (other ++ rest)
  pub length_start : length start ≡ length a
  pub length-same : length one ≡ length other
  pub length_run : length one ≤ length m + 10
  pub differ : one ≡ other → ⊥

-- the data bits of a run, and of up to ten bits after it
reached : List Bool → List Bool → List Bool → List Bool
reached p m z = unscrambled p m ++ take 10 (unscrambled (reverse_aux m p) z)

beyond : List Bool → List Bool → List Bool → List Bool
beyond p m z = drop 10 (unscrambled (reverse_aux m p) z)

spread_of : (p a m z : List Bool) → unscrambled p (a ++ (m ++ z)) ≡ unscrambled p a ++ (reached (reverse_aux a p) m z ++ beyond (reverse_aux a p) m z)
unfolding reached beyond
spread_of p a m z =
    let q = reverse_aux a p in
    let u = unscrambled (reverse_aux m q) z in
    unscrambled_of_append a (m ++ z) p
    ∙ ap (λ (bs : List Bool). unscrambled p a ++ bs)
    (unscrambled_of_append m z q
    ∙ ap (λ (bs : List Bool). unscrambled q m ++ bs) (sym (take-append-drop 10 u))
    ∙ sym (append_assoc (unscrambled q m) (take 10 u) (drop 10 u)))

length_reached : (p m z : List Bool) → length (reached p m z) ≡ length m + length (take 10 z)
unfolding reached
length_reached p m z = simp (length-append, length-take, length-unscrambled)

reached_differ : (p m n z : List Bool) → length m ≡ length n → reached p m z ≡ reached p n z → m ≡ n
unfolding reached
reached_differ p m n z l e =
    let um = unscrambled p m in
    let un = unscrambled p n in
    let s : um ≡ un =
    sym (take_at um (take 10 (unscrambled (reverse_aux m p) z)) (length m) (length-unscrambled m p))
    ∙ ap (take (length m)) e
    ∙ take_at un (take 10 (unscrambled (reverse_aux n p) z)) (length m) (length-unscrambled n p ∙ sym l) in
    unscrambled_injective m n p l s

-- "unscrambled bits agree from the eleventh on"
beyond_same : (p m n z : List Bool) → beyond p n z ≡ beyond p m z
unfolding beyond
beyond_same p m n z = unscrambled_from_eleventh (reverse_aux n p) (reverse_aux m p) z

pub spread : (p a m n z : List Bool) → length m ≡ length n → (m ≡ n → ⊥) → Spread p a m n z
spread p a m n z l d =
    let q = reverse_aux a p in
    record {
      start = unscrambled p a;
      one = reached q m z;
      other = reached q n z;
      rest = beyond q m z;
      of_one = spread_of p a m z;
      of_other = spread_of p a n z ∙ ap (λ (bs : List Bool). unscrambled p a ++ (reached q n z ++ bs)) (beyond_same q m n z);
      length_start = length-unscrambled a p;
      length-same = length_reached q m z ∙ ap (λ (k : ℕ). k + length (take 10 z)) l ∙ sym (length_reached q n z);
      length_run = omega (arith, length_reached q m z, length-take 10 z);
      differ = λ e. d (reached_differ q m n z l e);
    }

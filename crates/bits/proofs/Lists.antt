-- Laws of lists: the first element and the rest, and a loop that fills a slice.
use mathlib.Core.Path.{◌≡◌, sym, ap, ap₂, ◌∙◌}
use mathlib.Core.List.{List, ◌∷◌, ◌++◌}
use Prim.Native.Nat.{ℕ, suc, ◌+◌, ◌<◌}
use native.Mathlib.Numerals.{add-one}
use native.Mathlib.Nat.{le_of_lt}
use lib.ListN.{length, get_or, take, drop, set}
use lib.Seq.{drop-cons, take-suc, set_at, append_snoc, length-take-le}

pub cons_equal : {A : Type 0} {x y : A} {xs ys : List A} → x ≡ y → xs ≡ ys → x ∷ xs ≡ y ∷ ys
cons_equal {A} e f = ap₂ (λ (b : A) (l : List A). b ∷ l) e f

pub cons_head : {A : Type 0} {x y : A} {xs ys : List A} → x ∷ xs ≡ y ∷ ys → x ≡ y
cons_head e = cc

pub cons_tail : {A : Type 0} {x y : A} {xs ys : List A} → x ∷ xs ≡ y ∷ ys → xs ≡ ys
cons_tail e = cc

pub head_of_drop : (xs : List ℕ) (i : ℕ) (y : ℕ) (ys : List ℕ) → i < length xs → drop i xs ≡ y ∷ ys → get_or xs i 0 ≡ y
head_of_drop xs i y ys h e = cons_head (sym (drop-cons xs i 0 h) ∙ e)

pub tail_of_drop : (xs : List ℕ) (i : ℕ) (y : ℕ) (ys : List ℕ) → i < length xs → drop i xs ≡ y ∷ ys → drop (i + 1) xs ≡ ys
tail_of_drop xs i y ys h e = rw add-one (cons_tail (sym (drop-cons xs i 0 h) ∙ e))

-- a loop that fills a slice with the elements of a list, one after the other: one turn
pub fill_step : (R d : List ℕ) (i : ℕ) → i < length R → i < length d → set (take i R ++ drop i d) i (get_or R i 0) ≡ take (i + 1) R ++ drop (i + 1) d
fill_step R d i hr hd =
    let p = take i R in
    ap (λ (l : List ℕ). set (p ++ l) i (get_or R i 0)) (drop-cons d i 0 hd)
    ∙ set_at p (get_or d i 0) (drop (suc i) d) (get_or R i 0) i (length-take-le i R (le_of_lt hr))
    ∙ sym (append_snoc p (get_or R i 0) (drop (suc i) d))
    ∙ ap (λ (l : List ℕ). l ++ drop (suc i) d) (sym (take-suc R i 0 hr))
    ∙ rw add-one

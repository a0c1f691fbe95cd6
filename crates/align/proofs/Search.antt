-- Laws of the search's inner loop: what it passes, and where it stops.
use mathlib.Core.Path.{◌≡◌, refl, sym, ap, ap₂, ◌∙◌}
use mathlib.Core.Bool.{Bool, true, false}
use mathlib.Core.List.{List, [], ◌∷◌, ◌++◌, append_assoc}
use Rattle.std.specs.Prelude.{Option, None, Some, option_map}
use Prim.Native.Nat.{ℕ, suc, ◌+◌, ◌-◌, ◌*◌, ◌/◌, ◌%◌, ◌≤◌, ◌<◌}
use native.Mathlib.Omega.{arith}
use native.Mathlib.Numerals.{add-one}
use native.Mathlib.Decide.{ℕ_discrete}
use lib.Dec.{eqb}
use lib.ListN.{length, drop, get_or, replicate, length-append}
use lib.Seq.{drop-cons, drop-length}
use borrow.Author.Tests.{eq-eqb, ne_eqb}
use Rattle.bits.specs.Choice.{if}
use Rattle.bits.specs.Bits.{odd, bits, number, word_bits}
use Rattle.bits.proofs.Bits.{digit-odd, length-bits, number_half, number_append}
use Rattle.raster.specs.Layout.{sync_of, hd_unit}
use Rattle.std.proofs.Common.{ControlFlow, Break, Continue}
use Rattle.align.specs.Sync.{starts_with, first_place, first_sync}
use Rattle.align.specs.Search.{slid, searched}
use Rattle.align.proofs.FirstSync.{no_place, after, after_zero, after-suc, first_here, first_there, first_of_short, first_after_zeros}

-- ---- searched: a turn of the loop, at the word's lowest bit, and its end

slid-odd : (l w : ℕ) → slid l (odd w) ≡ l / 2 + w % 2 * 0x800000000000000
slid-odd l w = ap (λ (d : ℕ). l / 2 + d * 0x800000000000000) (digit-odd w)

more : (k : ℕ) → k < 10 → 10 - k ≡ suc (10 - (k + 1))
more k h = omega arith

pub searched_stop : (k l w : ℕ) → k < 10 → l / 2 + w % 2 * 0x800000000000000 ≡ 0xfffff → searched k l (bits (10 - k) w) ≡ Break k
unfolding searched bits
searched_stop k l w h e = rw (more k h, slid-odd l w, eq-eqb (l / 2 + w % 2 * 0x800000000000000) 0xfffff e)

pub searched_step : (k l w : ℕ) → k < 10 → (l / 2 + w % 2 * 0x800000000000000 ≡ 0xfffff → ⊥)
    → searched k l (bits (10 - k) w) ≡ searched (k + 1) (l / 2 + w % 2 * 0x800000000000000) (bits (10 - (k + 1)) (w / 2))
unfolding searched bits
searched_step k l w h e = rw (more k h, slid-odd l w, ne_eqb (l / 2 + w % 2 * 0x800000000000000) 0xfffff e, add-one k)

pub searched_end : (k l w : ℕ) → 10 ≤ k → searched k l (bits (10 - k) w) ≡ Continue l
unfolding searched bits
searched_end k l w h = let e : 10 - k ≡ 0 = omega arith in rw e

-- ---- ends: the search over a whole stream

-- the bit, counted from k, at which the first sync ends
abbrev pub ends : ℕ → ℕ → List Bool → Option ℕ
ends k l [] = None
ends k l (b ∷ bs) = if (eqb (slid l b) 0xfffff) (Some k) (ends (suc k) (slid l b) bs)

-- after some bits, of which n are counted, the answer is found or the rest is searched
abbrev resumed : ℕ → ℕ → List Bool → ControlFlow ℕ ℕ → Option ℕ
resumed k n ys (Break e) = Some (k + e)
resumed k n ys (Continue l) = ends (k + n) l ys

ends_of_append : (k j l : ℕ) (xs ys : List Bool) → ends (k + j) l (xs ++ ys) ≡ resumed k (j + length xs) ys (searched j l xs)
unfolding searched
ends_of_append k j l [] ys = let e : k + j ≡ k + (j + 0) = omega arith in ap (λ (n : ℕ). ends n l ys) e
ends_of_append k j l (x ∷ xs) ys = go (eqb (slid l x) 0xfffff) (ends_of_append k (suc j) (slid l x) xs ys)
  where
    go : (t : Bool) → ends (k + suc j) (slid l x) (xs ++ ys) ≡ resumed k (suc j + length xs) ys (searched (suc j) (slid l x) xs)
        → if t (Some (k + j)) (ends (suc (k + j)) (slid l x) (xs ++ ys))
        ≡ resumed k (j + suc (length xs)) ys (if t (Break j) (searched (suc j) (slid l x) xs))
    go true ih = refl
    go false ih =
        let e : suc (k + j) ≡ k + suc j = omega arith in
        let f : suc j + length xs ≡ j + suc (length xs) = omega arith in
        ap (λ (n : ℕ). ends n (slid l x) (xs ++ ys)) e ∙ ih
        ∙ ap (λ (n : ℕ). resumed k n ys (searched (suc j) (slid l x) xs)) f

-- a turn of the loop over words: the answer is found in this word, or the next is searched
module _ (ws : List ℕ) (i l : ℕ) (h : i < length ws) where
  ends_word : ends (i * 10) l (word_bits (drop i ws)) ≡ resumed (i * 10) 10 (word_bits (drop (i + 1) ws)) (searched 0 l (bits 10 (get_or ws i 0)))
  unfolding word_bits
  ends_word =
      let e : i * 10 ≡ i * 10 + 0 = omega arith in
      let f : 0 + length (bits 10 (get_or ws i 0)) ≡ 10 = omega (arith, length-bits 10 (get_or ws i 0)) in
      rw (add-one i, drop-cons ws i 0 h)
      (ap (λ (n : ℕ). ends n l (bits 10 (get_or ws i 0) ++ word_bits (drop (suc i) ws))) e
      ∙ ends_of_append (i * 10) 0 l (bits 10 (get_or ws i 0)) (word_bits (drop (suc i) ws))
      ∙ ap (λ (n : ℕ). resumed (i * 10) n (word_bits (drop (suc i) ws)) (searched 0 l (bits 10 (get_or ws i 0)))) f)

  pub ends_stop : (e : ℕ) → searched 0 l (bits 10 (get_or ws i 0)) ≡ Break e → ends (i * 10) l (word_bits (drop i ws)) ≡ Some (i * 10 + e)
  ends_stop e s = ends_word ∙ ap (resumed (i * 10) 10 (word_bits (drop (i + 1) ws))) s

  pub ends_step : (m : ℕ) → searched 0 l (bits 10 (get_or ws i 0)) ≡ Continue m
      → ends (i * 10) l (word_bits (drop i ws)) ≡ ends ((i + 1) * 10) m (word_bits (drop (i + 1) ws))
  ends_step m s =
      let e : i * 10 + 10 ≡ (i + 1) * 10 = omega arith in
      ends_word ∙ ap (resumed (i * 10) 10 (word_bits (drop (i + 1) ws))) s ∙ ap (λ (n : ℕ). ends n m (word_bits (drop (i + 1) ws))) e

pub ends_end : (ws : List ℕ) (i l : ℕ) → i ≡ length ws → ends (i * 10) l (word_bits (drop i ws)) ≡ None
unfolding word_bits
ends_end ws i l e = rw (e, drop-length)

-- ---- the number of a window decides whether it is the pattern

eqb_twice : (a b d : ℕ) → eqb (a * 2 + d) (b * 2 + d) ≡ eqb a b
eqb_twice a b d = go (ℕ_discrete a b)
  where
    go : Dec (a ≡ b) → eqb (a * 2 + d) (b * 2 + d) ≡ eqb a b
    go (yes e) = eq-eqb (a * 2 + d) (b * 2 + d) (omega arith) ∙ sym (eq-eqb a b e)
    go (no g) = ne_eqb (a * 2 + d) (b * 2 + d) (λ e. g (omega arith)) ∙ sym (ne_eqb a b g)

starts_number : (ps xs ys : List Bool) → length xs ≡ length ps → starts_with ps (xs ++ ys) ≡ eqb (number xs) (number ps)
unfolding starts_with number
starts_number [] [] ys e = refl
starts_number [] (x ∷ xs) ys e = absurd (omega arith)
starts_number (p ∷ ps) [] ys e = absurd (omega arith)
starts_number (true ∷ ps) (true ∷ xs) ys e = starts_number ps xs ys (omega arith) ∙ sym (eqb_twice (number xs) (number ps) 1)
starts_number (true ∷ ps) (false ∷ xs) ys e = sym (ne_eqb (number xs * 2 + 0) (number ps * 2 + 1) (λ f. omega arith))
starts_number (false ∷ ps) (true ∷ xs) ys e = sym (ne_eqb (number xs * 2 + 1) (number ps * 2 + 0) (λ f. omega arith))
starts_number (false ∷ ps) (false ∷ xs) ys e = starts_number ps xs ys (omega arith) ∙ sym (eqb_twice (number xs) (number ps) 0)

-- one bit enters the window of sixty at the high end, and one leaves at the low end
slid_window : (l : ℕ) (v : List Bool) (b : Bool) → length v ≡ 59 → l / 2 ≡ number v → slid l b ≡ number (v ++ (b ∷ []))
unfolding number
slid_window l v b e f = rw (number_append v (b ∷ []), e) (omega arith)

slid_half : (l : ℕ) (x : Bool) (v : List Bool) (b : Bool) → length (x ∷ v) ≡ 59 → l / 2 ≡ number (x ∷ v) → slid l b / 2 ≡ number (v ++ (b ∷ []))
slid_half l x v b e f = ap (λ (n : ℕ). n / 2) (slid_window l (x ∷ v) b e f) ∙ number_half (x ∷ v ++ (b ∷ []))

-- the search after 59 bits v, for a pattern of sixty bits: it ends as far into the bits as the pattern starts into v and the bits
module _ (ps : List Bool) (sixty : length ps ≡ 60) (low : number ps ≡ 0xfffff) where
  ends_window : (bs v : List Bool) (k l : ℕ) → length v ≡ 59 → l / 2 ≡ number v → ends k l bs ≡ after k (first_place ps (v ++ bs))
  ends_window [] v k l e f = ap (after k) (sym (first_of_short ps (v ++ []) (omega (arith, length-append v []))))
  ends_window (b ∷ bs) [] k l e f = absurd (omega arith)
  ends_window (b ∷ bs) (x ∷ v) k l e f =
      go (eqb (slid l b) 0xfffff)
      (ap (starts_with ps) (sym (append_assoc (x ∷ v) (b ∷ []) bs))
      ∙ starts_number ps (x ∷ v ++ (b ∷ [])) bs (omega (arith, length-append v (b ∷ [])))
      ∙ ap₂ eqb (sym (slid_window l (x ∷ v) b e f)) low)
      (ends_window bs (v ++ (b ∷ [])) (suc k) (slid l b) (omega (arith, length-append v (b ∷ []))) (slid_half l x v b e f))
    where
      go : (t : Bool) → starts_with ps (x ∷ (v ++ b ∷ bs)) ≡ t → ends (suc k) (slid l b) bs ≡ after (suc k) (first_place ps (v ++ (b ∷ []) ++ bs))
          → if t (Some k) (ends (suc k) (slid l b) bs) ≡ after k (first_place ps (x ∷ (v ++ b ∷ bs)))
      go true s ih = let z : k ≡ k + 0 = omega arith in ap Some z ∙ ap (after k) (sym (first_here ps x (v ++ b ∷ bs) s))
      go false s ih =
          ih ∙ sym (after-suc k (first_place ps (v ++ (b ∷ []) ++ bs)))
          ∙ ap (λ (w : List Bool). after k (option_map suc (first_place ps w))) (append_assoc v (b ∷ []) bs)
          ∙ ap (after k) (sym (first_there ps x (v ++ b ∷ bs) s))

-- from sixty zeros on, the search ends at the last bit of the first sync
pub ends_sync : (ws : List ℕ) → ends 0 0 (word_bits ws) ≡ after 59 (first_sync ws)
unfolding first_sync number
ends_sync ws =
    ends_window (sync_of hd_unit) refl refl (word_bits ws) (replicate 59 false) 0 0 refl refl
    ∙ after_zero (first_place (sync_of hd_unit) (replicate 59 false ++ word_bits ws))
    ∙ first_after_zeros (drop 1 (sync_of hd_unit)) 59 (word_bits ws)

pub sync_from_end : (ws : List ℕ) (e : ℕ) → ends 0 0 (word_bits ws) ≡ Some e → first_sync ws ≡ Some (e - 59)
sync_from_end ws e h = go (first_sync ws) (sym (ends_sync ws) ∙ h)
  where
    go : (o : Option ℕ) → after 59 o ≡ Some e → o ≡ Some (e - 59)
    go None k = no_place k
    go (Some p) k = let z : 59 + p ≡ e = cc in let y : p ≡ e - 59 = omega arith in ap Some y

pub sync_from_none : (ws : List ℕ) → ends 0 0 (word_bits ws) ≡ None → first_sync ws ≡ None
sync_from_none ws h = go (first_sync ws) (sym (ends_sync ws) ∙ h)
  where
    go : (o : Option ℕ) → after 59 o ≡ None → o ≡ None
    go None k = refl
    go (Some p) k = no_place (sym k)

-- Laws of the start of a packet, of its size and of its checksum.
use mathlib.Core.Path.{◌≡◌, refl, sym, ap, ◌∙◌}
use mathlib.Core.Bool.{true, false}
use mathlib.Core.Logic.{◌≢◌}
use mathlib.Core.List.{List, [], ◌∷◌}
use Prim.Native.Nat.{ℕ, ◌+◌, ◌-◌, ◌%◌, ◌≤◌, ◌<◌}
use native.Mathlib.Omega.{arith}
use native.Mathlib.Numerals.{add-one}
use lib.Dec.{leb}
use lib.ListN.{length, get_or, take, drop, length-take, length-drop, drop_of_length-le}
use lib.Seq.{drop-cons, drop-drop, get_or-take, get_or-drop, take-take}
use borrow.Author.Tests.{leb-true}
use Rattle.std.specs.List.{fold}
use Rattle.std.proofs.lemmas.List.{drop-take}
use Rattle.std.proofs.lemmas.Bool.{false_from_ne_true}
use Rattle.bits.specs.Words.{reserved_code, nine_of}
use Rattle.bits.proofs.Choice.{and-true}
use Rattle.bits.proofs.Words.{nine_not_reserved, nine_of_low}
use Rattle.parts.specs.Parts.{part, same}
use Rattle.parts.proofs.Comparing.{same_true}
use Rattle.scan.specs.Packet.{marker, marked, user_count, size_of, fits, sum_of, checksum_of, summed, checksum_in}

-- ---- marked

pub marked_words : (ws : List ℕ) → marked ws ≡ true → take 3 ws ≡ marker
unfolding marked
marked_words ws e = same_true (take 3 ws) marker e

pub marked-room : (r : List ℕ) (i : ℕ) → marked (drop i r) ≡ true → i + 3 ≤ length r
marked-room r i e = omega (arith, simp (length-take, length-drop) at (ap length (marked_words (drop i r) e)))

pub marked_yes : (ws : List ℕ) → 3 ≤ length ws → get_or ws 0 0 ≡ 0x000 → get_or ws 1 0 ≡ 0x3ff → get_or ws 2 0 ≡ 0x3ff → marked ws ≡ true
unfolding marked same
marked_yes [] h a b c = absurd (omega arith)
marked_yes (u ∷ []) h a b c = absurd (omega arith)
marked_yes (u ∷ v ∷ []) h a b c = absurd (omega arith)
marked_yes (u ∷ v ∷ w ∷ ws) h a b c = rw (a, b, c)

pub marked_short : (ws : List ℕ) → length ws < 3 → marked ws ≡ false
marked_short ws h = false_from_ne_true (marked ws) (λ e. omega (arith, length-take 3 ws, ap length (marked_words ws e)))

module _ (ws : List ℕ) (k w : ℕ) (n : get_or ws k 0 ≢ w) (first : k < 3) where
  marked_not : get_or marker k 0 ≡ w → marked ws ≡ false
  marked_not m = false_from_ne_true (marked ws) (λ e. n (sym (get_or-take 3 ws k 0 first) ∙ ap (λ (l : List ℕ). get_or l k 0) (marked_words ws e) ∙ m))

pub marked_not_0 : (ws : List ℕ) → get_or ws 0 0 ≢ 0x000 → marked ws ≡ false
marked_not_0 ws n = marked_not ws 0 0x000 n (omega arith) refl

pub marked_not_1 : (ws : List ℕ) → get_or ws 1 0 ≢ 0x3ff → marked ws ≡ false
marked_not_1 ws n = marked_not ws 1 0x3ff n (omega arith) refl

pub marked_not_2 : (ws : List ℕ) → get_or ws 2 0 ≢ 0x3ff → marked ws ≡ false
marked_not_2 ws n = marked_not ws 2 0x3ff n (omega arith) refl

pub ruleset marks = (marked_yes, marked_short, marked_not_0, marked_not_1, marked_not_2)

-- ---- fits

pub fits-room : (ws : List ℕ) → fits ws ≡ true → (6 ≤ length ws) × (size_of ws ≤ length ws)
unfolding fits
fits-room ws e =
    let p = and-true (leb 6 (length ws)) (leb (size_of ws) (length ws)) e in
    (leb-true 6 (length ws) p.0, leb-true (size_of ws) (length ws) p.1)

-- ---- sum_of: its low nine bits are kept by a sum that wraps at sixteen bits

pub sum_fold : (s : ℕ) (ws : List ℕ) → fold (λ sum w. (sum + w) % 65536) s ws % 512 ≡ (s + sum_of ws) % 512
unfolding sum_of
sum_fold s [] = omega arith
sum_fold s (w ∷ ws) = sum_fold ((s + w) % 65536) ws ∙ omega arith

-- the same a word at a time, of the first k words from place i on
pub sum_step : (s i j k : ℕ) (r : List ℕ) → j < k → i + j < length r
    → ((s + get_or r (i + j) 0) % 65536 + sum_of (drop (j + 1) (take k (drop i r)))) % 512 ≡ (s + sum_of (drop j (take k (drop i r)))) % 512
unfolding sum_of
sum_step s i j k r h g =
    let ws = take k (drop i r) in
    let e : get_or r (i + j) 0 ≡ get_or ws j 0 = sym (get_or-take k (drop i r) j 0 h ∙ get_or-drop i r j 0) in
    let in_ws : j < length ws = simp (length-take, length-drop) (omega arith) in
    rw (e, add-one, drop-cons ws j 0) (omega arith)

pub sum_end : (s i : ℕ) (ws : List ℕ) → length ws ≤ i → (s + sum_of (drop i ws)) % 512 ≡ s % 512
unfolding sum_of
sum_end s i ws h = rw (drop_of_length-le ws h) (omega arith)

-- ---- checksum_of

pub checksum_by_sum : (s : ℕ) (ws : List ℕ) → s % 512 ≡ sum_of ws % 512 → nine_of s ≡ checksum_of ws
unfolding checksum_of
checksum_by_sum s ws e = sym (nine_of_low s) ∙ ap nine_of e

pub checksum_not_reserved : (ws : List ℕ) → reserved_code (checksum_of ws) ≡ false
unfolding checksum_of
checksum_not_reserved ws = nine_not_reserved (sum_of ws % 512)

-- ---- summed, checksum_in: by the places of the region that a packet of n words stands in at i

pub after-marker : (r : List ℕ) (i k : ℕ) → 3 ≤ k → drop 3 (take k (drop i r)) ≡ part (i + 3) (k - 3) r
after-marker r i k h =
    let e : k ≡ 3 + (k - 3) = omega arith in
    ap (λ (m : ℕ). drop 3 (take m (drop i r))) e ∙ drop-take 3 (k - 3) (drop i r) ∙ ap (take (k - 3)) (drop-drop 3 i r)

module _ (r : List ℕ) (i n : ℕ) (size : size_of (take n (drop i r)) ≡ n) where
  pub summed_at : summed (take n (drop i r)) ≡ part (i + 3) (n - 4) r
  summed_at =
      let u : user_count (take n (drop i r)) + 3 ≡ n - 4 = omega arith in
      ap (λ (k : ℕ). take k (drop 3 (take n (drop i r)))) u
      ∙ ap (take (n - 4)) (after-marker r i n (omega arith))
      ∙ take-take (n - 4) (n - 3) (drop (i + 3) r) (omega arith)

  pub checksum_in_at : checksum_in (take n (drop i r)) ≡ get_or r (i + (n - 1)) 0
  checksum_in_at =
      let u : user_count (take n (drop i r)) + 6 ≡ n - 1 = omega arith in
      ap (λ (k : ℕ). get_or (take n (drop i r)) k 0) u
      ∙ get_or-take n (drop i r) (n - 1) 0 (omega arith)
      ∙ get_or-drop i r (n - 1) 0

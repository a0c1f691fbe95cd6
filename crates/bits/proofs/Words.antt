-- Laws of words10, reserved_code and nine_of.
use mathlib.Core.Path.{◌≡◌, refl, sym, ◌∙◌}
use mathlib.Core.Bool.{Bool, true, false, not, ◌&&◌, and-true}
use mathlib.Core.List.{List, [], ◌∷◌, ◌++◌}
use Prim.Native.Nat.{ℕ, zero, suc, ◌+◌, ◌/◌, ◌%◌, ◌≤◌, ◌<◌}
use native.Mathlib.Omega.{arith}
use native.Mathlib.Decide.{dec_le}
use lib.Dec.{leb, ltb}
use lib.ListN.{length, get_or, take, drop, set, replicate}
use Rattle.std.specs.List.{fold}
use borrow.Author.Tests.{lt-ltb, le-ltb, le-leb, lt-leb, leb-true}
use Rattle.bits.specs.Choice.{if}
use Rattle.bits.specs.Bits.{odd, digit}
use Rattle.bits.specs.Words.{words10, reserved_code, nine_of}
use Rattle.bits.proofs.Choice.{if_true, false_not_true}
use Rattle.bits.proofs.Bits.{digit-odd}

-- ---- words10

pub words10_fold : (all : Bool) (ws : List ℕ) → fold (λ a w. a && leb w 0x3ff) all ws ≡ (all && words10 ws)
unfolding words10
words10_fold all [] = sym (and-true all)
words10_fold all (w ∷ ws) = words10_fold (all && leb w 0x3ff) ws ∙ go all (leb w 0x3ff) (words10 ws)
  where
    go : (a b c : Bool) → (a && b && c) ≡ (a && if b c false)
    go true true c = refl
    go true false c = refl
    go false b c = refl

pub words10_nil : (ws : List ℕ) → ws ≡ [] → words10 ws ≡ true
unfolding words10
words10_nil ws e = rw e

pub words10_cons : (w : ℕ) (ws : List ℕ) → w ≤ 0x3ff → words10 ws ≡ true → words10 (w ∷ ws) ≡ true
unfolding words10
words10_cons w ws r t = rw (le-leb w 0x3ff r) t

pub words10_head : (w : ℕ) (ws : List ℕ) → words10 (w ∷ ws) ≡ true → w ≤ 0x3ff
unfolding words10
words10_head w ws t = leb-true w 0x3ff (if_true (leb w 0x3ff) (words10 ws) t).0

pub words10_tail : (w : ℕ) (ws : List ℕ) → words10 (w ∷ ws) ≡ true → words10 ws ≡ true
unfolding words10
words10_tail w ws t = (if_true (leb w 0x3ff) (words10 ws) t).1

pub words10_at : (ws : List ℕ) (i : ℕ) → words10 ws ≡ true → i < length ws → get_or ws i 0 ≤ 0x3ff
words10_at [] i t h = absurd (omega arith)
words10_at (w ∷ ws) zero t h = words10_head w ws t
words10_at (w ∷ ws) (suc i) t h = words10_at ws i (words10_tail w ws t) (omega arith)

pub words10_append : (ws vs : List ℕ) → words10 ws ≡ true → words10 (ws ++ vs) ≡ words10 vs
unfolding words10
words10_append [] vs h = refl
words10_append (w ∷ ws) vs h = go (leb w 0x3ff) h (words10_append ws vs)
  where
    go : (b : Bool) → if b (words10 ws) false ≡ true → (words10 ws ≡ true → words10 (ws ++ vs) ≡ words10 vs)
        → if b (words10 (ws ++ vs)) false ≡ words10 vs
    go true e rest = rest e
    go false e rest = cc

-- ---- words10 of what is put together and taken apart

pub tens_append : (vs ws : List ℕ) → words10 vs ≡ true → words10 ws ≡ true → words10 (vs ++ ws) ≡ true
tens_append vs ws v w = words10_append vs ws v ∙ w

pub tens_take : (n : ℕ) (ws : List ℕ) → words10 ws ≡ true → words10 (take n ws) ≡ true
unfolding words10
tens_take zero ws t = refl
tens_take (suc n) [] t = refl
tens_take (suc n) (w ∷ ws) t = words10_cons w (take n ws) (words10_head w ws t) (tens_take n ws (words10_tail w ws t))

pub tens_drop : (n : ℕ) (ws : List ℕ) → words10 ws ≡ true → words10 (drop n ws) ≡ true
unfolding words10
tens_drop zero ws t = t
tens_drop (suc n) [] t = refl
tens_drop (suc n) (w ∷ ws) t = tens_drop n ws (words10_tail w ws t)

pub tens_set : (ws : List ℕ) (i w : ℕ) → w ≤ 0x3ff → words10 ws ≡ true → words10 (set ws i w) ≡ true
tens_set [] i w h t = t
tens_set (v ∷ ws) zero w h t = words10_cons w ws h (words10_tail v ws t)
tens_set (v ∷ ws) (suc i) w h t = words10_cons v (set ws i w) (words10_head v ws t) (tens_set ws i w h (words10_tail v ws t))

pub tens_blanks : (n blank : ℕ) → blank ≤ 0x3ff → words10 (replicate n blank) ≡ true
unfolding words10
tens_blanks zero blank h = refl
tens_blanks (suc n) blank h = words10_cons blank (replicate n blank) h (tens_blanks n blank h)

-- ---- reserved_code: of the low ten bits, by one comparison; a word is one only where these are

pub reserved_low : (w : ℕ) → ltb ((w % 1024 + 4) % 1024) 8 ≡ reserved_code (w % 1024)
unfolding reserved_code
reserved_low w = go (w % 1024) (omega arith) (dec_le (w % 1024) 0x003) (dec_le 0x3fc (w % 1024))
  where
    go : (v : ℕ) → v < 1024 → Dec (v ≤ 0x003) → Dec (0x3fc ≤ v) → ltb ((v + 4) % 1024) 8 ≡ reserved_code v
    go v h (yes low) high = rw (lt-ltb ((v + 4) % 1024) 8 (omega arith), le-leb v 0x003 low)
    go v h (no low) (yes high) =
        rw (lt-ltb ((v + 4) % 1024) 8 (omega arith), lt-leb v 0x003 (omega arith), le-leb 0x3fc v high, le-leb v 0x3ff (omega arith))
    go v h (no low) (no high) =
        rw (le-ltb ((v + 4) % 1024) 8 (omega arith), lt-leb v 0x003 (omega arith), lt-leb 0x3fc v (omega arith))

pub reserved_of_low : (w : ℕ) → reserved_code (w % 1024) ≡ false → reserved_code w ≡ false
unfolding reserved_code
reserved_of_low w e = go (dec_le w 0x3ff)
  where
    go : Dec (w ≤ 0x3ff) → reserved_code w ≡ false
    go (yes h) = let small : w % 1024 ≡ w = omega arith in rw small at e
    go (no h) = rw (lt-leb w 0x003 (omega arith), le-leb 0x3fc w (omega arith)) (lt-leb w 0x3ff (omega arith))

-- ---- bit 9 the inverse of bit 8: the two high bits are 01 or 10, far from both reserved ranges

inverse_range : (w : ℕ) → w ≤ 0x3ff → odd (w / 512) ≡ not (odd (w / 256)) → (256 ≤ w) × (w < 768)
inverse_range w h e = go (odd (w / 512)) (odd (w / 256)) (digit-odd (w / 512)) (digit-odd (w / 256)) e
  where
    go : (nine eight : Bool) → digit nine ≡ w / 512 % 2 → digit eight ≡ w / 256 % 2 → nine ≡ not eight → (256 ≤ w) × (w < 768)
    go true true a b c = absurd (false_not_true (sym c))
    go true false a b c = (omega arith, omega arith)
    go false true a b c = (omega arith, omega arith)
    go false false a b c = absurd (false_not_true c)

pub inverse_not_reserved : (w : ℕ) → w ≤ 0x3ff → odd (w / 512) ≡ not (odd (w / 256)) → reserved_code w ≡ false
unfolding reserved_code
inverse_not_reserved w h e =
    let r = inverse_range w h e in
    rw (lt-leb w 0x003 (omega arith), lt-leb 0x3fc w (omega arith))

-- ---- nine_of: inverse, so that range and reserved codes follow

pub nine_inverse : (n : ℕ) → (nine_of n ≤ 0x3ff) × (odd (nine_of n / 512) ≡ not (odd (nine_of n / 256)))
unfolding nine_of odd
nine_inverse n = go (odd (n / 256)) (digit-odd (n / 256))
  where
    go : (b : Bool) → digit b ≡ n / 256 % 2
        → let w = n % 512 + if b 0 512 in
        (w ≤ 0x3ff) × (odd (w / 512) ≡ not (odd (w / 256)))
    go true e =
        let nine : (n % 512 + 0) / 512 % 2 ≡ 0 = omega arith in
        let eight : (n % 512 + 0) / 256 % 2 ≡ 1 = omega arith in
        (omega arith, rw (nine, eight))
    go false e =
        let less : n % 512 < 256 = omega arith in
        let nine : (n % 512 + 512) / 512 % 2 ≡ 1 = omega arith in
        let eight : (n % 512 + 512) / 256 % 2 ≡ 0 = omega arith in
        (omega arith, rw (nine, eight))

pub nine_range : (n : ℕ) → (256 ≤ nine_of n) × (nine_of n < 768)
nine_range n = inverse_range (nine_of n) (nine_inverse n).0 (nine_inverse n).1

pub nine_low : (n : ℕ) → nine_of n % 512 ≡ n % 512
unfolding nine_of
nine_low n = go (odd (n / 256))
  where
    go : (b : Bool) → (n % 512 + if b 0 512) % 512 ≡ n % 512
    go true = omega arith
    go false = omega arith

-- nine_of sees the low nine bits alone
pub nine_of_low : (n : ℕ) → nine_of (n % 512) ≡ nine_of n
unfolding nine_of odd
nine_of_low n =
    let low : n % 512 % 512 ≡ n % 512 = omega arith in
    let bit : n % 512 / 256 % 2 ≡ n / 256 % 2 = omega arith in
    rw (low, bit)

pub nine_not_reserved : (n : ℕ) → reserved_code (nine_of n) ≡ false
nine_not_reserved n = inverse_not_reserved (nine_of n) (nine_inverse n).0 (nine_inverse n).1

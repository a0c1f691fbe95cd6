-- Laws of the last sixty bits as a number: bits that enter, and bits in which no sync ends.
use mathlib.Core.Path.{◌≡◌, refl, sym, ap, ◌∙◌}
use mathlib.Core.Bool.{Bool, true, false}
use mathlib.Core.List.{List, [], ◌∷◌, ◌++◌}
use Prim.Native.Nat.{ℕ, zero, suc, ◌+◌, ◌*◌, ◌/◌, ◌^◌, ◌≤◌, ◌<◌}
use native.Mathlib.Omega.{arith}
use native.Mathlib.Nat.{pow-suc, pow-succ', div-div-eq-div-mul, add-mul-div_left}
use lib.ListN.{length, replicate}
use lib.Pow.{pow_pos, pow_mono, pow-add}
use Rattle.bits.specs.Bits.{digit, number}
use Rattle.bits.proofs.Bits.{digit_lt}
use Rattle.align.specs.Search.{slid}
use Rattle.recogniser.proofs.Events.{is_sync_other}
use Rattle.taking.specs.Hurry.{Calm, NoSync, slides}

pub slides_of_append : (l : ℕ) (xs bs : List Bool) → slides l (xs ++ bs) ≡ slides (slides l xs) bs
slides_of_append l [] bs = refl
slides_of_append l (x ∷ xs) bs = slides_of_append (slid l x) xs bs

-- ---- no sync ends in these bits

-- a number with a one so high that it does not leave meanwhile is no sync's
high_no_sync : (l : ℕ) (bs : List Bool) → 2 ^ length bs * 0x100000 ≤ l → NoSync l bs
high_no_sync l [] h = tt
high_no_sync l (b ∷ bs) h =
    let d = digit_lt b in
    let p = pow_pos (length bs) in
    let half : 2 ^ length bs * 0x100000 ≤ slid l b = omega (arith, pow-suc 2 (length bs)) in
    (is_sync_other (slid l b) (λ e. omega arith), high_no_sync (slid l b) bs half)

-- so many zeros
abbrev pub zeros : ℕ → List Bool
zeros n = replicate n false

-- where none ends if all are zeros, none ends at all: the first one makes the number high
zeros_no_sync : (l : ℕ) (bs : List Bool) → length bs ≤ 39 → NoSync l (zeros (length bs)) → NoSync l bs
zeros_no_sync l [] few h = tt
zeros_no_sync l (false ∷ bs) few h = (h.0, zeros_no_sync (slid l false) bs (omega arith) h.1)
zeros_no_sync l (true ∷ bs) few h =
    let few : length bs ≤ 38 = omega arith in
    let p : 2 ^ length bs ≤ 2 ^ 38 = pow_mono few in
    (is_sync_other (slid l true) (λ e. omega arith), high_no_sync (slid l true) bs (omega (arith, p)))

-- a number that is too low already is no sync's while zeros come
low_no_sync : (n l : ℕ) → l < 0x1ffffe → NoSync l (zeros n)
low_no_sync zero l h = tt
low_no_sync (suc n) l h = (is_sync_other (slid l false) (λ e. omega arith), low_no_sync n (slid l false) (omega arith))

pub calm_high : (l : ℕ) → 0x10000000000 ≤ l → Calm l
calm_high l h bs long = high_no_sync l bs (rw long h)

pub calm_low : (l : ℕ) → l < 0x1ffffe → Calm l
calm_low l h bs long = zeros_no_sync l bs (omega arith) (low_no_sync (length bs) l h)

zeros_each : (n l : ℕ) → ((k : ℕ) → 1 ≤ k → k ≤ n → l / 2 ^ k ≡ 0xfffff → ⊥) → NoSync l (zeros n)
zeros_each zero l each = tt
zeros_each (suc n) l each =
    let half : l / 2 ≡ slid l false = omega arith in
    let deep = λ (k : ℕ). ap (λ (m : ℕ). m / 2 ^ k) (sym half) ∙ div-div-eq-div-mul l 2 (2 ^ k) ∙ ap (λ (m : ℕ). l / m) (sym (pow-succ' 2 k)) in
    (is_sync_other (slid l false) (λ e. each 1 (omega arith) (omega arith) (half ∙ e)), zeros_each n (slid l false) (λ k some few e. each (suc k) (omega arith) (omega arith) (sym (deep k) ∙ e)))

pub calm_zeros : (l : ℕ) → ((k : ℕ) → 1 ≤ k → k ≤ 20 → l / 2 ^ k ≡ 0xfffff → ⊥) → Calm l
calm_zeros l each bs long = zeros_no_sync l bs (omega arith) (rw long (zeros_each 20 l each))

-- .. in the first of some bits, and in the rest
pub no_sync_split : (l : ℕ) (xs bs : List Bool) → NoSync l (xs ++ bs) → NoSync l xs × NoSync (slides l xs) bs
no_sync_split l [] bs h = (tt, h)
no_sync_split l (x ∷ xs) bs h = let r = no_sync_split (slid l x) xs bs h.1 in ((h.0, r.0), r.1)

-- ---- the number after bits

-- a bit that enters at the top is n places lower after n bits more
lower : (a n k : ℕ) (b : Bool) → n + k ≡ 59 → (a + digit b * 0x800000000000000) / 2 ^ n ≡ a / 2 ^ n + digit b * 2 ^ k
lower a n k b e =
    let whole : 2 ^ n * 2 ^ k ≡ 0x800000000000000 = sym (pow-add 2 n k) ∙ ap (λ (j : ℕ). 2 ^ j) e in
    go b whole
  where
    go : (b : Bool) → 2 ^ n * 2 ^ k ≡ 0x800000000000000 → (a + digit b * 0x800000000000000) / 2 ^ n ≡ a / 2 ^ n + digit b * 2 ^ k
    go true w = let f : a + 1 * 0x800000000000000 ≡ a + 2 ^ n * 2 ^ k = omega arith in
        ap (λ (m : ℕ). m / 2 ^ n) f ∙ add-mul-div_left a (2 ^ k) (pow_pos n) ∙ omega arith
    go false w = let f : a + 0 * 0x800000000000000 ≡ a = omega arith in ap (λ (m : ℕ). m / 2 ^ n) f ∙ omega arith

pub slides_value : (bs : List Bool) (l k : ℕ) → length bs + k ≡ 60 → slides l bs ≡ l / 2 ^ length bs + number bs * 2 ^ k
unfolding number
slides_value [] l k e = omega arith
slides_value (b ∷ bs) l k e =
    let n = length bs in
    let deep : l / 2 / 2 ^ n ≡ l / 2 ^ suc n = div-div-eq-div-mul l 2 (2 ^ n) ∙ ap (λ (m : ℕ). l / m) (sym (pow-succ' 2 n)) in
    slides_value bs (slid l b) (suc k) (omega arith)
    ∙ rw (pow-suc 2 k) (omega (arith, lower (l / 2) n k b (omega arith), deep))

-- sixty bits stay sixty
pub slides_low : (bs : List Bool) (l : ℕ) → l < 0x1000000000000000 → slides l bs < 0x1000000000000000
slides_low [] l h = h
slides_low (b ∷ bs) l h = slides_low bs (slid l b) (omega (arith, digit_lt b))

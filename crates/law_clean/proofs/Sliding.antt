-- Laws of the last sixty bits as a number: bits that enter, and bits in which no sync ends.
use mathlib.Core.Path.{◌≡◌, refl, sym, ap, ◌∙◌}
use mathlib.Core.Bool.{Bool, true, false}
use mathlib.Core.List.{List, [], ◌∷◌, ◌++◌}
use Prim.Native.Nat.{ℕ, suc, ◌+◌, ◌*◌, ◌/◌, ◌^◌, ◌≤◌, ◌<◌}
use native.Mathlib.Omega.{arith}
use native.Mathlib.Nat.{pow-suc, pow-succ', div-div-eq-div-mul, add-mul-div_left}
use lib.ListN.{length, length-append}
use lib.Pow.{pow_pos, pow_mono, pow-add}
use Rattle.bits.specs.Bits.{digit, odd, bits, number}
use Rattle.bits.proofs.Bits.{digit_lt, length-bits, number-bits, number_append}
use Rattle.raster.specs.Layout.{sync_of, hd_unit}
use Rattle.align.specs.Search.{slid}
use Rattle.recogniser.specs.Sight.{is_sync, c_word, y_word}
use Rattle.recogniser.proofs.Events.{sync_number, is_sync_other}

-- bit after bit
abbrev pub slides : ℕ → List Bool → ℕ
slides l [] = l
slides l (b ∷ bs) = slides (slid l b) bs

slides_of_append : (l : ℕ) (xs bs : List Bool) → slides l (xs ++ bs) ≡ slides (slides l xs) bs
slides_of_append l [] bs = refl
slides_of_append l (x ∷ xs) bs = slides_of_append (slid l x) xs bs

-- ---- no sync ends in these bits

-- a one and then forty zeros came last: the end of a sync, whatever its first nineteen bits are
abbrev pub Edge : ℕ → Type 0
Edge l = (0x80000 ≤ l) × (l < 0x100000)

pub no_edge_sync : (l : ℕ) → (Edge l → ⊥) → is_sync l ≡ false
no_edge_sync l none = is_sync_other l (λ e. none (omega arith))

abbrev pub NoEdge : ℕ → List Bool → Type 0
NoEdge l [] = Unit {0}
NoEdge l (b ∷ bs) = (Edge (slid l b) → ⊥) × NoEdge (slid l b) bs

-- a high number's last forty bits are not all zeros, for as long as it takes to leave
pub high_no_edge : (l : ℕ) (bs : List Bool) → 2 ^ length bs * 0x100000 ≤ l → NoEdge l bs
high_no_edge l [] h = tt
high_no_edge l (b ∷ bs) h =
    let d = digit_lt b in
    let p = pow_pos (length bs) in
    let half : 2 ^ length bs * 0x100000 ≤ slid l b = omega (arith, pow-suc 2 (length bs)) in
    (λ e. omega arith, high_no_edge (slid l b) bs half)

-- a one is high enough for the 39 bits after it
pub one_no_edge : (l : ℕ) (bs : List Bool) → length bs ≤ 39 → NoEdge l (true ∷ bs)
one_no_edge l bs h =
    let p : 2 ^ length bs ≤ 2 ^ 39 = pow_mono h in
    (λ e. omega arith, high_no_edge (slid l true) bs (omega arith))

-- after a sync, or after zeros, none ends before a one has come
low_no_edge : (l : ℕ) (bs : List Bool) → l ≤ 0xfffff → length bs ≤ 40 → NoEdge l bs
low_no_edge l [] low h = tt
low_no_edge l (true ∷ bs) low h = one_no_edge l bs (omega arith)
low_no_edge l (false ∷ bs) low h = (λ e. omega arith, low_no_edge (slid l false) bs (omega arith) (omega arith))

-- .. in the first of some bits, and in the rest
no_edge_split : (l : ℕ) (xs bs : List Bool) → NoEdge l (xs ++ bs) → NoEdge l xs × NoEdge (slides l xs) bs
no_edge_split l [] bs h = (tt, h)
no_edge_split l (x ∷ xs) bs h = let r = no_edge_split (slid l x) xs bs h.1 in ((h.0, r.0), r.1)

-- ---- the number after bits

-- a bit that enters at the top is n places lower after n bits more
lower : (a n k : ℕ) (b : Bool) → n + k ≡ 59 → (a + digit b * 0x800000000000000) / 2 ^ n ≡ a / 2 ^ n + digit b * 2 ^ k
lower a n k b e =
    let whole : 2 ^ n * 2 ^ k ≡ 0x800000000000000 = sym (pow-add 2 n k) ∙ ap (λ (j : ℕ). 2 ^ j) e in
    go b whole
  where
    go : (b : Bool) → 2 ^ n * 2 ^ k ≡ 0x800000000000000 → (a + digit b * 0x800000000000000) / 2 ^ n ≡ a / 2 ^ n + digit b * 2 ^ k
    go true w = let f : a + 1 * 0x800000000000000 ≡ a + 2 ^ n * 2 ^ k = omega arith in
        ap (λ (m : ℕ). m / 2 ^ n) f ∙ add-mul-div_left a (2 ^ k) (pow_pos n) ∙ omega arith
    go false w = let f : a + 0 * 0x800000000000000 ≡ a = omega arith in ap (λ (m : ℕ). m / 2 ^ n) f ∙ omega arith

pub slides_value : (bs : List Bool) (l k : ℕ) → length bs + k ≡ 60 → slides l bs ≡ l / 2 ^ length bs + number bs * 2 ^ k
unfolding number
slides_value [] l k e = omega arith
slides_value (b ∷ bs) l k e =
    let n = length bs in
    let deep : l / 2 / 2 ^ n ≡ l / 2 ^ suc n = div-div-eq-div-mul l 2 (2 ^ n) ∙ ap (λ (m : ℕ). l / m) (sym (pow-succ' 2 n)) in
    slides_value bs (slid l b) (suc k) (omega arith)
    ∙ rw (pow-suc 2 k) (omega (arith, lower (l / 2) n k b (omega arith), deep))

pub slides_small : (bs : List Bool) (l : ℕ) → l < 0x1000000000000000 → slides l bs < 0x1000000000000000
slides_small [] l small = small
slides_small (b ∷ bs) l small = let d = digit_lt b in slides_small bs (slid l b) (omega arith)

-- after a sync, whatever was before it
pub sync_after : (l : ℕ) → l < 0x1000000000000000 → slides l (sync_of hd_unit) ≡ 0xfffff
sync_after l small = slides_value (sync_of hd_unit) l 0 refl ∙ rw sync_number (omega arith)

-- ---- after a pair

-- "C word first, then Y, each lowest bit first"
abbrev pub pair_bits : ℕ → ℕ → List Bool
pair_bits c y = bits 10 c ++ bits 10 y

pub length_pair_bits : (c y : ℕ) → length (pair_bits c y) ≡ 20
length_pair_bits c y = simp (length-append, length-bits)

-- no sync ends in the pair after a sync
pub no_edge_after : (c y : ℕ) → NoEdge 0xfffff (pair_bits c y)
no_edge_after c y = low_no_edge 0xfffff (pair_bits c y) (omega arith) (omega (arith, length_pair_bits c y))

-- its first nineteen bits, and its last
abbrev pub first_bits : ℕ → ℕ → List Bool
first_bits c y = bits 10 c ++ bits 9 y

pub length_first_bits : (c y : ℕ) → length (first_bits c y) ≡ 19
length_first_bits c y = simp (length-append, length-bits)

abbrev pub top_bit : ℕ → Bool
top_bit y = odd (y / 2 / 2 / 2 / 2 / 2 / 2 / 2 / 2 / 2)

pub pair_bits_split : (c y : ℕ) → pair_bits c y ≡ first_bits c y ++ (top_bit y ∷ [])
unfolding bits
pair_bits_split c y = refl

abbrev pub pair_last : ℕ → ℕ → ℕ → ℕ
pair_last l c y = l / 0x100000 + (c + y * 1024) * 0x10000000000

pub slides_pair : (l c y : ℕ) → c < 1024 → y < 1024 → slides l (pair_bits c y) ≡ pair_last l c y
slides_pair l c y hc hy =
    let long = length_pair_bits c y in
    let word : number (pair_bits c y) ≡ c + y * 1024 = simp (number_append, number-bits, length-bits) (omega arith) in
    slides_value (pair_bits c y) l 40 (omega arith) ∙ rw (long, word)

-- .. bit by bit
pub slid_top : (l c y : ℕ) → c < 1024 → y < 1024 → slid (slides l (first_bits c y)) (top_bit y) ≡ pair_last l c y
slid_top l c y hc hy = sym (slides_of_append l (first_bits c y) (top_bit y ∷ [])) ∙ ap (slides l) (sym (pair_bits_split c y)) ∙ slides_pair l c y hc hy

pub no_edge_pair : (l c y : ℕ) → c < 1024 → y < 1024 → NoEdge l (pair_bits c y) → NoEdge l (first_bits c y) × (is_sync (pair_last l c y) ≡ false)
no_edge_pair l c y hc hy h =
    let r = no_edge_split l (first_bits c y) (top_bit y ∷ []) (rw pair_bits_split at h) in
    (r.0, rw (slid_top l c y hc hy) at (no_edge_sync _ r.1.0))

-- what is seen of it; where its C word is not 000, it is high
pub record Seen (l c y : ℕ) : Type 0 where
  pub small : l < 0x1000000000000000
  pub c_word_is : c_word l ≡ c
  pub y_word_is : y_word l ≡ y
  pub led : (c ≡ 0 → ⊥) → 0x10000000000 ≤ l

pub pair_seen : (l c y : ℕ) → l < 0x1000000000000000 → c < 1024 → y < 1024 → Seen (pair_last l c y) c y
pair_seen l c y h hc hy =
    record { small = omega arith; c_word_is = omega arith; y_word_is = omega arith; led = λ some. omega arith }

-- Laws of laid.
use mathlib.Core.Path.{◌≡◌, refl, sym, ap, ◌∙◌}
use mathlib.Core.List.{List, [], ◌∷◌, ◌++◌, append-nil}
use Prim.Native.Nat.{ℕ, zero, suc, ◌+◌, ◌-◌, ◌≤◌}
use native.Mathlib.Omega.{arith}
use native.Mathlib.Nat.{zero-add}
use native.Mathlib.Decide.{dec_le}
use lib.ListN.{length, take, drop, set, replicate, length-take, length-drop, length-set, length-replicate, drop_of_length-le}
use lib.Seq.{set_out, take-set-le, drop-set-lt, drop-set-add, take_at, take_all, take-nil, drop-nil, take-length, drop-drop}
use Rattle.std.proofs.lemmas.List.{take-replicate}
use Rattle.parts.specs.Parts.{part, laid, unless_refused}

-- ---- where nothing is to be laid, and where no place is left

pub laid_start : (at : ℕ) (ws buffer : List ℕ) → laid (at + 0) ws buffer ≡ laid at ws buffer
laid_start at ws buffer = let e : at + 0 ≡ at = omega arith in rw e

pub laid-past : (at : ℕ) (ws buffer : List ℕ) → length buffer ≤ at → laid at ws buffer ≡ buffer
unfolding laid
laid-past at [] buffer h = refl
laid-past at (w ∷ ws) buffer h = rw (set_out buffer at w h) (laid-past (suc at) ws buffer (omega arith))

-- ---- the whole

pub length-laid : (at : ℕ) (ws buffer : List ℕ) → length (laid at ws buffer) ≡ length buffer
unfolding laid
length-laid at [] buffer = refl
length-laid at (w ∷ ws) buffer = length-laid (suc at) ws (set buffer at w) ∙ simp length-set

pub laid_of_append : (at : ℕ) (vs ws buffer : List ℕ) → laid at (vs ++ ws) buffer ≡ laid (at + length vs) ws (laid at vs buffer)
unfolding laid
laid_of_append at [] ws buffer = sym (laid_start at ws buffer)
laid_of_append at (v ∷ vs) ws buffer =
    let e : suc at + length vs ≡ at + suc (length vs) = omega arith in
    laid_of_append (suc at) vs ws (set buffer at v) ∙ ap (λ (n : ℕ). laid n ws (laid (suc at) vs (set buffer at v))) e

pub laid_cons : (at b : ℕ) (ws buffer : List ℕ) → laid (suc at) ws (b ∷ buffer) ≡ b ∷ laid at ws buffer
unfolding laid
laid_cons at b [] buffer = refl
laid_cons at b (w ∷ ws) buffer = laid_cons (suc at) b ws (set buffer at w)

-- as many words as find a place stand in their part
pub laid_over : (at : ℕ) (ws buffer : List ℕ)
    → laid at ws buffer ≡ take at buffer ++ (take (length (part at (length ws) buffer)) ws ++ drop (length ws) (drop at buffer))
unfolding laid
laid_over zero [] buffer = refl
laid_over zero (w ∷ ws) [] = laid-past 1 ws [] (omega arith)
laid_over zero (w ∷ ws) (b ∷ buffer) = laid_cons 0 w ws buffer ∙ ap (λ (l : List ℕ). w ∷ l) (laid_over zero ws buffer)
laid_over (suc at) ws [] = laid-past (suc at) ws [] (omega arith) ∙ sym (rw (take-nil, drop-nil))
laid_over (suc at) ws (b ∷ buffer) = laid_cons at b ws buffer ∙ ap (λ (l : List ℕ). b ∷ l) (laid_over at ws buffer)

pub laid_repeat : (at n w : ℕ) (buffer : List ℕ)
    → laid at (replicate n w) buffer ≡ take at buffer ++ (replicate (length (part at n buffer)) w ++ drop n (drop at buffer))
laid_repeat at n w buffer =
    let few : length (part at n buffer) ≤ n = omega (arith, length-take n (drop at buffer)) in
    laid_over at (replicate n w) buffer ∙ rw (length-replicate n w, take-replicate (length (part at n buffer)) n w few)

pub laid_split : (at : ℕ) (ws buffer : List ℕ) → at + length ws ≤ length buffer
    → laid at ws buffer ≡ take at buffer ++ (ws ++ drop (at + length ws) buffer)
laid_split at ws buffer h =
    let long : length (part at (length ws) buffer) ≡ length ws = simp (length-take, length-drop) (omega arith) in
    laid_over at ws buffer ∙ rw (long, take-length, drop-drop)

-- ---- before, after and at the words laid

pub take_of_laid : (n at : ℕ) (ws buffer : List ℕ) → n ≤ at → take n (laid at ws buffer) ≡ take n buffer
unfolding laid
take_of_laid n at [] buffer h = refl
take_of_laid n at (w ∷ ws) buffer h = take_of_laid n (suc at) ws (set buffer at w) (omega arith) ∙ take-set-le n buffer at w h

pub drop_of_laid : (n at : ℕ) (ws buffer : List ℕ) → at + length ws ≤ n → drop n (laid at ws buffer) ≡ drop n buffer
unfolding laid
drop_of_laid n at [] buffer h = refl
drop_of_laid n at (w ∷ ws) buffer h = drop_of_laid n (suc at) ws (set buffer at w) (omega arith) ∙ drop-set-lt n buffer at w (omega arith)

pub drop_to_laid : (n at : ℕ) (ws buffer : List ℕ) → drop n (laid (n + at) ws buffer) ≡ laid at ws (drop n buffer)
unfolding laid
drop_to_laid n at [] buffer = refl
drop_to_laid n at (w ∷ ws) buffer =
    let e : suc (n + at) ≡ n + suc at = omega arith in
    ap (λ (k : ℕ). drop n (laid k ws (set buffer (n + at) w))) e
    ∙ drop_to_laid n (suc at) ws (set buffer (n + at) w)
    ∙ ap (laid (suc at) ws) (drop-set-add n buffer at w)

pub part_before_laid : (from count at : ℕ) (ws buffer : List ℕ) → from + count ≤ at → part from count (laid at ws buffer) ≡ part from count buffer
part_before_laid from count at ws buffer h =
    let e : at ≡ from + (at - from) = omega arith in
    ap (λ (k : ℕ). part from count (laid k ws buffer)) e
    ∙ ap (take count) (drop_to_laid from (at - from) ws buffer)
    ∙ take_of_laid count (at - from) ws (drop from buffer) (omega arith)

pub part-after-laid : (from count at : ℕ) (ws buffer : List ℕ) → at + length ws ≤ from → part from count (laid at ws buffer) ≡ part from count buffer
part-after-laid from count at ws buffer h = ap (take count) (drop_of_laid from at ws buffer h)

-- words laid over a part as long as they are: over as many as asked, or over as many as there are
drop_of_taken : (count : ℕ) (ws : List ℕ) → drop (length (take count ws)) ws ≡ drop count ws
drop_of_taken zero ws = refl
drop_of_taken (suc count) [] = refl
drop_of_taken (suc count) (w ∷ ws) = drop_of_taken count ws

pub laid_front : (count : ℕ) (ws buffer : List ℕ) → length ws ≡ length (take count buffer) → laid 0 ws buffer ≡ ws ++ drop count buffer
laid_front count ws buffer k =
    laid_split 0 ws buffer (omega (arith, length-take count buffer))
    ∙ ap (λ (n : ℕ). ws ++ drop n buffer) (zero-add (length ws) ∙ k)
    ∙ ap (λ (l : List ℕ). ws ++ l) (drop_of_taken count buffer)

take_front : (count : ℕ) (ws buffer : List ℕ) → length ws ≡ length (take count buffer) → take count (ws ++ drop count buffer) ≡ ws
take_front count ws buffer k = go (dec_le count (length buffer))
  where
    go : Dec (count ≤ length buffer) → take count (ws ++ drop count buffer) ≡ ws
    go (yes h) = take_at ws (drop count buffer) count (omega (arith, length-take count buffer))
    go (no h) = let past : length buffer ≤ count = omega arith in rw (drop_of_length-le buffer past, append-nil) (take_all count ws (omega (arith, length-take count buffer)))

pub part_over_laid : (at count : ℕ) (ws buffer : List ℕ) → length ws ≡ length (part at count buffer) → part at count (laid at ws buffer) ≡ ws
part_over_laid at count ws buffer k =
    ap (part at count) (sym (laid_start at ws buffer))
    ∙ ap (take count) (drop_to_laid at 0 ws buffer ∙ laid_front count ws (drop at buffer) k)
    ∙ take_front count ws (drop at buffer) k

-- ---- unless_refused

pub unless_refused-refused : (n : ℕ) (after before : List ℕ) → (n ≡ 0 → ⊥) → unless_refused n after before ≡ before
unless_refused-refused zero after before bad = absurd (bad refl)
unless_refused-refused (suc n) after before bad = refl

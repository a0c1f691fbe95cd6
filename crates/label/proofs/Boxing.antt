-- Laws of boxed: what is written to a boxed text comes after it, and a text that fits is in its box.
use mathlib.Core.Path.{◌≡◌, sym, ap, ap₂, ◌∙◌}
use mathlib.Core.List.{List, [], ◌∷◌, ◌++◌, append_assoc, append-nil}
use Prim.Native.Nat.{ℕ, suc, ◌+◌, ◌-◌, ◌≤◌, ◌<◌, min}
use native.Mathlib.Omega.{arith}
use native.Mathlib.Nat.{min-eq_left, le_of_lt}
use lib.ListN.{length, take, get_or, set, replicate, length-append, length-replicate, replicate-append-replicate}
use lib.Seq.{take-append-le, take-append_seam, take-take, take-set-lt, set-append_seam, append_snoc}
use Rattle.std.proofs.lemmas.List.{take_more}
use Rattle.label.specs.declared.Label.{Label}
use Rattle.label.specs.Label.{boxed, room}
use Rattle.label.specs.Writing.{Writes}

abbrev pub line : List ℕ → ℕ → Label
line bytes size = record { bytes = bytes; size = size }

-- a byte after the text takes a zero's place; a zero more past the end is not seen
set_after : (n m b : ℕ) (t : List ℕ) → length t < n → n ≤ length t + suc m
    → set (take n (t ++ replicate (suc m) 0)) (length t) b ≡ take n ((t ++ (b ∷ [])) ++ replicate (m + 1) 0)
set_after n m b t h k =
    sym (take-set-lt n (t ++ replicate (suc m) 0) (length t) b h)
    ∙ ap (take n) (set-append_seam t 0 (replicate m 0) b ∙ sym (append_snoc t b (replicate m 0)))
    ∙ sym (take-append-le n (t ++ (b ∷ []) ++ replicate m 0) (0 ∷ []) within)
    ∙ ap (take n) (append_assoc (t ++ (b ∷ [])) (replicate m 0) (0 ∷ []) ∙ ap (λ (z : List ℕ). t ++ (b ∷ []) ++ z) (replicate-append-replicate m 1 0))
  where
    within : n ≤ length (t ++ (b ∷ []) ++ replicate m 0)
    within = simp (length-append, length-replicate) (omega arith)

-- a byte where there is room for it, and in a full line
pub byte_written : (l : Label) (b : ℕ) → l.size < room → Writes l (b ∷ []) (record { bytes = set l.bytes l.size b; size = l.size + 1 })
unfolding boxed
byte_written l b h t e =
    let size : l.size ≡ min (length t) room = ap (λ (x : Label). x.size) e in
    let fits : length t < room = omega arith in
    let one_more : length t + 1 ≡ min (length (t ++ (b ∷ []))) room = omega (arith, length-append t (b ∷ [])) in
    rw (e, min-eq_left (le_of_lt fits)) (ap₂ line (set_after room (room - 1) b t fits (omega arith)) one_more)

pub byte_left : (l : Label) (b : ℕ) → room ≤ l.size → Writes l (b ∷ []) l
unfolding boxed
byte_left l b h t e =
    let size : l.size ≡ min (length t) room = ap (λ (x : Label). x.size) e in
    let full : room ≤ length t = omega arith in
    let still : min (length t) room ≡ min (length (t ++ (b ∷ []))) room = omega (arith, length-append t (b ∷ [])) in
    let zeros : List ℕ = replicate room 0 in
    let front = take-append-le room t zeros full in
    let same = ap (take room) (append_assoc t (b ∷ []) zeros) ∙ take-append-le room t (b ∷ zeros) full in
    e ∙ ap₂ line (front ∙ sym same) still

-- nothing, and a text byte after byte
pub nothing_written : (l : Label) → Writes l [] l
nothing_written l t e = e ∙ ap boxed (sym (append-nil t))

pub one_more_written : (l m n : Label) (text : List ℕ) (i : ℕ) → i < length text → Writes l (take i text) m → Writes m (get_or text i 0 ∷ []) n → Writes l (take (i + 1) text) n
one_more_written l m n text i h f g t e =
    g (t ++ take i text) (f t e) ∙ ap boxed (append_assoc t (take i text) (get_or text i 0 ∷ []) ∙ ap (λ (z : List ℕ). t ++ z) (sym (take_more text i 0 h)))

-- what is in a box
pub size_of_boxed : {l : Label} (t : List ℕ) → l ≡ boxed t → l.size ≤ room
unfolding boxed
size_of_boxed t e = rw e (omega arith)

pub text_of_boxed : (t : List ℕ) → length t ≤ room → take (boxed t).size (boxed t).bytes ≡ t
unfolding boxed
text_of_boxed t h =
    ap (λ (n : ℕ). take n (take room (t ++ replicate room 0))) (min-eq_left h)
    ∙ take-take (length t) room (t ++ replicate room 0) h
    ∙ take-append_seam t (replicate room 0)

-- A word that is taken out of a stretch and xor-ed into those 152, 176 and 304 places on leaves the register as it was.
use mathlib.Core.Path.{◌≡◌, refl, sym, ap, ap₂, ◌∙◌}
use mathlib.Core.List.{List, [], ◌∷◌, ◌++◌, append-nil}
use Prim.Native.Nat.{ℕ, zero, suc, ◌+◌, ◌-◌, ◌^◌, ◌≤◌, ◌<◌}
use native.Mathlib.Omega.{arith}
use native.Mathlib.Decide.{dec_lt}
use lib.ListN.{length, get_or, take, drop, set, replicate, length-append, length-drop, length-replicate, drop_of_length-le}
use lib.Seq.{drop-cons, take-suc, drop-append-le, get_or-drop, get_or-take, get_or-set_same, get_or-set_other, length-take-le}
use lib.Bits.{bit_xor, xor_zero_r, xor_comm}
use Rattle.std.specs.List.{copy_within}
use Rattle.std.proofs.lemmas.List.{get_or_append_left, take_at, drop_at}
use Rattle.bits.specs.Bits.{odd, bits}
use Rattle.bits.proofs.Xor.{xor_assoc}
use Rattle.bits.proofs.Lists.{cons_equal}
use Rattle.crc.specs.Crc.{crc_bit, crc_bits, crc_word, crc_words}
use Rattle.crc.proofs.Range.{crc_word_range}
use Rattle.parts.specs.Parts.{laid}
use Rattle.parts.proofs.Laid.{laid_split}
use Rattle.folding.specs.Folding.{adds, loaded, next, Folded}
use Rattle.folding.proofs.Later.{crc_word_linear, later, crc_words-differ, later_additive, later_add, cancel}

-- ---- words xor-ed in, place by place, as far as they go

pub length_adds : (ws vs : List ℕ) → length (adds ws vs) ≡ length ws
unfolding adds
length_adds ws [] = refl
length_adds [] (v ∷ vs) = refl
length_adds (w ∷ ws) (v ∷ vs) = ap suc (length_adds ws vs)

adds_swap : (ws us vs : List ℕ) → adds (adds ws us) vs ≡ adds (adds ws vs) us
unfolding adds
adds_swap ws [] vs = refl
adds_swap ws (u ∷ us) [] = refl
adds_swap [] (u ∷ us) (v ∷ vs) = refl
adds_swap (w ∷ ws) (u ∷ us) (v ∷ vs) =
    cons_equal (xor_assoc w u v ∙ ap (bit_xor w) (xor_comm u v) ∙ sym (xor_assoc w v u)) (adds_swap ws us vs)

pub adds_zeros : (n : ℕ) (ws : List ℕ) → adds ws (replicate n 0) ≡ ws
unfolding adds
adds_zeros zero ws = refl
adds_zeros (suc n) [] = refl
adds_zeros (suc n) (w ∷ ws) = cons_equal (xor_zero_r w) (adds_zeros n ws)

-- a turn of the loop that xors them in
pub adds_step : (tail ws : List ℕ) (i : ℕ) → i < length tail → i < length ws
    → set (adds tail (take i ws)) i (bit_xor (get_or (adds tail (take i ws)) i 0) (get_or ws i 0)) ≡ adds tail (take (suc i) ws)
unfolding adds
adds_step [] ws i h l = absurd (omega arith)
adds_step (t ∷ tail) [] i h l = absurd (omega arith)
adds_step (t ∷ tail) (w ∷ ws) zero h l = refl
adds_step (t ∷ tail) (w ∷ ws) (suc i) h l = ap (λ v. bit_xor t w ∷ v) (adds_step tail ws i (omega arith) (omega arith))

-- ---- one word more

crc_words_add : (r x k : ℕ) (ws vs : List ℕ) → length ws ≡ length vs + suc k
    → crc_words r (adds ws (vs ++ (x ∷ []))) ≡ bit_xor (crc_words r (adds ws vs)) (later k (crc_word 0 x))
unfolding adds crc_words
crc_words_add r x k [] vs e = absurd (omega arith)
crc_words_add r x k (w ∷ ws) [] e =
    let left : length ws ≡ k = omega arith in
    ap (λ (n : ℕ). crc_words n ws) (ap (λ (n : ℕ). crc_word n (bit_xor w x)) (sym (xor_zero_r r)) ∙ crc_word_linear r 0 w x)
    ∙ crc_words-differ (crc_word r w) (crc_word 0 x) ws ∙ ap (λ (n : ℕ). bit_xor (crc_words (crc_word r w) ws) (later n (crc_word 0 x))) left
crc_words_add r x k (w ∷ ws) (v ∷ vs) e = crc_words_add (crc_word r (bit_xor w v)) x k ws vs (omega arith)

-- ---- the same where three lists are xor-ed in, at the end of the last, of the second and of the first

abbrev three : List ℕ → List ℕ → List ℕ → List ℕ → List ℕ
three ws a b c = adds (adds (adds ws a) b) c

end_of_last : (x k : ℕ) (ws a b c : List ℕ) → length ws ≡ length c + suc k
    → crc_words 0 (three ws a b (c ++ (x ∷ []))) ≡ bit_xor (crc_words 0 (three ws a b c)) (later k (crc_word 0 x))
end_of_last x k ws a b c e = crc_words_add 0 x k (adds (adds ws a) b) c (length_adds (adds ws a) b ∙ length_adds ws a ∙ e)

end_of_second : (x k : ℕ) (ws a b c : List ℕ) → length ws ≡ length b + suc k
    → crc_words 0 (three ws a (b ++ (x ∷ [])) c) ≡ bit_xor (crc_words 0 (three ws a b c)) (later k (crc_word 0 x))
end_of_second x k ws a b c e =
    ap (crc_words 0) (adds_swap (adds ws a) (b ++ (x ∷ [])) c) ∙ end_of_last x k ws a c b e
    ∙ ap (λ (l : List ℕ). bit_xor (crc_words 0 l) (later k (crc_word 0 x))) (adds_swap (adds ws a) c b)

end_of_first : (x k : ℕ) (ws a b c : List ℕ) → length ws ≡ length a + suc k
    → crc_words 0 (three ws (a ++ (x ∷ [])) b c) ≡ bit_xor (crc_words 0 (three ws a b c)) (later k (crc_word 0 x))
end_of_first x k ws a b c e =
    ap (λ (l : List ℕ). crc_words 0 (adds l c)) (adds_swap ws (a ++ (x ∷ [])) b) ∙ end_of_second x k ws b a c e
    ∙ ap (λ (l : List ℕ). bit_xor (crc_words 0 (adds l c)) (later k (crc_word 0 x))) (adds_swap ws b a)

-- ---- words with those that were taken out before them, the last 304, xor-ed in

pub length_loaded : (p ws : List ℕ) → length (loaded p ws) ≡ length ws
unfolding loaded
length_loaded p ws = simp length_adds

-- the first of them, by which the next word that is taken out is known
loaded_cons : (o w : ℕ) (p ws : List ℕ) → length p ≡ 303
    → loaded (o ∷ p) (w ∷ ws) ≡ bit_xor (bit_xor (bit_xor w o) (get_or p 127 0)) (get_or p 151 0) ∷ loaded p ws
unfolding loaded adds
loaded_cons o w p ws e = ap₂ (λ (b c : List ℕ). three (w ∷ ws) (o ∷ p) b c) (drop-cons p 127 0 (omega arith)) (drop-cons p 151 0 (omega arith))

-- one that joins them
loaded_snoc : (x k : ℕ) (p ws : List ℕ) → length p ≡ 303 → length ws ≡ 304 + k
    → crc_words 0 (loaded (p ++ (x ∷ [])) ws)
    ≡ bit_xor (bit_xor (bit_xor (crc_words 0 (loaded p ws)) (later k (crc_word 0 x))) (later (128 + k) (crc_word 0 x))) (later (152 + k) (crc_word 0 x))
unfolding loaded
loaded_snoc x k p ws e l =
    let px = p ++ (x ∷ []) in
    let f = crc_word 0 x in
    let b = drop 128 p in
    let c = drop 152 p in
    let lb : length ws ≡ length b + suc (128 + k) = omega (arith, length-drop 128 p) in
    let lc : length ws ≡ length c + suc (152 + k) = omega (arith, length-drop 152 p) in
    ap₂ (λ (b c : List ℕ). crc_words 0 (three ws px b c)) (drop-append-le 128 p (x ∷ []) (omega arith)) (drop-append-le 152 p (x ∷ []) (omega arith))
    ∙ end_of_last x (152 + k) ws px (b ++ (x ∷ [])) c lc
    ∙ ap (λ (n : ℕ). bit_xor n (later (152 + k) f))
    (end_of_second x (128 + k) ws px b c lb ∙ ap (λ (n : ℕ). bit_xor n (later (128 + k) f)) (end_of_first x k ws p b c (omega arith)))

-- a register so many words on, and that of its three places
spread : (k f : ℕ) → f < 2 ^ 18 → later (304 + k) f ≡ bit_xor (bit_xor (later k f) (later (128 + k) f)) (later (152 + k) f)
spread k f h =
    later_add 304 k f ∙ ap (later k) (cancel f h) ∙ later_additive k (bit_xor f (later 128 f)) (later 152 f)
    ∙ ap₂ bit_xor (later_additive k f (later 128 f) ∙ ap (bit_xor (later k f)) (sym (later_add 128 k f))) (sym (later_add 152 k f))

-- so the first is taken out and joins them
pub loaded_step : (o w k : ℕ) (p ws : List ℕ) → length p ≡ 303 → length ws ≡ 304 + k
    → crc_words 0 (loaded (o ∷ p) (w ∷ ws)) ≡ crc_words 0 (loaded (p ++ (bit_xor (bit_xor (bit_xor w o) (get_or p 127 0)) (get_or p 151 0) ∷ [])) ws)
unfolding crc_words
loaded_step o w k p ws e l =
    let x = bit_xor (bit_xor (bit_xor w o) (get_or p 127 0)) (get_or p 151 0) in
    let f = crc_word 0 x in
    let rest = crc_words 0 (loaded p ws) in
    let n : length (loaded p ws) ≡ 304 + k = length_loaded p ws ∙ l in
    ap (crc_words 0) (loaded_cons o w p ws e) ∙ crc_words-differ 0 f (loaded p ws)
    ∙ ap (bit_xor rest) (ap (λ (n : ℕ). later n f) n ∙ spread k f (crc_word_range 0 x (omega arith)))
    ∙ sym (loaded_snoc x k p ws e l ∙ xor_assoc (bit_xor rest (later k f)) (later (128 + k) f) (later (152 + k) f)
    ∙ xor_assoc rest (later k f) (bit_xor (later (128 + k) f) (later (152 + k) f))
    ∙ ap (bit_xor rest) (sym (xor_assoc (later k f) (later (128 + k) f) (later (152 + k) f))))

-- ---- a list in which each word after the first 304 is the next that is taken out

-- a store
pub folded_step : (words s : List ℕ) (i : ℕ) → i + 304 < length s → Folded words s i → Folded words (set s (i + 304) (next words s i)) (i + 1)
folded_step words s i h folded j l = go (dec_lt j i)
  where
    x : ℕ
    x = next words s i

    other : (k : ℕ) → k < i + 304 → get_or (set s (i + 304) x) k 0 ≡ get_or s k 0
    other k m = get_or-set_other s (i + 304) k x 0 (λ e. omega arith)

    kept : next words (set s (i + 304) x) j ≡ next words s j
    kept = rw (other j (omega arith), other (j + 128) (omega arith), other (j + 152) (omega arith))

    go : Dec (j < i) → get_or (set s (i + 304) x) (j + 304) 0 ≡ next words (set s (i + 304) x) j
    go (yes m) = other (j + 304) (omega arith) ∙ folded j m ∙ sym kept
    go (no m) = let e : j ≡ i = omega arith in ap (λ (k : ℕ). get_or (set s (i + 304) x) (k + 304) 0) e ∙ get_or-set_same s (i + 304) x 0 h ∙ ap (next words s) (sym e) ∙ sym kept

-- after n of them the last 304 stand from place n on
turn : (words s : List ℕ) (i : ℕ) → i + 304 < length s → i + 305 ≤ length words → get_or s (i + 304) 0 ≡ next words s i
    → crc_words 0 (loaded (take 304 (drop i s)) (drop i words)) ≡ crc_words 0 (loaded (take 304 (drop (suc i) s)) (drop (suc i) words))
turn words s i h l e =
    let w = get_or words i 0 in
    let o = get_or s i 0 in
    let t = drop (suc i) s in
    let p = take 303 t in
    let ws = drop (suc i) words in
    let lt : 304 ≤ length t = omega (arith, length-drop (suc i) s) in
    let lp : length p ≡ 303 = length-take-le 303 t (omega arith) in
    let lw : length ws ≡ 304 + (length ws - 304) = omega (arith, length-drop (suc i) words) in
    let at304 : suc i + 303 ≡ i + 304 = omega arith in
    let at128 : suc i + 127 ≡ i + 128 = omega arith in
    let at152 : suc i + 151 ≡ i + 152 = omega arith in
    let first : get_or p 127 0 ≡ get_or s (i + 128) 0 = get_or-take 303 t 127 0 (omega arith) ∙ get_or-drop (suc i) s 127 0 ∙ ap (λ (k : ℕ). get_or s k 0) at128 in
    let second : get_or p 151 0 ≡ get_or s (i + 152) 0 = get_or-take 303 t 151 0 (omega arith) ∙ get_or-drop (suc i) s 151 0 ∙ ap (λ (k : ℕ). get_or s k 0) at152 in
    let last : get_or t 303 0 ≡ bit_xor (bit_xor (bit_xor w o) (get_or p 127 0)) (get_or p 151 0) =
    get_or-drop (suc i) s 303 0 ∙ ap (λ (k : ℕ). get_or s k 0) at304 ∙ e ∙ sym (ap₂ (λ (m n : ℕ). bit_xor (bit_xor (bit_xor w o) m) n) first second) in
    ap₂ (λ (l v : List ℕ). crc_words 0 (loaded (take 304 l) v)) (drop-cons s i 0 (omega arith)) (drop-cons words i 0 (omega arith))
    ∙ loaded_step o w (length ws - 304) p ws lp lw
    ∙ ap (λ (l : List ℕ). crc_words 0 (loaded l ws)) (ap (λ (n : ℕ). p ++ (n ∷ [])) (sym last) ∙ sym (take-suc t 303 0 (omega arith)))

pub folded_crc : (words s : List ℕ) (n : ℕ) → n + 304 ≤ length s → n + 304 ≤ length words → Folded words s n
    → crc_words 0 (loaded (take 304 s) words) ≡ crc_words 0 (loaded (take 304 (drop n s)) (drop n words))
folded_crc words s zero h l folded = refl
folded_crc words s (suc n) h l folded =
    folded_crc words s n (omega arith) (omega arith) (λ j m. folded j (omega arith)) ∙ turn words s n (omega arith) (omega arith) (folded n (omega arith))

-- the same of a block and the words after it, of which s has seen the block alone
pub block_crc : (block ws s : List ℕ) → length block + 304 ≤ length s → 304 ≤ length ws → Folded block s (length block)
    → crc_words 0 (loaded (take 304 s) (block ++ ws)) ≡ crc_words 0 (loaded (take 304 (drop (length block) s)) ws)
block_crc block ws s h l folded =
    folded_crc (block ++ ws) s (length block) h (omega (arith, length-append block ws)) (λ j m. folded j m ∙ rw get_or_append_left)
    ∙ ap (λ v. crc_words 0 (loaded (take 304 (drop (length block) s)) v)) (drop_at block ws (length block) refl)

-- the last 304, moved down
pub moved_down : (s : List ℕ) (n : ℕ) → n + 304 ≤ length s → take 304 (copy_within s n (n + 304) 0) ≡ take 304 (drop n s)
moved_down s n h =
    let e : n + 304 - n ≡ 304 = omega arith in
    rw e (take_at (take 304 (drop n s)) (drop 304 s) 304 (length-take-le 304 (drop n s) (omega (arith, length-drop n s))))

-- ---- where nothing was taken out yet, and the tail

pub loaded_zeros : (ws : List ℕ) → loaded (replicate 304 0) ws ≡ ws
unfolding loaded
loaded_zeros ws = adds_zeros 152 (adds (adds ws (replicate 304 0)) (replicate 176 0)) ∙ adds_zeros 176 (adds ws (replicate 304 0)) ∙ adds_zeros 304 ws

-- ---- words in front of which zeros stand

after_zeros : (k m : ℕ) (ws : List ℕ) → crc_words 0 (take k (replicate m 0) ++ ws) ≡ crc_words 0 ws
unfolding crc_words crc_word crc_bits crc_bit bits odd
after_zeros zero m ws = refl
after_zeros (suc k) zero ws = refl
after_zeros (suc k) (suc m) ws = after_zeros k m ws

pub laid_last : (n : ℕ) (ws : List ℕ) → length ws ≤ n → crc_words 0 (laid (n - length ws) ws (replicate n 0)) ≡ crc_words 0 ws
laid_last n ws h =
    let at = n - length ws in
    let z : ℕ = 0 in
    let zeros = replicate n z in
    let past : length zeros ≤ at + length ws = omega (arith, length-replicate n z) in
    ap (crc_words 0)
    (laid_split at ws zeros (omega (arith, length-replicate n z))
    ∙ ap (λ (l : List ℕ). take at zeros ++ (ws ++ l)) (drop_of_length-le zeros past)
    ∙ ap (λ (l : List ℕ). take at zeros ++ l) (append-nil ws))
    ∙ after_zeros at n ws

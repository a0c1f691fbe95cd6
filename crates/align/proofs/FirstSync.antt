-- Laws of the first place of a pattern and of the sync.
use mathlib.Core.Path.{◌≡◌, refl, sym, ap, subst, ◌∙◌}
use mathlib.Core.Bool.{Bool, true, false}
use mathlib.Core.List.{List, [], ◌∷◌, ◌++◌}
use Rattle.std.specs.Prelude.{Option, None, Some, option_map, Ok}
use Prim.Native.Nat.{ℕ, zero, suc, ◌+◌, ◌-◌, ◌*◌, ◌/◌, ◌%◌, ◌≤◌, ◌<◌}
use native.Mathlib.Omega.{arith}
use native.Mathlib.Decide.{dec_lt}
use lib.ListN.{length, take, drop, get_or, replicate, length-append, length-drop, length-replicate, get_or-append, get_or-replicate}
use lib.Seq.{drop-append-le, get_or-append-add, get_or-drop}
use Rattle.bits.specs.Choice.{if}
use Rattle.bits.specs.Bits.{◌⊕◌, bits, word_bits, odd}
use Rattle.bits.specs.Words.{words10}
use Rattle.bits.proofs.Choice.{false_not_true}
use Rattle.raster.specs.Layout.{sync_of}
use Rattle.align.specs.Sync.{starts_with, first_place, first_sync, sync_refusal, sync_place, sync_at, found_sync}

pub no_place : {A : Type 0} {n : ℕ} → None ≡ Some n → A
no_place h = absurd cc

-- ---- starts_with

-- bits that start with a pattern are long enough, and the pattern is what stands there
pub starts_takes : (ps bs : List Bool) → starts_with ps bs ≡ true → (take (length ps) bs ≡ ps) × (length ps ≤ length bs)
unfolding starts_with
starts_takes [] bs h = (refl, omega arith)
starts_takes (p ∷ ps) [] h = absurd (false_not_true h)
starts_takes (true ∷ ps) (true ∷ bs) h = let r = starts_takes ps bs h in (ap (λ (l : List Bool). true ∷ l) r.0, omega arith)
starts_takes (true ∷ ps) (false ∷ bs) h = absurd (false_not_true h)
starts_takes (false ∷ ps) (true ∷ bs) h = absurd (false_not_true h)
starts_takes (false ∷ ps) (false ∷ bs) h = let r = starts_takes ps bs h in (ap (λ (l : List Bool). false ∷ l) r.0, omega arith)

-- a pattern starts with itself, whatever follows
pub starts_of_append : (ps bs : List Bool) → starts_with ps (ps ++ bs) ≡ true
unfolding starts_with
starts_of_append [] bs = refl
starts_of_append (true ∷ ps) bs = starts_of_append ps bs
starts_of_append (false ∷ ps) bs = starts_of_append ps bs

-- what follows as many bits as the pattern has decides nothing
pub starts_decided : (ps xs ys : List Bool) → length ps ≤ length xs → starts_with ps (xs ++ ys) ≡ starts_with ps xs
unfolding starts_with
starts_decided [] xs ys h = refl
starts_decided (p ∷ ps) [] ys h = absurd (omega arith)
starts_decided (p ∷ ps) (x ∷ xs) ys h = ap (if (p ⊕ x) false) (starts_decided ps xs ys (omega arith))

-- place by place
pub starts_at : (ps bs : List Bool) → starts_with ps bs ≡ true → (j : ℕ) → j < length ps → get_or bs j false ≡ get_or ps j false
unfolding starts_with
starts_at [] bs h j l = absurd (omega arith)
starts_at (p ∷ ps) [] h j l = absurd (false_not_true h)
starts_at (true ∷ ps) (true ∷ bs) h zero l = refl
starts_at (true ∷ ps) (true ∷ bs) h (suc j) l = starts_at ps bs h j (omega arith)
starts_at (true ∷ ps) (false ∷ bs) h j l = absurd (false_not_true h)
starts_at (false ∷ ps) (true ∷ bs) h j l = absurd (false_not_true h)
starts_at (false ∷ ps) (false ∷ bs) h zero l = refl
starts_at (false ∷ ps) (false ∷ bs) h (suc j) l = starts_at ps bs h j (omega arith)

-- ---- a place told from earlier bits

-- from n bits earlier
abbrev pub after : ℕ → Option ℕ → Option ℕ
after n = option_map (λ p. n + p)

pub after_zero : (o : Option ℕ) → after 0 o ≡ o
after_zero None = refl
after_zero (Some p) = let e : 0 + p ≡ p = omega arith in ap Some e

pub after-suc : (n : ℕ) (o : Option ℕ) → after n (option_map suc o) ≡ after (suc n) o
after-suc n None = refl
after-suc n (Some p) = let e : n + suc p ≡ suc n + p = omega arith in ap Some e

pub suc-after : (n : ℕ) (o : Option ℕ) → option_map suc (after n o) ≡ after (suc n) o
suc-after n None = refl
suc-after n (Some p) = let e : suc (n + p) ≡ suc n + p = omega arith in ap Some e

-- ---- first_place

pub first_here : (ps : List Bool) (b : Bool) (bs : List Bool) → starts_with ps (b ∷ bs) ≡ true → first_place ps (b ∷ bs) ≡ Some 0
unfolding first_place
first_here ps b bs e = rw e

pub first_there : (ps : List Bool) (b : Bool) (bs : List Bool) → starts_with ps (b ∷ bs) ≡ false → first_place ps (b ∷ bs) ≡ option_map suc (first_place ps bs)
unfolding first_place
first_there ps b bs e = rw e

-- what holds where the pattern starts, and one bit before a place at which it holds, holds at the first place
module _ (ps : List Bool) (P : List Bool → ℕ → Type 0) where
  pub first_induction : ((b : Bool) (bs : List Bool) → starts_with ps (b ∷ bs) ≡ true → P (b ∷ bs) 0)
      → ((b : Bool) (bs : List Bool) (m : ℕ) → starts_with ps (b ∷ bs) ≡ false → first_place ps bs ≡ Some m → P bs m → P (b ∷ bs) (suc m))
      → (bs : List Bool) (n : ℕ) → first_place ps bs ≡ Some n → P bs n
  unfolding first_place
  first_induction here there [] n h = no_place h
  first_induction here there (b ∷ bs) n h = go (starts_with ps (b ∷ bs)) refl h (first_induction here there bs)
    where
      back : (o : Option ℕ) → starts_with ps (b ∷ bs) ≡ false → first_place ps bs ≡ o → option_map suc o ≡ Some n
          → ((m : ℕ) → first_place ps bs ≡ Some m → P bs m) → P (b ∷ bs) n
      back None e f k ih = no_place k
      back (Some m) e f k ih = let z : suc m ≡ n = cc in subst (P (b ∷ bs)) z (there b bs m e f (ih m f))

      go : (t : Bool) → starts_with ps (b ∷ bs) ≡ t → if t (Some 0) (option_map suc (first_place ps bs)) ≡ Some n
          → ((m : ℕ) → first_place ps bs ≡ Some m → P bs m) → P (b ∷ bs) n
      go true e k ih = let z : 0 ≡ n = cc in subst (P (b ∷ bs)) z (here b bs e)
      go false e k ih = back (first_place ps bs) e refl k ih

pub none_cons : (ps : List Bool) (b : Bool) (bs : List Bool) → first_place ps (b ∷ bs) ≡ None → (starts_with ps (b ∷ bs) ≡ false) × (first_place ps bs ≡ None)
unfolding first_place
none_cons ps b bs h = go (starts_with ps (b ∷ bs)) (first_place ps bs) h
  where
    go : (t : Bool) (o : Option ℕ) → if t (Some 0) (option_map suc o) ≡ None → (t ≡ false) × (o ≡ None)
    go true o k = no_place (sym k)
    go false None k = (refl, refl)
    go false (Some m) k = no_place (sym k)

-- at the first place the bits start with the pattern
pub first_starts : (ps bs : List Bool) (n : ℕ) → first_place ps bs ≡ Some n → (starts_with ps (drop n bs) ≡ true) × (n < length bs)
first_starts ps =
    first_induction ps (λ (bs : List Bool) (n : ℕ). (starts_with ps (drop n bs) ≡ true) × (n < length bs))
    (λ b bs e. (e, omega arith)) (λ b bs m e f ih. (ih.0, omega arith))

pub first_is_sync : (ps bs : List Bool) (n : ℕ) → first_place ps bs ≡ Some n → (take (length ps) (drop n bs) ≡ ps) × (n + length ps ≤ length bs)
first_is_sync ps bs n h =
    let s = first_starts ps bs n h in
    let t = starts_takes ps (drop n bs) s.0 in
    (t.0, omega (arith, length-drop n bs))

module _ (Q : ℕ → Type 0) where
  below_suc : (m : ℕ) → Q 0 → ((k : ℕ) → k < m → Q (suc k)) → (k : ℕ) → k < suc m → Q k
  below_suc m z s zero h = z
  below_suc m z s (suc k) h = s k (omega arith)

-- .. and at no place before it
pub first_is_first : (ps bs : List Bool) (n : ℕ) → first_place ps bs ≡ Some n → (k : ℕ) → k < n → starts_with ps (drop k bs) ≡ false
first_is_first ps =
    first_induction ps (λ (bs : List Bool) (n : ℕ). (k : ℕ) → k < n → starts_with ps (drop k bs) ≡ false)
    (λ b bs e k h. absurd (omega arith))
    (λ b bs m e f ih. below_suc (λ (k : ℕ). starts_with ps (drop k (b ∷ bs)) ≡ false) m e ih)

-- where none is found, they start with it at no place
pub none_means_none : (p : Bool) (ps bs : List Bool) → first_place (p ∷ ps) bs ≡ None → (k : ℕ) → starts_with (p ∷ ps) (drop k bs) ≡ false
unfolding starts_with
none_means_none p ps [] h zero = refl
none_means_none p ps [] h (suc k) = refl
none_means_none p ps (b ∷ bs) h zero = (none_cons (p ∷ ps) b bs h).0
none_means_none p ps (b ∷ bs) h (suc k) = none_means_none p ps bs (none_cons (p ∷ ps) b bs h).1 k

-- a place found stays when bits follow
pub first_of_append : (ps xs ys : List Bool) (n : ℕ) → first_place ps xs ≡ Some n → first_place ps (xs ++ ys) ≡ Some n
first_of_append ps xs ys =
    first_induction ps (λ (xs : List Bool) (n : ℕ). first_place ps (xs ++ ys) ≡ Some n)
    (λ b bs e. first_here ps b (bs ++ ys) (starts_decided ps (b ∷ bs) ys (starts_takes ps (b ∷ bs) e).1 ∙ e))
    (λ b bs m e f ih.
    let l = first_is_sync ps bs m f in
    first_there ps b (bs ++ ys) (starts_decided ps (b ∷ bs) ys (omega arith) ∙ e) ∙ ap (option_map suc) ih)
    xs

-- a place found was there before the bits that follow the pattern
pub first_before_append : (p : Bool) (ps xs ys : List Bool) (n : ℕ) → n + length (p ∷ ps) ≤ length xs → first_place (p ∷ ps) (xs ++ ys) ≡ Some n
    → first_place (p ∷ ps) xs ≡ Some n
first_before_append p ps xs ys n l h = go (first_place (p ∷ ps) xs) refl
  where
    go : (o : Option ℕ) → first_place (p ∷ ps) xs ≡ o → first_place (p ∷ ps) xs ≡ Some n
    go None e =
        absurd
        (false_not_true
        (sym (none_means_none p ps xs e n)
        ∙ sym (starts_decided (p ∷ ps) (drop n xs) ys (omega (arith, length-drop n xs)))
        ∙ ap (starts_with (p ∷ ps)) (sym (drop-append-le n xs ys (omega arith)))
        ∙ (first_starts (p ∷ ps) (xs ++ ys) n h).0))
    go (Some m) e = e ∙ sym (first_of_append (p ∷ ps) xs ys m e) ∙ h

-- a pattern that starts with a one does not start in zeros
pub first_after_zeros : (ps : List Bool) (n : ℕ) (bs : List Bool)
    → first_place (true ∷ ps) (replicate n false ++ bs) ≡ after n (first_place (true ∷ ps) bs)
unfolding starts_with
first_after_zeros ps zero bs = sym (after_zero (first_place (true ∷ ps) bs))
first_after_zeros ps (suc n) bs =
    first_there (true ∷ ps) false (replicate n false ++ bs) refl
    ∙ ap (option_map suc) (first_after_zeros ps n bs)
    ∙ suc-after n (first_place (true ∷ ps) bs)

-- fewer bits than the pattern has hold none
pub first_of_short : (ps bs : List Bool) → length bs < length ps → first_place ps bs ≡ None
first_of_short ps bs l = go (first_place ps bs) refl
  where
    go : (o : Option ℕ) → first_place ps bs ≡ o → o ≡ None
    go None e = refl
    go (Some n) e = let r = first_is_sync ps bs n e in absurd (omega arith)

-- ---- a sync's bits

-- with false for what lies beyond the end, all bits of a sync after its ones are zeros
zeros_at : (n i : ℕ) → get_or (replicate n false) i false ≡ false
zeros_at zero i = refl
zeros_at (suc n) zero = refl
zeros_at (suc n) (suc i) = zeros_at n i

pub sync_length : (unit : ℕ) → length (sync_of unit) ≡ 3 * unit
sync_length unit = simp (length-append, length-replicate) (omega arith)

sync_one : (unit j : ℕ) → j < unit → get_or (sync_of unit) j false ≡ true
sync_one unit j h =
    get_or-append (replicate unit true) (replicate (2 * unit) false) false j (omega (arith, length-replicate unit true))
    ∙ get_or-replicate unit j true false h

sync_zero : (unit j : ℕ) → unit ≤ j → get_or (sync_of unit) j false ≡ false
sync_zero unit j h =
    let e : j ≡ length (replicate unit true) + (j - unit) = omega (arith, length-replicate unit true) in
    ap (λ (i : ℕ). get_or (sync_of unit) i false) e
    ∙ get_or-append-add (replicate unit true) (replicate (2 * unit) false) (j - unit) false
    ∙ zeros_at (2 * unit) (j - unit)

-- the bits of a stream in which a sync starts at place p
module _ (unit : ℕ) (bs : List Bool) (p : ℕ) (s : starts_with (sync_of unit) (drop p bs) ≡ true) where
  sync_bit : (i : ℕ) → p ≤ i → i < p + 3 * unit → get_or bs i false ≡ get_or (sync_of unit) (i - p) false
  sync_bit i h l =
      let e : i ≡ p + (i - p) = omega arith in
      ap (λ (k : ℕ). get_or bs k false) e ∙ sym (get_or-drop p bs (i - p) false)
      ∙ starts_at (sync_of unit) (drop p bs) s (i - p) (omega (arith, sync_length unit))

  pub sync_ones : (i : ℕ) → p ≤ i → i < p + unit → get_or bs i false ≡ true
  sync_ones i h l = sync_bit i h (omega arith) ∙ sync_one unit (i - p) (omega arith)

  pub sync_zeros : (i : ℕ) → p + unit ≤ i → i < p + 3 * unit → get_or bs i false ≡ false
  sync_zeros i h l = sync_bit i (omega arith) l ∙ sync_zero unit (i - p) (omega arith)

-- two syncs never overlap
pub syncs_apart : (unit : ℕ) (bs : List Bool) (p q : ℕ) → 1 ≤ unit → p < q → starts_with (sync_of unit) (drop p bs) ≡ true
    → starts_with (sync_of unit) (drop q bs) ≡ true → p + 3 * unit ≤ q
syncs_apart unit bs p q u l s t = near (dec_lt q (p + 3 * unit)) (dec_lt q (p + unit))
  where
    near : Dec (q < p + 3 * unit) → Dec (q < p + unit) → p + 3 * unit ≤ q
    near (no g) d = omega arith
    near (yes h) (yes k) =
        absurd
        (false_not_true (sym (sync_zeros unit bs p s (p + unit) (omega arith) (omega arith)) ∙ sync_ones unit bs q t (p + unit) (omega arith) (omega arith)))
    near (yes h) (no g) = absurd (false_not_true (sym (sync_zeros unit bs p s q (omega arith) h) ∙ sync_ones unit bs q t q (omega arith) (omega arith)))

-- ---- sync_at and found_sync

pub sync_place-sync_at : (o : Option ℕ) → sync_place (Ok (option_map sync_at o)) ≡ o
sync_place-sync_at None = refl
sync_place-sync_at (Some p) = let e : p / 10 * 10 + p % 10 ≡ p = omega arith in ap Some e

pub found_refusal : (ws : List ℕ) → sync_refusal (found_sync ws) ≡ if (words10 ws) 0 3
unfolding found_sync
found_refusal ws = go (words10 ws) refl
  where
    go : (b : Bool) → words10 ws ≡ b → sync_refusal (found_sync ws) ≡ if b 0 3
    go true e = rw e
    go false e = rw e

pub found-place : (ws : List ℕ) → sync_place (found_sync ws) ≡ if (words10 ws) (first_sync ws) None
unfolding found_sync
found-place ws = go (words10 ws) refl
  where
    go : (b : Bool) → words10 ws ≡ b → sync_place (found_sync ws) ≡ if b (first_sync ws) None
    go true e = rw e (sync_place-sync_at (first_sync ws))
    go false e = rw e

-- ---- an example: a sync after thirteen bits of noise

pub noisy_sync : found_sync (0x2a5 ∷ 0x3fa ∷ 0x3ff ∷ 0x007 ∷ 0x000 ∷ 0x000 ∷ 0x000 ∷ 0x1f8 ∷ []) ≡ Ok (Some (record { word = 1; bit = 3 }))
unfolding found_sync first_sync first_place starts_with words10 word_bits bits odd
noisy_sync = refl

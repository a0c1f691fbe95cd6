-- Laws that tie a window to the bits that came.
use mathlib.Core.Path.{◌≡◌, refl, sym, ap, ap₂, ◌∙◌}
use mathlib.Core.Bool.{Bool, true, false, ◌||◌, or-true}
use mathlib.Core.List.{List, [], ◌∷◌, ◌++◌, append_assoc, append-nil}
use mathlib.Core.Logic.{◌⊎◌, inl, inr}
use Rattle.std.specs.Prelude.{Option, None, Some}
use Prim.Native.Nat.{ℕ, ◌+◌, ◌-◌, ◌/◌, ◌%◌, ◌^◌, ◌≤◌, ◌<◌}
use native.Mathlib.Omega.{arith}
use native.Mathlib.Decide.{dec_lt, dec_le}
use lib.ListN.{length, take, drop, get_or, replicate, length-append, length-drop, take-append-drop, get_or-append, get_or-replicate}
use lib.Seq.{drop-drop, drop-append-le, drop-append-add, drop_at, drop-append_seam, take_all, get_or-drop}
use borrow.Author.Tests.{eq-eqb, eqb-true}
use Rattle.bits.specs.Bits.{bits, number}
use Rattle.bits.proofs.Choice.{false_not_true}
use Rattle.bits.proofs.Bits.{bits-number, number_half, number_shr, number_mod, number_append}
use Rattle.raster.specs.Layout.{sync_of, hd_unit}
use Rattle.align.specs.Sync.{starts_with, first_place}
use Rattle.align.specs.Search.{slid}
use Rattle.align.proofs.FirstSync.{starts_of_append, none_means_none, no_place, first_is_sync, first_of_append, first_before_append}
use Rattle.recogniser.specs.declared.Window.{Window}
use Rattle.recogniser.specs.Sight.{is_sync, c_word, y_word, ahead_after, window_after}

-- ---- the end of some bits z and of those that came: as many bits as z has

module _ (z : List Bool) where
  abbrev end_of : List Bool → List Bool
  end_of bs = drop (length bs) (z ++ bs)

  length-end_of : (bs : List Bool) → length (end_of bs) ≡ length z
  length-end_of bs = omega (arith, length-drop (length bs) (z ++ bs), length-append z bs)

  end_of_append : (bs xs : List Bool) → end_of (bs ++ xs) ≡ drop (length xs) (end_of bs ++ xs)
  end_of_append bs xs =
      rw (length-append bs xs, ← append_assoc z bs xs, ← drop-drop (length xs) (length bs) (z ++ bs ++ xs))
      (ap (drop (length xs)) (drop-append-le (length bs) (z ++ bs) xs (omega (arith, length-append z bs))))

-- ---- last_of

abbrev zeros : List Bool
zeros = replicate 60 false

-- the last sixty bits of sixty zeros and these, as a number, oldest lowest
abbrev pub last_of : List Bool → ℕ
last_of bs = number (drop (length bs) (replicate 60 false ++ bs))

-- one bit enters at the high end, and one leaves at the low end
slid-number : (v : List Bool) (b : Bool) → length v ≡ 60 → slid (number v) b ≡ number (drop 1 (v ++ (b ∷ [])))
unfolding number
slid-number [] b e = absurd (omega arith)
slid-number (x ∷ v) b e =
    let f : length v ≡ 59 = omega arith in
    rw (number_append v (b ∷ []), f) (omega (arith, number_half (x ∷ v)))

pub slid_last_of : (bs : List Bool) (b : Bool) → slid (last_of bs) b ≡ last_of (bs ++ (b ∷ []))
slid_last_of bs b =
    slid-number (end_of zeros bs) b (length-end_of zeros bs)
    ∙ ap number (sym (end_of_append zeros bs (b ∷ [])))

-- the last forty bits before twenty more, and these twenty
last_of_pair : (pre x : List Bool) → length x ≡ 20 → last_of (pre ++ x) ≡ number (drop 20 (end_of zeros pre) ++ x)
last_of_pair pre x e =
    ap number
    (end_of_append zeros pre x
    ∙ ap (λ (n : ℕ). drop n (end_of zeros pre ++ x)) e
    ∙ drop-append-le 20 (end_of zeros pre) x (omega (arith, length-end_of zeros pre)))

length_before_pair : (pre : List Bool) → length (drop 20 (end_of zeros pre)) ≡ 40
length_before_pair pre = omega (arith, length-drop 20 (end_of zeros pre), length-end_of zeros pre)

-- a number's ten bits from the k-th on
number_word : (k : ℕ) (v : List Bool) → number v / 2 ^ k % 2 ^ 10 ≡ number (take 10 (drop k v))
number_word k v = ap (λ (n : ℕ). n % 2 ^ 10) (number_shr k v) ∙ number_mod 10 (drop k v)

pub c_word_last_of : (pre x : List Bool) → length x ≡ 20 → c_word (last_of (pre ++ x)) ≡ number (take 10 x)
c_word_last_of pre x e =
    let p = drop 20 (end_of zeros pre) in
    ap c_word (last_of_pair pre x e)
    ∙ number_word 40 (p ++ x)
    ∙ ap (λ (l : List Bool). number (take 10 l)) (drop_at p x 40 (length_before_pair pre))

pub y_word_last_of : (pre x : List Bool) → length x ≡ 20 → y_word (last_of (pre ++ x)) ≡ number (drop 10 x)
y_word_last_of pre x e =
    let p = drop 20 (end_of zeros pre) in
    ap y_word (last_of_pair pre x e)
    ∙ number_word 50 (p ++ x)
    ∙ ap (λ (l : List Bool). number (take 10 l))
    (sym (drop-drop 10 40 (p ++ x)) ∙ ap (drop 10) (drop_at p x 40 (length_before_pair pre)))
    ∙ ap number (take_all 10 (drop 10 x) (omega (arith, length-drop 10 x)))

-- ---- is_sync

pub is_sync_of_sync : (pre : List Bool) → is_sync (last_of (pre ++ sync_of hd_unit)) ≡ true
is_sync_of_sync pre =
    eq-eqb _ _
    (ap number
    (end_of_append zeros pre (sync_of hd_unit)
    ∙ drop_at (end_of zeros pre) (sync_of hd_unit) 60 (length-end_of zeros pre)))

pub record EndsInSync (bs : List Bool) : Type 0 where
  pub pre : List Bool
  pub split : bs ≡ pre ++ sync_of hd_unit

-- bits are told by their count and their number
number_same : (xs ys : List Bool) → length xs ≡ length ys → number xs ≡ number ys → xs ≡ ys
number_same xs ys e f = sym (bits-number xs) ∙ ap₂ bits e f ∙ bits-number ys

-- the zeros are no part of it, for a sync begins with a one
pub is_sync-ends : (bs : List Bool) → is_sync (last_of bs) ≡ true → EndsInSync bs
is_sync-ends bs h = go (dec_lt (length bs) 60)
  where
    same : drop (length bs) (zeros ++ bs) ≡ sync_of hd_unit
    same =
        number_same (end_of zeros bs) (sync_of hd_unit) (length-end_of zeros bs)
        (eqb-true (last_of bs) (number (sync_of hd_unit)) h)

    first : length bs < 60 → false ≡ true
    first l =
        let z : length bs ≡ length bs + 0 = omega arith in
        sym (get_or-replicate 60 (length bs) false false l)
        ∙ sym (get_or-append zeros bs false (length bs) l)
        ∙ ap (λ (n : ℕ). get_or (zeros ++ bs) n false) z
        ∙ sym (get_or-drop (length bs) (zeros ++ bs) 0 false)
        ∙ ap (λ (v : List Bool). get_or v 0 false) same

    go : Dec (length bs < 60) → EndsInSync bs
    go (yes l) = absurd (false_not_true (first l))
    go (no g) =
        let e : length bs ≡ 60 + (length bs - 60) = omega arith in
        record {
          pre = take (length bs - 60) bs;
          split =
              sym (take-append-drop (length bs - 60) bs)
              ∙ ap (λ (l : List Bool). take (length bs - 60) bs ++ l)
              (sym (drop-append-add zeros bs (length bs - 60))
              ∙ ap (λ (n : ℕ). drop n (zeros ++ bs)) (sym e)
              ∙ same);
        }

-- ---- a window

-- an XYZ pair of which n bits are still to come: its sync, and the bits of it that came
pub record Awaited (bs : List Bool) (n : ℕ) : Type 0 where
  pub pre : List Bool
  pub came : List Bool
  pub split : bs ≡ pre ++ (sync_of hd_unit ++ came)
  pub count : length came + n ≡ 20

-- what a window says of the bits that came since the start
pub record Tied (bs : List Bool) (w : Window) : Type 0 where
  pub last : w.last ≡ last_of bs
  pub ahead : (w.ahead ≡ 0) ⊎ Awaited bs w.ahead
  pub unseen : w.seen ≡ false → first_place (sync_of hd_unit) bs ≡ None
  pub has_sync : w.seen ≡ true → (first_place (sync_of hd_unit) bs ≡ None → ⊥)

abbrev pub start_window : Window
start_window = record { last = 0; ahead = 0; seen = false }

pub tied_start : Tied [] start_window
unfolding number first_place
tied_start = record { last = refl; ahead = inl refl; unseen = λ e. refl; has_sync = λ e. absurd (false_not_true e) }

-- a stream that ends in a sync holds one
has_sync_at_end : (bs : List Bool) → EndsInSync bs → first_place (sync_of hd_unit) bs ≡ None → ⊥
has_sync_at_end bs e n =
    false_not_true
    (sym (none_means_none true (drop 1 (sync_of hd_unit)) bs n (length e.pre))
    ∙ ap (λ (l : List Bool). starts_with (sync_of hd_unit) (drop (length e.pre) l)) e.split
    ∙ ap (starts_with (sync_of hd_unit)) (drop-append_seam e.pre (sync_of hd_unit))
    ∙ starts_of_append (sync_of hd_unit) [])

-- one bit more: a sync that was there stays
has_sync_before : (bs : List Bool) (b : Bool) → (first_place (sync_of hd_unit) bs ≡ None → ⊥)
    → first_place (sync_of hd_unit) (bs ++ (b ∷ [])) ≡ None → ⊥
has_sync_before bs b g n = go (first_place (sync_of hd_unit) bs) refl
  where
    go : (o : Option ℕ) → first_place (sync_of hd_unit) bs ≡ o → ⊥
    go None e = g e
    go (Some p) e = no_place (sym n ∙ first_of_append (sync_of hd_unit) bs (b ∷ []) p e)

-- .. and one that was not there ends at the bit
first_at_end : (bs : List Bool) (p : ℕ) → first_place (sync_of hd_unit) bs ≡ Some p → length bs ≤ p + 60 → bs ≡ take p bs ++ sync_of hd_unit
first_at_end bs p e l =
    sym (take-append-drop p bs)
    ∙ ap (λ (v : List Bool). take p bs ++ v)
    (sym (take_all 60 (drop p bs) (omega (arith, length-drop p bs))) ∙ (first_is_sync (sync_of hd_unit) bs p e).0)

unseen_after : (bs : List Bool) (b : Bool) → first_place (sync_of hd_unit) bs ≡ None → is_sync (last_of (bs ++ (b ∷ []))) ≡ false
    → first_place (sync_of hd_unit) (bs ++ (b ∷ [])) ≡ None
unseen_after bs b n h = go (first_place (sync_of hd_unit) (bs ++ (b ∷ []))) refl
  where
    at : (p : ℕ) → first_place (sync_of hd_unit) (bs ++ (b ∷ [])) ≡ Some p → Dec (p + 60 ≤ length bs) → ⊥
    at p e (yes l) = no_place (sym n ∙ first_before_append true (drop 1 (sync_of hd_unit)) bs (b ∷ []) p l e)
    at p e (no g) =
        let cs = bs ++ (b ∷ []) in
        let split = first_at_end cs p e (omega (arith, length-append bs (b ∷ []))) in
        false_not_true (sym h ∙ ap (λ (l : List Bool). is_sync (last_of l)) split ∙ is_sync_of_sync (take p cs))

    go : (o : Option ℕ) → first_place (sync_of hd_unit) (bs ++ (b ∷ [])) ≡ o → o ≡ None
    go None e = refl
    go (Some p) e = absurd (at p e (dec_le (p + 60) (length bs)))

-- an XYZ pair's next bit
awaited_after : (bs : List Bool) (n : ℕ) (b : Bool) → (n ≡ 0) ⊎ Awaited bs n → (n - 1 ≡ 0) ⊎ Awaited (bs ++ (b ∷ [])) (n - 1)
awaited_after bs n b (inl e) = inl (omega arith)
awaited_after bs n b (inr a) = go (dec_le 1 n)
  where
    go : Dec (1 ≤ n) → (n - 1 ≡ 0) ⊎ Awaited (bs ++ (b ∷ [])) (n - 1)
    go (yes l) =
        inr
        (record {
          pre = a.pre;
          came = a.came ++ (b ∷ []);
          split =
              ap (λ (l : List Bool). l ++ (b ∷ [])) a.split
              ∙ append_assoc a.pre (sync_of hd_unit ++ a.came) (b ∷ [])
              ∙ ap (λ (l : List Bool). a.pre ++ l) (append_assoc (sync_of hd_unit) a.came (b ∷ []));
          count = omega (arith, a.count, length-append a.came (b ∷ []));
        })
    go (no g) = inl (omega arith)

pub tied_after : (bs : List Bool) (w : Window) (b : Bool) → Tied bs w → Tied (bs ++ (b ∷ [])) (window_after b w)
unfolding window_after
tied_after bs w b t = go (is_sync (slid w.last b)) w.seen refl refl
  where
    last : slid w.last b ≡ last_of (bs ++ (b ∷ []))
    last = ap (λ (l : ℕ). slid l b) t.last ∙ slid_last_of bs b

    go : (sync seen : Bool) → is_sync (slid w.last b) ≡ sync → w.seen ≡ seen
        → Tied (bs ++ (b ∷ [])) (record { last = slid w.last b; ahead = ahead_after w.ahead sync; seen = seen || sync })
    go true seen s u =
        let e = is_sync-ends (bs ++ (b ∷ [])) (sym (ap is_sync last) ∙ s) in
        let f = e.split ∙ ap (λ (l : List Bool). e.pre ++ l) (sym (append-nil (sync_of hd_unit))) in
        record {
          last = last;
          ahead = inr (record { pre = e.pre; came = []; split = f; count = omega arith });
          unseen = λ n. absurd (false_not_true (sym n ∙ or-true seen));
          has_sync = λ y. has_sync_at_end (bs ++ (b ∷ [])) e;
        }
    go false true s u =
        record {
          last = last;
          ahead = awaited_after bs w.ahead b t.ahead;
          unseen = λ n. absurd (false_not_true (sym n));
          has_sync = λ y. has_sync_before bs b (t.has_sync u);
        }
    go false false s u =
        record {
          last = last;
          ahead = awaited_after bs w.ahead b t.ahead;
          unseen = λ n. unseen_after bs b (t.unseen u) (sym (ap is_sync last) ∙ s);
          has_sync = λ y. absurd (false_not_true y);
        }

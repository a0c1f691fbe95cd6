-- Laws of the table: codes, looking up, naming.
use mathlib.Core.Path.{◌≡◌, refl, ap, sym, subst, ◌∙◌}
use mathlib.Core.Bool.{Bool, true, false}
use mathlib.Core.List.{List, [], ◌∷◌}
use Prim.Native.Nat.{ℕ, zero, suc, ◌+◌, ◌-◌, ◌≤◌, ◌<◌}
use native.Mathlib.Omega.{arith}
use lib.Dec.{T, leb, eqb, leb→le, eqb→eq}
use lib.ListN.{length, get_or, drop, drop_of_length-le}
use lib.Seq.{drop-cons}
use borrow.Author.Tests.{leb-true, le-leb, eqb-true, eqb-false}
use Rattle.bits.specs.Choice.{if}
use Rattle.bits.proofs.Below.{below}
use Rattle.bits.proofs.Each.{each, each_at}
use Rattle.raster.specs.declared.Entry.{Entry}
use Rattle.raster.specs.declared.Kind.{Kind}
use Rattle.raster.specs.declared.Kind.TheVariants.{Progressive, TwoFields}
use Rattle.raster.specs.declared.Raster.{Raster}
use Rattle.raster.specs.Table.{table, no_entry, highest, meant, entry_of, raster_ok, raster_at, no_raster, raster_given, raster_refusal, looked_up, same_kind, fits, name_from, name_of}
use Rattle.bits.proofs.Choice.{false_not_true, and-true, if_zero}
use Rattle.refusal.specs.declared.Refusal.{Refusal}
use Rattle.refusal.specs.declared.Refusal.TheVariants.{NoRaster}
use Rattle.refusal.specs.Refusal.{refusal_numbered}
use Rattle.refusal.proofs.Answers.{err_same, ok_not_err, result_of_ok}
use Rattle.std.specs.Prelude.{Ok, Err}

-- ---- highest

-- it is the code of the last row
pub highest_is_last : length table ≡ highest
highest_is_last = refl

-- ---- meant

pub meant_other : (code : ℕ) → (code ≡ 0 → ⊥) → meant code ≡ code
meant_other zero h = absurd (h refl)
meant_other (suc n) h = refl

pub meant_range : (code : ℕ) → raster_ok code ≡ true → (1 ≤ meant code) × (meant code ≤ highest)
meant_range zero h = (omega arith, omega arith)
meant_range (suc n) h = (omega arith, leb-true (suc n) highest h)

pub meant_ok : (code : ℕ) → raster_ok code ≡ true → raster_ok (meant code) ≡ true
meant_ok code ok = le-leb (meant code) highest (meant_range code ok).1

-- ---- entry_of

-- what passes at every entry of the table passes at the row of every code
pub entry_all : (f : Entry → Bool) → T (each f table) → (code : ℕ) → raster_ok code ≡ true → T (f (entry_of code))
unfolding entry_of
entry_all f t code ok = let r = meant_range code ok in each_at f table no_entry t (meant code - 1) (omega arith)

-- ---- raster_given and looked_up

pub raster_given-found : (code : ℕ) → raster_ok code ≡ true → raster_given code ≡ raster_at (meant code) (entry_of code)
unfolding raster_given
raster_given-found code ok = rw ok

pub raster_given-none : (code : ℕ) → raster_ok code ≡ false → raster_given code ≡ no_raster
unfolding raster_given
raster_given-none code bad = rw bad

-- a raster is answered for exactly the codes 0..11, and 4 for all others
pub looked_up_found : (code : ℕ) → raster_ok code ≡ true → looked_up code ≡ Ok (raster_given code)
unfolding looked_up
looked_up_found code ok = rw ok

pub looked_up_none : (code : ℕ) → raster_ok code ≡ false → looked_up code ≡ Err NoRaster
unfolding looked_up refusal_numbered
looked_up_none code bad = rw bad

pub looked_up_ok : {raster : Raster} (code : ℕ) → looked_up code ≡ Ok raster → (raster_ok code ≡ true) × (raster ≡ raster_given code)
unfolding looked_up
looked_up_ok code e =
    let r = result_of_ok (raster_given code) (raster_refusal code) e in
    ((if_zero (raster_ok code) 0 3 r.0).0, r.1)

pub looked_up_err : {refusal : Refusal} (code : ℕ) → looked_up code ≡ Err refusal → (raster_ok code ≡ false) × (refusal ≡ NoRaster)
looked_up_err {refusal} code e = go (raster_ok code) refl
  where
    go : (b : Bool) → raster_ok code ≡ b → (raster_ok code ≡ false) × (refusal ≡ NoRaster)
    go true ok = absurd (ok_not_err (looked_up_found code ok) e)
    go false bad = (bad, err_same e (looked_up_none code bad))

-- "Code 0 stands for 7"
pub raster_given_zero : raster_given 0 ≡ raster_given 7
unfolding raster_given entry_of
raster_given_zero = refl

pub looked_up_zero : looked_up 0 ≡ looked_up 7
unfolding looked_up
looked_up_zero = ap Ok raster_given_zero

-- ---- the ranges of a raster

pub record InRange (r : Raster) : Type 0 where
  pub code_low : 1 ≤ r.code
  pub code_high : r.code ≤ highest
  pub unit : r.layout.unit ≡ 20
  pub total_low : 1650 ≤ r.layout.total
  pub total_high : r.layout.total ≤ 4125
  pub active_low : 1280 ≤ r.layout.active
  pub active_high : r.layout.active ≤ 1920
  pub active_fits : r.layout.active + 12 ≤ r.layout.total
  pub lines : r.layout.lines ≡ 2
  pub checks : r.layout.checks ≡ 2
  pub rows_low : 750 ≤ r.rows
  pub rows_high : r.rows ≤ 1125

pub raster_range : (code : ℕ) → raster_ok code ≡ true → InRange (raster_at (meant code) (entry_of code))
raster_range code ok =
    record {
      code_low = (meant_range code ok).0;
      code_high = (meant_range code ok).1;
      unit = refl;
      total_low = leb→le _ _ (entry_all (λ e. leb 1650 e.total) tt code ok);
      total_high = leb→le _ _ (entry_all (λ e. leb e.total 4125) tt code ok);
      active_low = leb→le _ _ (entry_all (λ e. leb 1280 e.active) tt code ok);
      active_high = leb→le _ _ (entry_all (λ e. leb e.active 1920) tt code ok);
      active_fits = leb→le _ _ (entry_all (λ e. leb (e.active + 12) e.total) tt code ok);
      lines = refl;
      checks = refl;
      rows_low = leb→le _ _ (entry_all (λ e. leb 750 e.rows) tt code ok);
      rows_high = leb→le _ _ (entry_all (λ e. leb e.rows 1125) tt code ok);
    }

pub looked_up_range : (code : ℕ) → raster_ok code ≡ true → InRange (raster_given code)
looked_up_range code ok = subst InRange (sym (raster_given-found code ok)) (raster_range code ok)

-- ---- same_kind and fits

same_kind_true : (k l : Kind) → same_kind k l ≡ true → k ≡ l
same_kind_true Progressive Progressive e = refl
same_kind_true Progressive TwoFields e = absurd (false_not_true e)
same_kind_true TwoFields Progressive e = absurd (false_not_true e)
same_kind_true TwoFields TwoFields e = refl

-- a row that fits has exactly these values
pub record Has (t a n : ℕ) (k : Kind) (e : Entry) : Type 0 where
  pub total : e.total ≡ t
  pub active : e.active ≡ a
  pub rows : e.rows ≡ n
  pub kind : e.kind ≡ k

pub fits_has : (t a n : ℕ) (k : Kind) (e : Entry) → fits t a n k e ≡ true → Has t a n k e
fits_has t a n k e h =
    let x = and-true (eqb e.total t) _ h in
    let y = and-true (eqb e.active a) _ x.1 in
    let z = and-true (eqb e.rows n) _ y.1 in
    record {
      total = eqb-true e.total t x.0;
      active = eqb-true e.active a y.0;
      rows = eqb-true e.rows n z.0;
      kind = same_kind_true e.kind k z.1;
    }

-- ---- name_from: a turn of the loop, its stop and its end, by what the calls in it answer

module _ (t a n : ℕ) (k : Kind) where
  pub name_from_step : (c i : ℕ) (es : List Entry) {e : Entry} {b : Bool} → i < length es → e ≡ get_or es i no_entry → b ≡ fits t a n k e → b ≡ false
      → name_from c (drop i es) t a n k ≡ name_from (suc c) (drop (suc i) es) t a n k
  unfolding name_from
  name_from_step c i es h p q r = rw (drop-cons es i no_entry, ← p, ← q, r)

  pub name_from_stop : (c i : ℕ) (es : List Entry) {e : Entry} {b : Bool} → i < length es → e ≡ get_or es i no_entry → b ≡ fits t a n k e → b ≡ true
      → name_from c (drop i es) t a n k ≡ c
  unfolding name_from
  name_from_stop c i es h p q r = rw (drop-cons es i no_entry, ← p, ← q, r)

  pub name_from_end : (c i : ℕ) (es : List Entry) → length es ≤ i → name_from c (drop i es) t a n k ≡ 0
  unfolding name_from
  name_from_end c i es h = rw (drop_of_length-le _ h)

-- the row that a name stands for, where the first code is c
record Row (t a n : ℕ) (k : Kind) (c : ℕ) (es : List Entry) (name : ℕ) : Type 0 where
  low : c ≤ name
  high : name < c + length es
  fit : fits t a n k (get_or es (name - c) no_entry) ≡ true

name_from_row : (t a n : ℕ) (k : Kind) (c : ℕ) (es : List Entry) → (name_from c es t a n k ≡ 0 → ⊥)
    → Row t a n k c es (name_from c es t a n k)
unfolding name_from
name_from_row t a n k c [] h = absurd (h refl)
name_from_row t a n k c (e ∷ es) h = go (fits t a n k e) refl (name_from (suc c) es t a n k) h (name_from_row t a n k (suc c) es)
  where
    go : (b : Bool) → fits t a n k e ≡ b → (rest : ℕ) → (if b c rest ≡ 0 → ⊥) → ((rest ≡ 0 → ⊥) → Row t a n k (suc c) es rest)
        → Row t a n k c (e ∷ es) (if b c rest)
    go true q rest l row =
        let z : c - c ≡ 0 = omega arith in
        record { low = omega arith; high = omega arith; fit = rw z q }
    go false q rest l row =
        let r = row l in
        let z : rest - c ≡ suc (rest - suc c) = omega arith in
        record { low = omega arith; high = omega arith; fit = rw z r.fit }

-- ---- name_of

module _ (t a n : ℕ) (k : Kind) where
  -- a name other than 0 is the code of a row that fits, and so of one with exactly these values
  pub name_fits : (code : ℕ) → name_of t a n k ≡ code → (code ≡ 0 → ⊥) → (1 ≤ code) × (code ≤ highest) × (fits t a n k (entry_of code) ≡ true)
  unfolding name_of entry_of
  name_fits code e h =
      let r : Row t a n k 1 table code = subst (Row t a n k 1 table) e (name_from_row t a n k 1 table (λ q. h (sym e ∙ q))) in
      (r.low, omega arith, rw (meant_other code h) r.fit)

  pub row_of_name : (code : ℕ) → name_of t a n k ≡ code → (code ≡ 0 → ⊥) → (1 ≤ code) × (code ≤ highest) × Has t a n k (entry_of code)
  row_of_name code e h = let r = name_fits code e h in (r.0, r.1, fits_has t a n k (entry_of code) r.2)

abbrev pub name_of_row : Entry → ℕ
name_of_row e = name_of e.total e.active e.rows e.kind

-- a row's own values name it
pub name_of_meant : (code : ℕ) → raster_ok code ≡ true → name_of_row (entry_of code) ≡ meant code
unfolding entry_of name_of name_from
name_of_meant code ok =
    let r = meant_range code ok in
    let s : suc (meant code - 1) ≡ meant code = omega arith in
    eqb→eq _ _ (below (λ i. eqb (name_of_row (get_or table i no_entry)) (suc i)) highest tt (meant code - 1) (omega arith)) ∙ s

pub name_of_row_is_code : (code : ℕ) → 1 ≤ code → code ≤ highest → name_of_row (entry_of code) ≡ code
name_of_row_is_code code l h = name_of_meant code (le-leb code highest h) ∙ meant_other code (λ e. omega arith)

module _ (t a n : ℕ) (k : Kind) where
  pub name_of_fit : (code : ℕ) → raster_ok code ≡ true → fits t a n k (entry_of code) ≡ true → name_of t a n k ≡ meant code
  name_of_fit code ok e =
      let h = fits_has t a n k (entry_of code) e in
      rw (← h.total, ← h.active, ← h.rows, ← h.kind) (name_of_meant code ok)

  -- the name is 0 exactly when no row fits
  pub zero_no_fit : name_of t a n k ≡ 0 → (code : ℕ) → raster_ok code ≡ true → fits t a n k (entry_of code) ≡ false
  zero_no_fit z code ok = go (fits t a n k (entry_of code)) (name_of_fit code ok)
    where
      go : (b : Bool) → (b ≡ true → name_of t a n k ≡ meant code) → b ≡ false
      go true f = let r = meant_range code ok in absurd (omega (arith, f refl))
      go false f = refl

  pub no_fit_zero : ((code : ℕ) → raster_ok code ≡ true → fits t a n k (entry_of code) ≡ false) → name_of t a n k ≡ 0
  no_fit_zero f = go (eqb (name_of t a n k) 0) (eqb-true (name_of t a n k) 0) (eqb-false (name_of t a n k) 0)
    where
      go : (b : Bool) → (b ≡ true → name_of t a n k ≡ 0) → (b ≡ false → name_of t a n k ≡ 0 → ⊥) → name_of t a n k ≡ 0
      go true e h = e refl
      go false e h =
          let r = name_fits t a n k (name_of t a n k) refl (h refl) in
          absurd (false_not_true (sym (f (name_of t a n k) (le-leb (name_of t a n k) highest r.1)) ∙ r.2))

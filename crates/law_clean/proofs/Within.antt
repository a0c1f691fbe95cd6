-- A stretch of a running signal that starts with a row, after bits without an EAV, and ends anywhere: no fault, and enough rows.
use mathlib.Core.Path.{◌≡◌, refl, sym, ap, subst, ◌∙◌}
use mathlib.Core.Bool.{Bool, true}
use mathlib.Core.List.{List, [], ◌∷◌, ◌++◌, append_assoc}
use Prim.Native.Nat.{ℕ, zero, suc, ◌+◌, ◌-◌, ◌*◌, ◌≤◌, min}
use native.Mathlib.Omega.{arith}
use lib.ListN.{length, take, drop, length-append, length-take, length-drop, take-append-drop}
use lib.Seq.{take-append-le, drop-append-le, take-append_seam, drop-append_seam}
use Rattle.bits.proofs.Choice.{and-true}
use Rattle.bits.proofs.Bits.{length-word_bits}
use Rattle.raster.specs.Table.{total_of}
use Rattle.raster.specs.Lines.{line_refusal}
use Rattle.cable.specs.Channels.{paired}
use Rattle.plan.specs.Plan.{plan_of}
use Rattle.row.specs.Before.{Carry, carry_ok}
use Rattle.judging.specs.Happening.{line_after}
use Rattle.judging.proofs.Lines.{line_after_ok}
use Rattle.tally.specs.declared.Counts.{Counts}
use Rattle.tally.specs.Tally.{ceiling}
use Rattle.stepper.specs.Step.{Run}
use Rattle.stepper.proofs.Stepping.{steps_of_append}
use Rattle.law_module.specs.Module.{listed, begun_run, after_bits}
use Rattle.law_clean.specs.Signal.{Content, lawful_row, row_bits, carry_from, signal_bits, lawful, NoEav, faultless}
use Rattle.law_clean.proofs.Verdicts.{ys_of, cs_of, LawfulRow, length_ys, length_cs}
use Rattle.law_clean.proofs.Sequence.{carry_from_ok, lawful_row_holds, total_low, After}
use Rattle.law_clean.proofs.Tail.{Told}
use Rattle.law_clean.proofs.Clean.{rows_after}
use Rattle.law_clean.proofs.Growing.{Further, steps_further}

-- ---- lists of which one begins with the other

module _ (xs ys ws zs : List Bool) (same : xs ++ ys ≡ ws ++ zs) (shorter : length xs ≤ length ws) where
  pub front_split : ws ≡ xs ++ drop (length xs) ws
  front_split =
      sym (take-append-drop (length xs) ws)
      ∙ ap (λ (l : List Bool). l ++ drop (length xs) ws)
      (sym (take-append-le (length xs) ws zs shorter) ∙ ap (take (length xs)) (sym same) ∙ take-append_seam xs ys)

  pub front_rest : ys ≡ drop (length xs) ws ++ zs
  front_rest = sym (drop-append_seam xs ys) ∙ ap (drop (length xs)) same ∙ drop-append-le (length xs) ws zs shorter

-- ---- how long a row is

length-paired : (cs ys : List ℕ) → length cs ≡ length ys → length (paired cs ys) ≡ 2 * length cs
unfolding paired
length-paired [] ys e = refl
length-paired (c ∷ cs) [] e = absurd (omega arith)
length-paired (c ∷ cs) (y ∷ ys) e = let r = length-paired cs ys (omega arith) in omega arith

abbrev pub row_length : ℕ → ℕ
row_length code = 20 * total_of code

pub length_row : (code line : ℕ) (carry : Carry) (k : Content) → LawfulRow code line carry k
    → length (row_bits (plan_of code line) carry k) ≡ row_length code
length_row code line carry k row =
    let c = length_cs code line carry k row in
    let y = length_ys code line carry k row in
    let e = length-paired (cs_of code line carry k) (ys_of code line carry k) (c ∙ sym y) in
    omega (arith, length-word_bits (paired (cs_of code line carry k) (ys_of code line carry k)))

-- ---- the rows that stand whole at the start of such a stretch

record Front (code line : ℕ) (carry : Carry) (n : ℕ) (ks : List Content) (bs : List Bool) : Type 0 where
  enough : n ≤ length ks
  right : lawful code line (take n ks) ≡ true
  rest : List Bool
  split : bs ≡ signal_bits code line carry (take n ks) ++ rest

front : (n : ℕ) (code line : ℕ) (carry : Carry) (ks : List Content) (bs after : List Bool) → line_refusal code line ≡ 0 → carry_ok carry ≡ true
    → lawful code line ks ≡ true → signal_bits code line carry ks ≡ bs ++ after → n * row_length code ≤ length bs → Front code line carry n ks bs
unfolding signal_bits lawful
front zero code line carry ks bs after ok registers right same long = record { enough = omega arith; right = refl; rest = bs; split = refl }
front (suc n) code line carry [] bs after ok registers right same long =
    absurd (omega (arith, ap length same, length-append bs after, total_low code line ok))
front (suc n) code line carry (k ∷ ks) bs after ok registers right same long =
    let g = and-true (lawful_row (plan_of code line) k) _ right in
    let row = row_bits (plan_of code line) carry k in
    let e = length_row code line carry k (lawful_row_holds code line carry k ok registers g.0) in
    let l = line_after code line in
    let later = signal_bits code l (carry_from k) ks in
    let fits : length row ≤ length bs = omega arith in
    let bs' = drop (length row) bs in
    let r =
    front n code l (carry_from k) ks bs' after (line_after_ok code line ok) (carry_from_ok k) g.1
    (front_rest row later bs after same fits) (omega (arith, length-drop (length row) bs)) in
    record {
      enough = omega (arith, r.enough);
      right = rw g.0 r.right;
      rest = r.rest;
      split =
          front_split row later bs after same fits
          ∙ ap (λ (b : List Bool). row ++ b) r.split
          ∙ sym (append_assoc row (signal_bits code l (carry_from k) (take n ks)) r.rest);
    }

-- ---- what end looks at

pub record Fine (rows : ℕ) (x : Run) : Type 0 where
  pub faults : x.state.counts.faults ≡ 0
  pub enough : min rows ceiling ≤ x.state.counts.rows
  pub seen : x.state.sight.window.seen ≡ true

told : {code rows : ℕ} {x : Run} → After code rows x → Told (faultless rows) x
told a =
    record {
      counts = ap (λ (x : Run). x.state.counts) a.stands.same;
      seen = ap (λ (x : Run). x.state.sight.window.seen) a.stands.same;
    }

module _ (code line : ℕ) (carry : Carry) (p : List Bool) (ok : line_refusal code line ≡ 0) (registers : carry_ok carry ≡ true) (before : NoEav p) where
  after_all : (ks : List Content) → 2 ≤ length ks → lawful code line ks ≡ true
      → Told (faultless (length ks - 2)) (after_bits code (p ++ signal_bits code line carry ks))
  after_all [] some right = absurd (omega arith)
  after_all (k ∷ []) some right = absurd (omega arith)
  after_all (k ∷ next ∷ ks) some right =
      let e : length ks ≡ length (k ∷ next ∷ ks) - 2 = omega arith in
      rw (steps_of_append listed code (total_of code) p (signal_bits code line carry (k ∷ next ∷ ks)) begun_run, ← e)
      (told (rows_after code line carry k next ks p ok registers right before))

  further : (bs rest : List Bool) → Further (after_bits code (p ++ bs)) (after_bits code (p ++ (bs ++ rest)))
  further bs rest =
      rw (← append_assoc p bs rest, steps_of_append listed code (total_of code) (p ++ bs) rest begun_run)
      (steps_further code (total_of code) rest (after_bits code (p ++ bs)))

  pub within_fine : (ks : List Content) (rows : ℕ) (bs after : List Bool) → lawful code line ks ≡ true → signal_bits code line carry ks ≡ bs ++ after
      → (rows + 2) * row_length code ≤ length bs → Fine rows (after_bits code (p ++ bs))
  within_fine ks rows bs after right same long =
      let n = rows + 2 in
      let f = front n code line carry ks bs after ok registers right same long in
      let whole = signal_bits code line carry (take n ks) in
      let first = after_all (take n ks) (omega (arith, length-take n ks, f.enough)) f.right in
      let all = after_all ks (omega (arith, f.enough)) right in
      let from = subst (λ (b : List Bool). Further (after_bits code (p ++ whole)) (after_bits code (p ++ b))) (sym f.split) (further whole f.rest) in
      let to = subst (λ (b : List Bool). Further (after_bits code (p ++ bs)) (after_bits code (p ++ b))) (sym same) (further bs after) in
      record {
        faults = omega (arith, to.counts.faults, ap (λ (n : Counts). n.faults) all.counts);
        enough = omega (arith, from.counts.rows, ap (λ (n : Counts). n.rows) first.counts, length-take n ks, f.enough);
        seen = from.seen first.seen;
      }

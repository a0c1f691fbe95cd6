-- Laws of rows that are built line after line: each is judged by the EAV of the next.
use mathlib.Core.Path.{◌≡◌, refl, ap, subst, ◌∙◌}
use mathlib.Core.Bool.{Bool, true, false}
use mathlib.Core.List.{List, [], ◌∷◌}
use mathlib.Core.Logic.{◌⊎◌, inr}
use Prim.Native.Nat.{ℕ, suc, ◌+◌, ◌≤◌, ◌<◌, min}
use native.Mathlib.Omega.{arith}
use native.Mathlib.Decide.{dec_lt}
use lib.ListN.{length}
use borrow.Author.Tests.{lt-ltb, le-ltb}
use Rattle.bits.proofs.Choice.{and-true}
use Rattle.raster.specs.Table.{total_of}
use Rattle.raster.specs.Lines.{line_refusal}
use Rattle.raster.proofs.Table.{looked_up_range}
use Rattle.raster.proofs.Lines.{line_refusal_ok}
use Rattle.crc.proofs.Range.{crc_words_ok}
use Rattle.plan.specs.Plan.{plan_of}
use Rattle.stream.specs.Words.{y_blank, c_blank, trs}
use Rattle.row.specs.Before.{Carry, carried, carry_ok}
use Rattle.row.proofs.Rows.{carried_ok}
use Rattle.law_row.proofs.NoFlag.{OwnOrNone}
use Rattle.judging.specs.declared.Track.{Track}
use Rattle.judging.specs.declared.Happened.{Happened}
use Rattle.judging.specs.Happening.{line_after, happenings}
use Rattle.judging.proofs.Lines.{line_after_ok}
use Rattle.tally.specs.declared.Counts.{Counts}
use Rattle.tally.specs.Tally.{ceiling, raised, no_counts, tallied}
use Rattle.stepper.specs.Step.{Run, steps}
use Rattle.stepper.proofs.Stepping.{steps_of_append}
use Rattle.law_module.specs.Module.{listed}
use Rattle.law_clean.specs.Signal.{Content, lawful_row, row_bits, carry_from, signal_bits, lawful, faultless}
use Rattle.law_clean.proofs.Stretch.{sent, Stands, eav_code}
use Rattle.law_clean.proofs.Built.{lawful_channel_holds, codes}
use Rattle.law_clean.proofs.Verdicts.{ys_of, cs_of, LawfulRow, right_row, whole_built}
use Rattle.law_clean.proofs.Rests.{through, row_rest, steps_row}

-- ---- carries

pub carry_from_ok : (k : Content) → carry_ok (carry_from k) ≡ true
carry_from_ok k = rw (crc_words_ok k.y.active, crc_words_ok k.c.active)

pub lawful_row_holds : (code line : ℕ) (carry : Carry) (k : Content) → line_refusal code line ≡ 0 → carry_ok carry ≡ true
    → lawful_row (plan_of code line) k ≡ true → LawfulRow code line carry k
lawful_row_holds code line carry k ok right good =
    let r = carried_ok carry right in
    let b = carried carry in
    let l = and-true _ _ good in
    record {
      ok = ok;
      y = lawful_channel_holds code line ok b.known b.y y_blank k.y r.0 (λ e. omega arith) (omega arith) l.0;
      c = lawful_channel_holds code line ok b.known b.c c_blank k.c r.1 (λ e. omega arith) (omega arith) l.1;
    }

pub total_low : (code line : ℕ) → line_refusal code line ≡ 0 → 1 ≤ total_of code
total_low code line ok = omega (arith, (looked_up_range code (line_refusal_ok code line ok).0).total_low)

-- ---- row after row

-- a row whose T pairs have ended, what is expected of it, and whether its CRC words will be judged
pub record Full (code line : ℕ) (carry : Carry) (known : Bool) (k : Content) (n : Counts) (x : Run) : Type 0 where
  pub row : LawfulRow code line carry k
  pub track : Track
  pub expected : (track.line ≡ 0) ⊎ (track.line ≡ line)
  pub own : OwnOrNone carry track.carry
  pub judged : (carried track.carry).known ≡ known
  pub stands : Stands 0 (total_of code) 0 track n (ys_of code line carry k) (cs_of code line carry k) x

-- the counts after it was judged
abbrev judged_counts : Bool → Counts → Counts
judged_counts known n = record { rows = raised known n.rows; faults = n.faults }

module _ (code line : ℕ) (carry : Carry) (known : Bool) (k next : Content) (n : Counts) (x : Run) where
  row_next : Full code line carry known k n x → lawful_row (plan_of code (line_after code line)) next ≡ true
      → Full code (line_after code line) (carry_from k) true next (judged_counts known n)
      (through code (row_bits (plan_of code (line_after code line)) (carry_from k) next) x)
  unfolding tallied
  row_next f good =
      let l = line_after code line in
      let row = lawful_row_holds code l (carry_from k) next (line_after_ok code line f.row.ok) (carry_from_ok k) good in
      let is = codes code l row.ok in
      let right = whole_built code line carry k f.row f.track f.expected f.own ∙ ap (λ (b : Bool). right_row code line b k) f.judged in
      let e = (plan_of code l).codes.eav in
      let opens = eav_code code (total_of code) f.track n e 0 (ys_of code line carry k) (cs_of code line carry k) x is.eav_low is.eav_is in
      let s = opens (total_low code line f.row.ok) f.stands in
      let t = (right_row code line known k).track in
      let m = judged_counts known n in
      let x1 = sent code (total_of code) (trs e) (trs e) x in
      let judged = subst (λ (h : Happened). Stands e 4 0 h.track (tallied (happenings h.happening) n) (trs e) (trs e) x1) right s in
      record {
        row = row;
        track = t;
        expected = inr refl;
        own = λ b. refl;
        judged = refl;
        stands = rw (steps_row code l (carry_from k) next x) (row_rest code l (carry_from k) next row t m x1 judged);
      }

-- the last row's T pairs have ended, and so many rows have counted
pub record After (code rows : ℕ) (x : Run) : Type 0 where
  pub track : Track
  pub y : List ℕ
  pub c : List ℕ
  pub stands : Stands 0 (total_of code) 0 track (faultless rows) y c x

pub steps_rows : (code line : ℕ) (carry : Carry) (k : Content) (ks : List Content) (x : Run)
    → through code (signal_bits code line carry (k ∷ ks)) x
    ≡ through code (signal_bits code (line_after code line) (carry_from k) ks) (through code (row_bits (plan_of code line) carry k) x)
unfolding signal_bits
steps_rows code line carry k ks x =
    steps_of_append listed code (total_of code) (row_bits (plan_of code line) carry k) (signal_bits code (line_after code line) (carry_from k) ks) x

-- one row more, up to the ceiling
one_more : (rows : ℕ) → judged_counts true (faultless rows) ≡ faultless (rows + 1)
one_more rows = go (dec_lt rows ceiling)
  where
    go : Dec (rows < ceiling) → judged_counts true (faultless rows) ≡ faultless (rows + 1)
    go (yes l) =
        let e : min rows ceiling + 1 ≡ min (rows + 1) ceiling = omega arith in
        rw (lt-ltb (min rows ceiling) ceiling (omega arith)) (ap (λ (r : ℕ). record { rows = r; faults = 0 }) e)
    go (no g) =
        let e : min rows ceiling ≡ min (rows + 1) ceiling = omega arith in
        rw (le-ltb (min rows ceiling) ceiling (omega arith)) (ap (λ (r : ℕ). record { rows = r; faults = 0 }) e)

-- each row whose CRC words are judged counts
known_rows : (ks : List Content) (code line : ℕ) (carry : Carry) (k : Content) (rows : ℕ) (x : Run)
    → Full code line carry true k (faultless rows) x → lawful code (line_after code line) ks ≡ true
    → After code (rows + length ks) (through code (signal_bits code (line_after code line) (carry_from k) ks) x)
unfolding steps signal_bits lawful
known_rows [] code line carry k rows x f good =
    let e : rows ≡ rows + 0 = omega arith in
    subst (λ (r : ℕ). After code r x) e (record { track = f.track; y = ys_of code line carry k; c = cs_of code line carry k; stands = f.stands })
known_rows (next ∷ ks) code line carry k rows x f good =
    let l = line_after code line in
    let g = and-true (lawful_row (plan_of code l) next) _ good in
    let e : rows + 1 + length ks ≡ rows + suc (length ks) = omega arith in
    let x' = through code (row_bits (plan_of code l) (carry_from k) next) x in
    subst (λ (r : ℕ). After code r (through code (signal_bits code l (carry_from k) (next ∷ ks)) x)) e
    (rw (steps_rows code l (carry_from k) next ks x)
    (known_rows ks code l (carry_from k) next (rows + 1) x'
    (subst (λ (n : Counts). Full code l (carry_from k) true next n x') (one_more rows) (row_next code line carry true k next (faultless rows) x f g.0))
    g.1))

-- from the first row, whose CRC words are not judged: the second is the first that counts
pub all_rows : (code line : ℕ) (carry : Carry) (k next : Content) (ks : List Content) (x : Run)
    → Full code line carry false k no_counts x → lawful code (line_after code line) (next ∷ ks) ≡ true
    → After code (length ks) (through code (signal_bits code (line_after code line) (carry_from k) (next ∷ ks)) x)
unfolding lawful
all_rows code line carry k next ks x f good =
    let l = line_after code line in
    let g = and-true (lawful_row (plan_of code l) next) _ good in
    let e : 0 + length ks ≡ length ks = omega arith in
    subst (λ (r : ℕ). After code r (through code (signal_bits code l (carry_from k) (next ∷ ks)) x)) e
    (rw (steps_rows code l (carry_from k) next ks x)
    (known_rows ks code l (carry_from k) next 0 _ (row_next code line carry false k next no_counts x f g.0) g.1))

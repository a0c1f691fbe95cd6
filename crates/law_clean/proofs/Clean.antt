-- A clean signal passes.
use mathlib.Core.Path.{◌≡◌, refl, sym, ap, subst, ◌∙◌}
use mathlib.Core.Bool.{Bool, true, false}
use mathlib.Core.List.{List, [], ◌∷◌, ◌++◌}
use mathlib.Core.Logic.{inl}
use Prim.Native.Nat.{ℕ, zero, suc, ◌-◌, ◌≤◌, ◌<◌, min}
use native.Mathlib.Omega.{arith}
use lib.ListN.{length, length-append}
use borrow.Author.Tests.{le-ltb}
use Rattle.bits.proofs.Choice.{and-true, false_not_true}
use Rattle.raster.specs.Table.{raster_given, entry_of, total_of, rows_of}
use Rattle.raster.specs.Lines.{line_refusal}
use Rattle.raster.proofs.Table.{looked_up_range}
use Rattle.raster.proofs.Lines.{line_refusal_ok}
use Rattle.plan.specs.Plan.{plan_of}
use Rattle.row.specs.Before.{Carry, carry_ok}
use Rattle.recogniser.proofs.Windows.{last_of}
use Rattle.judging.specs.Happening.{no_track, line_after}
use Rattle.tally.specs.Tally.{ceiling, no_counts}
use Rattle.stepper.specs.Step.{Run}
use Rattle.stepper.proofs.Stepping.{steps_of_append}
use Rattle.law_module.specs.Module.{listed, begun_run, answer_in, after_bits, bits_of, module_of}
use Rattle.law_clean.specs.Signal.{Content, lawful_row, row_bits, carry_from, signal_bits, lawful, NoEav, OnlyAtStart, CleanCapture, faultless, passed, CleanPasses}
use Rattle.law_clean.proofs.Built.{codes}
use Rattle.law_clean.proofs.Verdicts.{LawfulRow}
use Rattle.law_clean.proofs.Rests.{through, row_rest, steps_row, row_long}
use Rattle.law_clean.proofs.Sequence.{lawful_row_holds, total_low, Full, After, steps_rows, all_rows}
use Rattle.law_clean.proofs.Start.{slides_start, first_code}
use Rattle.law_clean.proofs.Tail.{steps_last, Told, tail}

-- rows after bits without an EAV
module _ (code line : ℕ) (carry : Carry) (k next : Content) (ks : List Content) (p : List Bool)
    (line_ok : line_refusal code line ≡ 0)
    (carry_is_ok : carry_ok carry ≡ true)
    (right : lawful code line (k ∷ next ∷ ks) ≡ true)
    (before : NoEav p)
  where
    parts : (lawful_row (plan_of code line) k ≡ true) × (lawful code (line_after code line) (next ∷ ks) ≡ true)
    unfolding lawful
    parts = and-true (lawful_row (plan_of code line) k) _ right

    row : LawfulRow code line carry k
    row = lawful_row_holds code line carry k line_ok carry_is_ok parts.0

    -- judged without a carry, whatever it was built with
    first_row_is : Full code line carry false k no_counts (through code (row_bits (plan_of code line) carry k) (through code p begun_run))
    first_row_is =
        let is = codes code line line_ok in
        record {
          row = row;
          track = no_track;
          expected = inl refl;
          own = λ e. absurd (false_not_true e);
          judged = refl;
          stands =
              rw (steps_row code line carry k (through code p begun_run))
              (row_rest code line carry k row no_track no_counts _
              (first_code code (total_of code) p (plan_of code line).codes.eav before is.eav_low is.eav_is));
        }

    pub rows_after : After code (length ks) (through code (signal_bits code line carry (k ∷ next ∷ ks)) (through code p begun_run))
    rows_after =
        rw (steps_rows code line carry k (next ∷ ks) (through code p begun_run)) (all_rows code line carry k next ks _ first_row_is parts.1)

module _ (code line : ℕ) (carry : Carry) (k next : Content) (ks : List Content) (ws : List ℕ) (p q : List Bool)
    (clean : CleanCapture code line carry (k ∷ next ∷ ks) ws p q)
    (short : length q < 80)
    (only : OnlyAtStart (signal_bits code line carry (k ∷ next ∷ ks)) q)
  where
    abbrev rows : List Bool
    rows = signal_bits code line carry (k ∷ next ∷ ks)

    abbrev total : ℕ
    total = total_of code

    after_rows : After code (length ks) (through code rows (through code p begun_run))
    after_rows = rows_after code line carry k next ks p clean.line_ok clean.carry_is_ok clean.right clean.before

    rows_long : 60 ≤ length rows
    unfolding signal_bits
    rows_long =
        let later = signal_bits code (line_after code line) (carry_from k) (next ∷ ks) in
        omega (arith, length-append (row_bits (plan_of code line) carry k) later, row_long code line carry k)

    after_last : after_rows.stands.last ≡ last_of (p ++ rows)
    after_last =
        ap (λ (x : Run). x.state.sight.window.last) (sym after_rows.stands.same ∙ sym (steps_of_append listed code total p rows begun_run))
        ∙ steps_last code total (p ++ rows) begun_run
        ∙ slides_start (p ++ rows)

    told : Told (faultless (length ks)) (after_bits code (p ++ (rows ++ q)))
    told =
        let a = after_rows in
        rw (steps_of_append listed code total p (rows ++ q) begun_run, steps_of_append listed code total rows q (through code p begun_run))
        (tail code total (total_low code line clean.line_ok) a.track (faultless (length ks)) a.y a.c p rows q rows_long short only _
        a.stands.last a.stands.same after_last)

    -- end's answer
    passes : answer_in code (after_bits code (bits_of ws)) ≡ passed code (length ks)
    passes =
        let r = looked_up_range code (line_refusal_ok code line clean.line_ok).0 in
        rw (
          clean.split,
          told.counts,
          told.seen,
          le-ltb (min (length ks) ceiling) (rows_of code) (omega (arith, clean.count, r.rows_high)),
        )

-- ---- "Code 0 stands for 7"

plan_zero : (line : ℕ) → plan_of 0 line ≡ plan_of 7 line
unfolding plan_of raster_given entry_of
plan_zero line = refl

line_zero : (line : ℕ) → line_after 0 line ≡ line_after 7 line
unfolding raster_given entry_of
line_zero line = refl

pub signal_zero : (ks : List Content) (line : ℕ) (carry : Carry) → signal_bits 0 line carry ks ≡ signal_bits 7 line carry ks
unfolding signal_bits
signal_zero [] line carry = refl
signal_zero (k ∷ ks) line carry = rw (plan_zero line, line_zero line, signal_zero ks (line_after 7 line) (carry_from k))

pub lawful_zero : (ks : List Content) (line : ℕ) → lawful 0 line ks ≡ lawful 7 line ks
unfolding lawful
lawful_zero [] line = refl
lawful_zero (k ∷ ks) line = rw (plan_zero line, line_zero line, lawful_zero ks (line_after 7 line))

clean_zero : (line : ℕ) (carry : Carry) (ks : List Content) (ws : List ℕ) (p q : List Bool) → CleanCapture 0 line carry ks ws p q
    → CleanCapture 7 line carry ks ws p q
unfolding raster_given entry_of
clean_zero line carry ks ws p q clean =
    record {
      line_ok = clean.line_ok;
      carry_is_ok = clean.carry_is_ok;
      count = clean.count;
      right = sym (lawful_zero ks line) ∙ clean.right;
      split = clean.split ∙ ap (λ (s : List Bool). p ++ (s ++ q)) (signal_zero ks line carry);
      before = clean.before;
    }

-- ---- the theorem

-- with the code that is meant
code_passes : (code line : ℕ) (carry : Carry) (ks : List Content) (ws : List ℕ) (p q : List Bool) → CleanCapture code line carry ks ws p q → length q < 80
    → OnlyAtStart (signal_bits code line carry ks) q → answer_in code (after_bits code (bits_of ws)) ≡ passed code (length ks - 2)
code_passes code line carry [] ws p q clean short only = absurd (omega (arith, clean.count))
code_passes code line carry (k ∷ []) ws p q clean short only = absurd (omega (arith, clean.count))
code_passes code line carry (k ∷ next ∷ ks) ws p q clean short only =
    let e : length ks ≡ length (k ∷ next ∷ ks) - 2 = omega arith in
    passes code line carry k next ks ws p q clean short only ∙ ap (passed code) e

pub clean_passes : CleanPasses
unfolding CleanPasses module_of
clean_passes zero line carry ks ws p q clean short only =
    code_passes 7 line carry ks ws p q (clean_zero line carry ks ws p q clean) short
    (subst (λ (s : List Bool). OnlyAtStart s q) (signal_zero ks line carry) only)
clean_passes (suc n) line carry ks ws p q clean short only = code_passes (suc n) line carry ks ws p q clean short only

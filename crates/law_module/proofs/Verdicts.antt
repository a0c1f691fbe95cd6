-- What each verdict says of a module.
use mathlib.Core.Path.{◌≡◌, refl, subst}
use mathlib.Core.Bool.{Bool, true, false}
use mathlib.Core.List.{List, [], ◌∷◌, ◌++◌, append_assoc, append-nil}
use mathlib.Core.Logic.{◌↔◌}
use Prim.Native.Nat.{ℕ, ◌≤◌, ◌<◌}
use lib.Dec.{ltb, eqb}
use borrow.Author.Tests.{ltb-true, ltb-false, lt-ltb, le-ltb, eqb-true, eqb-false, eq-eqb, ne_eqb}
use Rattle.std.specs.Prelude.{None}
use Rattle.bits.specs.Choice.{if}
use Rattle.bits.specs.Bits.{word_bits}
use Rattle.raster.specs.Table.{meant, total_of, rows_of}
use Rattle.cable.specs.Words.{start_history, unscramble_words}
use Rattle.cable.proofs.Words.{unscramble_nil}
use Rattle.align.specs.Sync.{first_sync}
use Rattle.recogniser.specs.declared.Window.{Window}
use Rattle.recogniser.specs.Event.{looked}
use Rattle.recogniser.proofs.Windows.{Tied, tied_start, tied_after}
use Rattle.tally.specs.declared.Verdict.{Verdict}
use Rattle.tally.specs.declared.Verdict.TheVariants.{Refused, NoSignal, Fail, Short, Pass}
use Rattle.tally.specs.Tally.{no_counts}
use Rattle.stepper.specs.Step.{Run, Laying, stepped, steps}
use Rattle.law_module.specs.Module.{listed, begun_run, after_bits, bits_of, module_of}

-- ---- the window after bits

module _ (lay : Laying) (code total : ℕ) where
  pub tied_steps : (bs ds : List Bool) (x : Run) → Tied bs x.state.sight.window → Tied (bs ++ ds) (steps lay code total ds x).state.sight.window
  unfolding steps stepped looked
  tied_steps bs [] x t = rw append-nil t
  tied_steps bs (d ∷ ds) x t =
      subst (λ (l : List Bool). Tied l (steps lay code total (d ∷ ds) x).state.sight.window) (append_assoc bs (d ∷ []) ds)
      (tied_steps (bs ++ (d ∷ [])) ds (stepped lay code total d x) (tied_after bs x.state.sight.window d t))

-- ---- the verdicts

-- "A sync is .. found at any bit of the unscrambled stream": there is none
abbrev pub NoSync : List ℕ → Type 0
NoSync ws = first_sync (unscramble_words start_history ws) ≡ None

module _ (code : ℕ) (ws : List ℕ) where
  abbrev pub row_count : ℕ
  row_count = (module_of code ws).counts.rows

  abbrev pub fault_count : ℕ
  fault_count = (module_of code ws).counts.faults

  abbrev pub rows_meant : ℕ
  rows_meant = rows_of (meant code)

  -- "Verdict, first that holds: NO SIGNAL, no sync; FAIL, faults not 0; SHORT, rows below N; PASS."
  abbrev pub Says : Verdict → Type 0
  Says Refused = ⊥
  Says NoSignal = NoSync ws
  Says Fail = (NoSync ws → ⊥) × (fault_count ≡ 0 → ⊥)
  Says Short = (NoSync ws → ⊥) × (fault_count ≡ 0) × (row_count < rows_meant)
  Says Pass = (NoSync ws → ⊥) × (fault_count ≡ 0) × (rows_meant ≤ row_count)

  window : Window
  window = (after_bits (meant code) (bits_of ws)).state.sight.window

  tied : Tied (bits_of ws) window
  unfolding window
  tied = tied_steps listed (meant code) (total_of (meant code)) [] (bits_of ws) begun_run tied_start

  unseen : NoSync ws → window.seen ≡ false
  unfolding first_sync
  unseen n = go window.seen refl
    where
      go : (t : Bool) → window.seen ≡ t → t ≡ false
      go true e = absurd (tied.has_sync e n)
      go false e = refl

  seen : (NoSync ws → ⊥) → window.seen ≡ true
  unfolding first_sync
  seen g = go window.seen refl
    where
      go : (t : Bool) → window.seen ≡ t → t ≡ true
      go true e = refl
      go false e = absurd (g (tied.unseen e))

  says_own : Says (module_of code ws).verdict
  unfolding module_of window first_sync
  says_own = go window.seen (eqb fault_count 0) (ltb row_count rows_meant) refl refl refl
    where
      go : (s f r : Bool) → window.seen ≡ s → eqb fault_count 0 ≡ f → ltb row_count rows_meant ≡ r → Says (if s (if f (if r Short Pass) Fail) NoSignal)
      go true true true es ef er = (tied.has_sync es, eqb-true fault_count 0 ef, ltb-true row_count rows_meant er)
      go true true false es ef er = (tied.has_sync es, eqb-true fault_count 0 ef, ltb-false row_count rows_meant er)
      go true false r es ef er = (tied.has_sync es, eqb-false fault_count 0 ef)
      go false f r es ef er = tied.unseen es

  said_only : (v : Verdict) → Says v → (module_of code ws).verdict ≡ v
  unfolding module_of window
  said_only Refused h = absurd h
  said_only NoSignal h = rw (unseen h)
  said_only Fail h = rw (seen h.0, ne_eqb fault_count 0 h.1)
  said_only Short h = rw (seen h.0, eq-eqb fault_count 0 h.1, lt-ltb row_count rows_meant h.2)
  said_only Pass h = rw (seen h.0, eq-eqb fault_count 0 h.1, le-ltb row_count rows_meant h.2)

  pub verdict_exactly : (v : Verdict) → (module_of code ws).verdict ≡ v ↔ Says v
  verdict_exactly v = (λ e. subst Says e says_own, said_only v)

  pub no_signal_exactly : (module_of code ws).verdict ≡ NoSignal ↔ first_sync (unscramble_words start_history ws) ≡ None
  no_signal_exactly = verdict_exactly NoSignal

-- ---- a module without words

pub module_of_no_words : (code : ℕ) → module_of code [] ≡ record { raster = meant code; counts = no_counts; verdict = NoSignal }
unfolding module_of word_bits steps
module_of_no_words code = rw (unscramble_nil start_history)

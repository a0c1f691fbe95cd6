-- A module whose faults are none at its end: nothing that happened was a fault.
use mathlib.Core.Path.{◌≡◌, refl, sym, ap, ◌∙◌}
use mathlib.Core.Bool.{Bool, true, false}
use mathlib.Core.List.{List, [], ◌∷◌}
use Prim.Native.Nat.{ℕ, ◌+◌, ◌≤◌}
use native.Mathlib.Omega.{arith}
use lib.Dec.{ltb}
use borrow.Author.Tests.{ltb-false}
use Rattle.bits.specs.Choice.{if}
use Rattle.parts.specs.Parts.{any}
use Rattle.judging.specs.declared.Happening.{Happening}
use Rattle.tally.specs.declared.Counts.{Counts}
use Rattle.stepper.specs.Step.{Run, steps, traced, Laying}
use Rattle.tally.specs.Tally.{is_fault, ceiling, raised, counted, tallied}
use Rattle.law_module.proofs.Tallies.{counts_of_happenings}
use Rattle.law_struck.proofs.Nones.{None}

-- ---- counts only go up

raised_zero : (one : Bool) (n : ℕ) → raised one n ≡ 0 → (one ≡ false) × (n ≡ 0)
raised_zero true n e = go (ltb n ceiling) e (ltb-false n ceiling)
  where
    go : (t : Bool) → if t (n + 1) n ≡ 0 → (t ≡ false → ceiling ≤ n) → (true ≡ false) × (n ≡ 0)
    go true q high = absurd (omega arith)
    go false q high = let l = high refl in absurd (omega arith)
raised_zero false n e = (refl, e)

tallied_none : (hs : List Happening) (n : Counts) → (tallied hs n).faults ≡ 0 → None is_fault hs × (n.faults ≡ 0)
unfolding tallied any
tallied_none [] n e = (refl, e)
tallied_none (h ∷ hs) n e =
    let rest = tallied_none hs (counted h n) e in
    let this = raised_zero (is_fault h) n.faults rest.1 in
    (rw this.0 rest.0, this.1)

module _ (lay : Laying) (code total : ℕ) where
  pub faults_none : (bs : List Bool) (x : Run) → (steps lay code total bs x).state.counts.faults ≡ 0 → None is_fault (traced lay code total bs x)
  faults_none bs x e =
      (tallied_none (traced lay code total bs x) x.state.counts
      (sym (ap (λ (n : Counts). n.faults) (counts_of_happenings lay code total bs x)) ∙ e)).0

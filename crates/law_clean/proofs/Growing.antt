-- Laws of what only grows: the counts, and that a sync was seen.
use mathlib.Core.Path.{◌≡◌, ap}
use mathlib.Core.Bool.{Bool, true, false}
use mathlib.Core.List.{List}
use Prim.Native.Nat.{ℕ, ◌+◌, ◌≤◌}
use native.Mathlib.Omega.{arith}
use lib.Dec.{ltb}
use Rattle.bits.specs.Choice.{if}
use Rattle.tally.specs.declared.Counts.{Counts}
use Rattle.tally.specs.Tally.{is_row, is_fault, ceiling, raised}
use Rattle.tally.proofs.Tallying.{tallied-happenings}
use Rattle.stepper.specs.Step.{Run, brought, stepped, steps}
use Rattle.law_module.specs.Module.{listed}
use Rattle.law_module.proofs.Folds.{steps_keep, seen_stays}

pub record Grown (m n : Counts) : Type 0 where
  pub rows : m.rows ≤ n.rows
  pub faults : m.faults ≤ n.faults

raised_grows : (one : Bool) (n : ℕ) → n ≤ raised one n
raised_grows true n = go (ltb n ceiling)
  where
    go : (t : Bool) → n ≤ if t (n + 1) n
    go true = omega arith
    go false = omega arith
raised_grows false n = omega arith

-- a run that is further than another
pub record Further (x z : Run) : Type 0 where
  pub counts : Grown x.state.counts z.state.counts
  pub seen : x.state.sight.window.seen ≡ true → z.state.sight.window.seen ≡ true

module _ (code total : ℕ) (m : Counts) where
  grown_step : (b : Bool) (x : Run) → Grown m x.state.counts → Grown m (stepped listed code total b x).state.counts
  unfolding stepped
  grown_step b x g =
      let h = (brought code total b x).happening in
      let n = x.state.counts in
      let e = tallied-happenings h n in
      record {
        rows = omega (arith, g.rows, raised_grows (is_row h) n.rows, ap (λ (n : Counts). n.rows) e);
        faults = omega (arith, g.faults, raised_grows (is_fault h) n.faults, ap (λ (n : Counts). n.faults) e);
      }

pub steps_further : (code total : ℕ) (bs : List Bool) (x : Run) → Further x (steps listed code total bs x)
steps_further code total bs x =
    let m = x.state.counts in
    let start : Grown m m = record { rows = omega arith; faults = omega arith } in
    record {
      counts = steps_keep listed code total (λ (z : Run). Grown m z.state.counts) (grown_step code total m) bs x start;
      seen = seen_stays listed code total bs x;
    }

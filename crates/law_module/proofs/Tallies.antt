-- Laws of the counts: they are those of the happenings, up to the ceiling.
use mathlib.Core.Path.{◌≡◌, refl, sym, ap, ap₂, ◌∙◌}
use mathlib.Core.Bool.{Bool, true, false, cond}
use mathlib.Core.List.{List, [], ◌∷◌, ◌++◌}
use Prim.Native.Nat.{ℕ, ◌+◌, ◌≤◌, ◌<◌, min}
use native.Mathlib.Omega.{arith}
use native.Mathlib.Nat.{zero-add}
use lib.Dec.{ltb}
use borrow.Author.Tests.{ltb-true, ltb-false}
use Rattle.std.specs.List.{count_by}
use Rattle.std.proofs.lemmas.List.Sums.{sum_by-cons}
use Rattle.bits.specs.Choice.{if}
use Rattle.raster.specs.Table.{meant, total_of}
use Rattle.judging.specs.declared.Happening.{Happening}
use Rattle.judging.specs.Happening.{happenings}
use Rattle.tally.specs.declared.Counts.{Counts}
use Rattle.tally.specs.Tally.{is_row, is_fault, ceiling, raised, no_counts, counted, tallied}
use Rattle.stepper.specs.Step.{Run, Laying, brought, stepped, steps, traced}
use Rattle.law_module.specs.Module.{listed, begun_run, happenings_of, bits_of, module_of}

-- ---- the happenings' counts

pub tallied_of_append : (hs gs : List Happening) (n : Counts) → tallied (hs ++ gs) n ≡ tallied gs (tallied hs n)
unfolding tallied
tallied_of_append [] gs n = refl
tallied_of_append (h ∷ hs) gs n = tallied_of_append hs gs (counted h n)

-- the counts after bits are those of what happened at these bits
pub counts_of_happenings : (lay : Laying) (code total : ℕ) (bs : List Bool) (x : Run)
    → (steps lay code total bs x).state.counts ≡ tallied (traced lay code total bs x) x.state.counts
unfolding steps traced stepped tallied
counts_of_happenings lay code total [] x = refl
counts_of_happenings lay code total (b ∷ bs) x =
    counts_of_happenings lay code total bs (stepped lay code total b x)
    ∙ sym
    (tallied_of_append (happenings (brought code total b x).happening) (traced lay code total bs (stepped lay code total b x)) x.state.counts)

-- ---- the ceiling

both : {r s f g : ℕ} → r ≡ s → f ≡ g → ◌≡◌ {A = Counts} (record { rows = r; faults = f }) (record { rows = s; faults = g })
both p q = ap₂ (λ (r f : ℕ). record { rows = r; faults = f }) p q

-- once there, a count stays there, whatever happens
raised_stays : (one : Bool) (n : ℕ) → n ≡ ceiling → raised one n ≡ ceiling
raised_stays true n e = rw e
raised_stays false n e = e

pub ceiling_stays : (hs : List Happening) (n : Counts)
    → (n.rows ≡ ceiling → (tallied hs n).rows ≡ ceiling) × (n.faults ≡ ceiling → (tallied hs n).faults ≡ ceiling)
unfolding tallied
ceiling_stays [] n = (λ e. e, λ e. e)
ceiling_stays (h ∷ hs) n =
    let rest = ceiling_stays hs (counted h n) in
    (λ e. rest.0 (raised_stays (is_row h) n.rows e), λ e. rest.1 (raised_stays (is_fault h) n.faults e))

-- .. and below it, it is the number of those that count
raised_counts : (one : Bool) (n m : ℕ) → n ≤ ceiling → (min ceiling (raised one n + m) ≡ min ceiling (n + (cond one 1 0 + m))) × (raised one n ≤ ceiling)
raised_counts true n m h = go (ltb n ceiling) (ltb-true n ceiling) (ltb-false n ceiling)
  where
    go : (t : Bool) → (t ≡ true → n < ceiling) → (t ≡ false → ceiling ≤ n)
        → (min ceiling (if t (n + 1) n + m) ≡ min ceiling (n + (1 + m))) × (if t (n + 1) n ≤ ceiling)
    go true below at = let l = below refl in (omega arith, omega arith)
    go false below at = let l = at refl in (omega arith, h)
raised_counts false n m h = (omega arith, h)

pub tally_counts : (hs : List Happening) (n : Counts) → n.rows ≤ ceiling → n.faults ≤ ceiling
    → tallied hs n ≡ record { rows = min ceiling (n.rows + count_by is_row hs); faults = min ceiling (n.faults + count_by is_fault hs) }
unfolding tallied
tally_counts [] n r f = let p : n.rows ≡ min ceiling (n.rows + 0) = omega arith in let q : n.faults ≡ min ceiling (n.faults + 0) = omega arith in both p q
tally_counts (h ∷ hs) n r f =
    let p = raised_counts (is_row h) n.rows (count_by is_row hs) r in
    let q = raised_counts (is_fault h) n.faults (count_by is_fault hs) f in
    simp sum_by-cons (tally_counts hs (counted h n) p.1 q.1 ∙ both p.0 q.0)

-- a module's counts
pub counts_of_module : (code : ℕ) (ws : List ℕ)
    → (module_of code ws).counts
    ≡ record {
      rows = min ceiling (count_by is_row (happenings_of (meant code) (bits_of ws)));
      faults = min ceiling (count_by is_fault (happenings_of (meant code) (bits_of ws)));
    }
unfolding module_of
counts_of_module code ws =
    let hs = happenings_of (meant code) (bits_of ws) in
    counts_of_happenings listed (meant code) (total_of (meant code)) (bits_of ws) begun_run
    ∙ tally_counts hs no_counts (omega arith) (omega arith)
    ∙ both (ap (min ceiling) (zero-add (count_by is_row hs))) (ap (min ceiling) (zero-add (count_by is_fault hs)))

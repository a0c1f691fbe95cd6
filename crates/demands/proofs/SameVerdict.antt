-- Two runs of the same raster and words answer the same.
use mathlib.Core.Path.{sym, ap, ◌∙◌}
use mathlib.Core.List.{List}
use Prim.Native.Nat.{ℕ}
use Rattle.law_module.specs.Module.{module_of}
use Rattle.demands.specs.Demands.{end_of, VerdictOwn, SameVerdict}
use Rattle.demands.proofs.VerdictOwn.{verdict_own}

pub same_verdict : SameVerdict
unfolding SameVerdict VerdictOwn
same_verdict code feeds others x z x_runs z_runs same =
    verdict_own code feeds x x_runs ∙ ap (λ (ws : List ℕ). end_of (module_of code ws)) same ∙ sym (verdict_own code others z z_runs)

use mathlib.Core.Path.{refl, sym, ap, ◌∙◌}
use borrow.Author.Rules.{rules}
use Rattle.refusal.proofs.Answers.{result_of_ok, result_of_err}
use Rattle.plan.specs.Plan.{plan_of}
use Rattle.region.specs.Ancillary.{ancillary}
use Rattle.finding.specs.Find.{found, IsFound, find_of}
use Rattle.finding.proofs.Finding.{found_or_else, found_or_none, find_of-refused, find_of-found}
use Rattle.finding.proofs.find.Goals as goal

pub returns-in_default : goal.returns-in_default
returns-in_default c =
    let at = c.args in
    sym (find_of-refused at.did at.sdid at.raster at.line at.y.now at.c.now (result_of_err _ _ (sym c.in_default.ensures)).0)

pub returns : goal.returns
returns c =
    let at = c.args in
    let ok = result_of_ok _ _ (sym c.in-Ok.ensures) in
    let plan = plan_of at.raster at.line in
    let in_y : IsFound c.find_channel.result (found at.did at.sdid (ancillary plan at.y.now)) = rw ok.1 at c.find_channel.ensures in
    let there : IsFound c.or_else.result (find_of at.raster at.line at.did at.sdid at.y.now at.c.now) =
    rw (find_of-found at.did at.sdid at.raster at.line at.y.now at.c.now ok.0) (found_or_else _ _ _ _ in_y c.or_else.ensures (λ q. search rules)) in
    ap (λ p. p.now) c.unwrap_or.ensures ∙ found_or_none c.or_else.result _ _ refl there

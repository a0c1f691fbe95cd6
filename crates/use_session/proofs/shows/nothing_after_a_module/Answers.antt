use mathlib.Core.Path.{ap, ◌∙◌}
use mathlib.Core.List.{[], ◌∷◌}
use Rattle.session.specs.Session.{ended}
use Rattle.law_module.specs.Runs.{Bench, bench, started, left}
use Rattle.law_module.proofs.Alone.{left_shut, left_in_range, ended_of_no_words}
use Rattle.use_session.proofs.Benches.{bench-begun}
use Rattle.use_session.proofs.shows.nothing_after_a_module.Goals as goal

pub returns : goal.returns
returns c =
    let a = c.args in
    let x = bench a.session a.y.now a.c.now in
    let feeds = a.earlier.now ∷ [] in
    let begun = bench-begun _ _ _ c.unwrap_or.ensures a.raster c.begin.ensures in
    λ h ok.
    c.end.ensures.answer
    ∙ ap (λ (z : Bench). ended z.session) (begun ∙ ap (started a.raster) c.module_in.ensures.after)
    ∙ ended_of_no_words a.raster ok (left a.before feeds x).session (left_shut a.before feeds x h) (left_in_range a.before feeds x h)

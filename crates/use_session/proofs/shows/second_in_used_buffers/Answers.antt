use mathlib.Core.Path.{sym, ap, ◌∙◌}
use mathlib.Core.List.{[], ◌∷◌}
use Rattle.session.specs.declared.Session.{Session}
use Rattle.law_module.specs.Runs.{bench, answered}
use Rattle.law_module.proofs.Alone.{second_alone}
use Rattle.use_session.proofs.shows.second_in_used_buffers.Goals as goal

pub returns : goal.returns
returns c =
    let a = c.args in
    let ws = a.words.now in
    λ h ok room other.
    c.module_in-second.ensures.answer
    ∙ ap (answered a.raster (ws ∷ [])) c.module_in.ensures.after
    ∙ second_alone a.raster ok a.before (a.earlier.now ∷ []) (bench a.session a.y.now a.c.now) (ws ∷ []) a.u.now a.d.now h room other
    ∙ sym (c.module_in-alone.ensures.answer ∙ ap (λ (s : Session). answered a.raster (ws ∷ []) (bench s a.u.now a.d.now)) c.fresh.ensures)

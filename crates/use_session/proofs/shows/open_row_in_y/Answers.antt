use mathlib.Core.Path.{ap, ◌∙◌}
use Rattle.std.specs.Prelude.{Result}
use Rattle.std.specs.Result.{result_unwrap_or}
use Rattle.refusal.specs.declared.Refusal.{Refusal}
use Rattle.session.specs.declared.Session.{Session}
use Rattle.law_module.proofs.Opened.{opened}
use Rattle.use_session.proofs.Held.{feed_holds_y}
use Rattle.use_session.proofs.shows.open_row_in_y.Goals as goal

pub returns : goal.returns
returns c =
    let a = c.args in
    let f = c.feed.ensures in
    λ ok w room.
    let s = c.unwrap_or.ensures
    ∙ ap (λ (r : Result Session Refusal). result_unwrap_or r c.fresh-closed.result) (opened a.raster ok c.fresh-closed.ensures c.begin.ensures) in
    feed_holds_y a.raster ok a.words.now a.y.now a.c.now w room _ s f.answer f.yrow

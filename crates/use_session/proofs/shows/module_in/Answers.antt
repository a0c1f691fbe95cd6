use mathlib.Core.Path.{ap, ◌∙◌}
use Rattle.std.proofs.Common.{rules}
use Rattle.law_module.specs.Runs.{bench, fed_once}
use Rattle.use_session.proofs.Benches.{bench-begun, bench-fed, bench-answered, bench-left}
use Rattle.use_session.proofs.shows.module_in.Goals as goal

pub returns : goal.returns
returns c =
    let a = c.args in
    let f = c.feed.ensures in
    let x = bench a.session a.y.now a.c.now in
    let begun = bench-begun a.session a.y.now a.c.now c.unwrap_or-begun.ensures a.raster c.begin.ensures in
    let fed = bench-fed _ _ _ c.unwrap_or-fed.ensures a.words.now f.answer f.yrow f.crow ∙ ap (fed_once a.words.now) begun in
    record {
      answer = bench-answered a.raster a.words.now x fed c.end-answer.ensures.answer;
      after = bench-left a.raster a.words.now x fed c.end-answer.ensures.answer {t = c.map_or.result} (search rules);
    }

use mathlib.Core.Path.{sym, ap, ap₂, ◌∙◌}
use mathlib.Core.List.{List}
use Prim.Native.Nat.{ℕ}
use Rattle.session.specs.Session.{ended}
use Rattle.law_module.specs.Runs.{Bench, bench, fed_once, fed_all, started}
use Rattle.use_session.proofs.Benches.{bench-begun, bench-fed}
use Rattle.use_session.proofs.Cut.{fed_once_twice}
use Rattle.use_session.proofs.shows.fed_in_two.Goals as goal

pub returns : goal.returns
unfolding fed_all
returns c =
    let a = c.args in
    let f = c.feed.ensures in
    let g = c.feed-2.ensures in
    let whole = c.module_in-whole.ensures in
    let begun = bench-begun a.session a.y.now a.c.now c.unwrap_or-begun.ensures a.raster c.begin.ensures in
    let one = bench-fed _ _ _ c.unwrap_or-one.ensures a.a.now f.answer f.yrow f.crow ∙ ap (fed_once a.a.now) begun in
    let two = bench-fed _ _ _ c.unwrap_or-two.ensures a.b.now g.answer g.yrow g.crow ∙ ap (fed_once a.b.now) one in
    λ e wa wb ey ec.
    let same = two ∙ fed_once_twice a.a.now a.b.now (started a.raster (bench a.session a.y.now a.c.now)) wa wb
    ∙ ap₂ (λ (l : List ℕ) (x : Bench). fed_once l x) (sym e) (ap₂ (λ (y c : List ℕ). started a.raster (bench a.session y c)) ey ec) in (
      c.end.ensures.answer ∙ ap (λ (z : Bench). ended z.session) same ∙ sym whole.answer,
      (ap (λ (z : Bench). z.y) same ∙ sym (ap (λ (z : Bench). z.y) whole.after), ap (λ (z : Bench). z.c) same ∙ sym (ap (λ (z : Bench). z.c) whole.after)),
    )

-- A module's verdict is its own.
use mathlib.Core.Path.{◌≡◌, ap, ◌∙◌}
use mathlib.Core.List.{List, [], ◌∷◌, append-nil, flat_map}
use Prim.Native.Nat.{ℕ}
use native.Mathlib.Omega.{arith}
use Rattle.raster.specs.Table.{total_of}
use Rattle.session.specs.Session.{ended, session_or}
use Rattle.law_module.specs.Module.{module_of}
use Rattle.law_module.specs.Runs.{Bench, fed_all, started}
use Rattle.law_module.proofs.Refusals.{begin_taken, feed_taken}
use Rattle.law_module.proofs.Between.{begun_opens}
use Rattle.law_module.proofs.Own.{total_of_meant}
use Rattle.parts.specs.Parts.{end_to_end}
use Rattle.demands.specs.Demands.{end_of, FeedsCut, sound, TakenAlone, VerdictOwn}
use Rattle.demands.proofs.FeedsCut.{feeds_cut}
use Rattle.demands.proofs.TakenAlone.{taken_alone}

pub verdict_own : VerdictOwn
unfolding VerdictOwn FeedsCut TakenAlone fed_all flat_map
verdict_own code feeds x runs =
    let ws = end_to_end feeds in
    let b = begin_taken x.session code runs.0 in
    let ready = feed_taken (started code x).session ws x.y x.c runs.1 in
    let room = ready.0 in
    let opened = begun_opens x.session code b.0 b.1 b.2 in
    let raster = ap (λ g. total_of (session_or x.session g).raster) opened ∙ total_of_meant code in
    let all : sound (ws ∷ []) ≡ ws = rw ready.1 (append-nil ws) in
    ap (λ (z : Bench). ended z.session) (feeds_cut feeds (started code x) runs.1)
    ∙ taken_alone code (ws ∷ []) x b.2 (b.0, b.1) (omega (arith, room.y_room_is, raster), omega (arith, room.c_room_is, raster))
    ∙ ap (λ (l : List ℕ). end_of (module_of code l)) all

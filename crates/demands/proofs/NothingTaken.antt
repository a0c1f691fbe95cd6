-- A module in buffers that are too short takes no feed.
use mathlib.Core.Path.{◌≡◌, refl, sym, ap, ◌∙◌}
use mathlib.Core.List.{List, [], ◌∷◌}
use Prim.Native.Nat.{ℕ}
use native.Mathlib.Omega.{arith}
use Rattle.raster.specs.Table.{total_of}
use Rattle.session.specs.Session.{feed_refusal, ended, session_or}
use Rattle.law_module.specs.Runs.{Bench, fed_once, fed_all, started}
use Rattle.law_module.proofs.Refusals.{feed_taken}
use Rattle.law_module.proofs.Between.{begun_opens}
use Rattle.law_module.proofs.Feeds.{ReadyOn}
use Rattle.law_module.proofs.Own.{total_of_meant}
use Rattle.law_module.proofs.Verdicts.{module_of_no_words}
use Rattle.demands.specs.Demands.{end_of, first_failed, NothingLeft, NothingTaken}
use Rattle.demands.proofs.EachCall.{each_call}
use Rattle.demands.proofs.NothingLeft.{nothing_left}

-- a feed is refused, and leaves all as it was
feed_kept : (ws : List ℕ) (x : Bench) → (ReadyOn x → ⊥) → fed_once ws x ≡ x
unfolding first_failed feed_refusal
feed_kept ws x short =
    let call = each_call.feed ws x in
    call.kept (λ e. short (feed_taken x.session ws x.y x.c (sym call.number ∙ e)).0)

all_kept : (feeds : List (List ℕ)) (x : Bench) → (ReadyOn x → ⊥) → fed_all feeds x ≡ x
unfolding fed_all
all_kept [] x short = refl
all_kept (ws ∷ feeds) x short = ap (fed_all feeds) (feed_kept ws x short) ∙ all_kept feeds x short

pub nothing-taken : NothingTaken
unfolding NothingTaken NothingLeft fed_all
nothing-taken code feeds x ok shut short =
    let opened = begun_opens x.session code shut.0 shut.1 ok in
    let raster = ap (λ g. total_of (session_or x.session g).raster) opened ∙ total_of_meant code in
    ap (λ (b : Bench). ended b.session)
    (all_kept feeds (started code x) (λ r. short (omega (arith, r.y_room_is, raster), omega (arith, r.c_room_is, raster))))
    ∙ nothing_left code x ok shut
    ∙ sym (ap end_of (module_of_no_words code))

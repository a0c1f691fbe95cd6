-- What end answers is that of the words of the feeds in which none is above 3FF: begin takes over nothing of a session that is not open.
use mathlib.Core.Path.{◌≡◌, refl, sym, ap, ◌∙◌}
use mathlib.Core.List.{List}
use Prim.Native.Nat.{ℕ}
use Rattle.session.specs.declared.Session.{Session}
use Rattle.session.specs.Session.{closed, ended, session_or}
use Rattle.law_module.specs.Module.{module_of}
use Rattle.law_module.specs.Runs.{Bench, bench, fed_all, started}
use Rattle.law_module.proofs.Ranges.{closed_in_range}
use Rattle.law_module.proofs.Between.{begun_opens}
use Rattle.law_module.proofs.Own.{answer_is_the_modules_own, taken_by_words}
use Rattle.demands.specs.Demands.{end_of, TakenAlone}

pub taken_alone : TakenAlone
unfolding TakenAlone
taken_alone code feeds x ok shut room =
    let fresh : started code x ≡ started code (bench closed x.y x.c) =
    ap (λ (s : Session). bench s x.y x.c)
    (ap (session_or x.session) (begun_opens x.session code shut.0 shut.1 ok) ∙ sym (ap (session_or closed) (begun_opens closed code refl closed_in_range ok))) in
    ap (λ (b : Bench). ended (fed_all feeds b).session) fresh
    ∙ answer_is_the_modules_own code feeds x.y x.c ok room.0 room.1
    ∙ ap (λ (ws : List ℕ). end_of (module_of code ws))
    (taken_by_words code ok feeds (bench closed x.y x.c) refl closed_in_range room.0 room.1)

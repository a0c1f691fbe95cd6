-- A module after another one answers what it answers alone.
use mathlib.Core.Path.{◌≡◌, refl, sym, ap, ◌∙◌}
use mathlib.Core.Bool.{true, false}
use mathlib.Core.List.{List}
use Prim.Native.Nat.{ℕ}
use native.Mathlib.Omega.{arith}
use Rattle.raster.specs.Table.{raster_ok}
use Rattle.session.specs.declared.Session.{Session}
use Rattle.session.specs.Session.{closed, in_range, begun_as, begun, ended, session_or}
use Rattle.law_module.specs.Runs.{Bench, bench, started, played, answered, left, Fits, nothing_in}
use Rattle.law_module.proofs.Refusals.{end_answers}
use Rattle.law_module.proofs.Ranges.{closed_in_range, begun_in_range, ended_in_range}
use Rattle.law_module.proofs.Between.{begun_opens, ended_shut}
use Rattle.law_module.proofs.Feeds.{fed_all_in_range, length-fed_all}
use Rattle.law_module.proofs.Own.{own, taken_by_words, answer_is_the_modules_own, second_is_its_own}
use Rattle.law_module.proofs.Opened.{opened_in_range}

-- what a module leaves is not open and in range
module _ (first : ℕ) (before : List (List ℕ)) (x : Bench) (h : in_range x.session ≡ true) where
  played_in_range : in_range (played first before x).session ≡ true
  played_in_range = fed_all_in_range before (started first x) (begun_in_range x.session first h)

  pub left_shut : (left first before x).session.running ≡ false
  left_shut = ended_shut (played first before x).session played_in_range

  pub left_in_range : in_range (left first before x).session ≡ true
  left_in_range = ended_in_range (played first before x).session played_in_range

module _ (code : ℕ) (ok : raster_ok code ≡ true) where
  pub second_alone : (first : ℕ) (before : List (List ℕ)) (x : Bench) (feeds : List (List ℕ)) (y c : List ℕ) → in_range x.session ≡ true
      → Fits code x.y x.c → Fits code y c → answered code feeds (left first before x) ≡ answered code feeds (bench closed y c)
  second_alone first before x feeds y c h room alone =
      let l = length-fed_all before (started first x) in
      let same = taken_by_words code ok feeds (left first before x) (left_shut first before x h) (left_in_range first before x h)
      (omega (arith, room.0)) (omega (arith, room.1)) in
      second_is_its_own first before x code feeds h ok room.0 room.1
      ∙ ap (own code) (same ∙ sym (taken_by_words code ok feeds (bench closed y c) refl closed_in_range alone.0 alone.1))
      ∙ sym (answer_is_the_modules_own code feeds y c ok alone.0 alone.1)

  -- begin and end, with no feed and no buffers
  pub ended_of_no_words : (s : Session) → s.running ≡ false → in_range s ≡ true → ended (session_or s (begun s code)) ≡ nothing_in code
  unfolding ended
  ended_of_no_words s shut h = rw (begun_opens s code shut h ok, end_answers (begun_as code) refl (opened_in_range code ok))

-- Demand 1: a module's verdict is its own.
use mathlib.Core.Path.{◌≡◌, refl, sym, ap, ◌∙◌}
use mathlib.Core.Bool.{true, false}
use mathlib.Core.List.{List, flat_map}
use Prim.Native.Nat.{ℕ, zero, suc, ◌≤◌, min}
use native.Mathlib.Omega.{arith}
use lib.ListN.{length}
use Rattle.std.specs.Prelude.{Result, Ok}
use Rattle.refusal.specs.declared.Refusal.{Refusal}
use Rattle.raster.specs.Table.{meant, raster_ok, total_of, rows_of}
use Rattle.raster.proofs.Table.{meant_ok, looked_up_range, raster_given_zero}
use Rattle.stepper.specs.declared.State.{State}
use Rattle.session.specs.declared.Ended.{Ended}
use Rattle.tally.specs.Tally.{verdict_of}
use Rattle.stepper.specs.Step.{run}
use Rattle.session.specs.Session.{start_state, closed, in_range, begun_as, fed_run, ended_as, ended}
use Rattle.law_module.specs.Module.{begun_run, after_bits, bits_of, module_of}
use Rattle.law_module.specs.Runs.{Bench, bench, fed_all, taken, started, played, answered, left}
use Rattle.law_module.proofs.Refusals.{end_answers}
use Rattle.law_module.proofs.Ranges.{closed_in_range, begun_in_range, ended_in_range}
use Rattle.law_module.proofs.Between.{begun_opens, ended_shut}
use Rattle.law_module.proofs.Feeds.{ReadyOn, fed_all_in_range, length-fed_all, ready-after_all}
use Rattle.law_module.proofs.Cuts.{lawful, fed_all_of_lawful, taken_are_lawful}
use Rattle.law_module.proofs.Follows.{steps_follow}

-- "End answers raster, both counts and verdict, and one closed session": those of the module's raster and words alone
abbrev pub own : ℕ → List ℕ → Result Ended Refusal
own code ws =
    Ok
    (record {
      raster = (module_of code ws).raster;
      counts = (module_of code ws).counts;
      verdict = (module_of code ws).verdict;
      session = closed;
    })

pub total_of_meant : (code : ℕ) → total_of (meant code) ≡ total_of code
total_of_meant zero = ap (λ r. r.layout.total) (sym raster_given_zero)
total_of_meant (suc n) = refl

-- what is answered of a state
abbrev told : ℕ → State → Ended
told code s =
    record {
      raster = code;
      counts = s.counts;
      verdict = verdict_of s.sight.window.seen (rows_of code) s.counts;
      session = closed;
    }

module _ (code : ℕ) (ok : raster_ok code ≡ true) where
  module _ (y c : List ℕ) (y_room_is : total_of (meant code) ≤ length y) (c_room_is : total_of (meant code) ≤ length c) where
    begun-ready : ReadyOn (bench (begun_as code) y c)
    begun-ready =
        record {
          running = refl;
          in_range_holds = rw (begun_opens closed code refl closed_in_range ok) at (begun_in_range closed code closed_in_range);
          y_room_is = y_room_is;
          c_room_is = c_room_is;
        }

    state_after : (ws : List ℕ) → (fed_run (begun_as code) ws y c).state ≡ (after_bits (meant code) (bits_of ws)).state
    unfolding fed_run
    state_after ws =
        let none : min 0 (total_of (meant code)) ≡ 0 = omega arith in
        (steps_follow (meant code) (total_of (meant code)) (omega (arith, (looked_up_range (meant code) (meant_ok code ok)).total_low)) (bits_of ws) (run start_state y c)
        begun_run record { state = refl; y = record { words = rw none; room = y_room_is }; c = record { words = rw none; room = c_room_is } }
        ).state

    begun-answers : (feeds : List (List ℕ)) → ended (fed_all feeds (bench (begun_as code) y c)).session ≡ own code (taken feeds (bench (begun_as code) y c))
    unfolding ended module_of
    begun-answers feeds =
        let x = bench (begun_as code) y c in
        let r = ready-after_all feeds x begun-ready in
        rw (taken_are_lawful feeds x begun-ready, end_answers (fed_all feeds x).session r.running r.in_range_holds)
        (ap (λ (z : Bench). Ok (ended_as z.session)) (fed_all_of_lawful feeds x begun-ready)
        ∙ ap (λ s. Ok (told (meant code) s)) (state_after (flat_map lawful feeds)))

  -- in any session that is not open, and in any buffers that a row fits into
  module _ (feeds : List (List ℕ)) (x : Bench) (shut : x.session.running ≡ false) (h : in_range x.session ≡ true)
      (y_room_is : total_of code ≤ length x.y) (c_room_is : total_of code ≤ length x.c) where
    answer_of_closed : answered code feeds x ≡ own code (taken feeds (started code x))
    answer_of_closed =
        let t = total_of_meant code in
        rw (begun_opens x.session code shut h ok) (begun-answers x.y x.c (omega arith) (omega arith) feeds)

    -- the words that are taken are told by the feeds alone
    pub taken_by_words : taken feeds (started code x) ≡ flat_map lawful feeds
    taken_by_words =
        let t = total_of_meant code in
        rw (begun_opens x.session code shut h ok)
        (taken_are_lawful feeds (bench (begun_as code) x.y x.c) (begun-ready x.y x.c (omega arith) (omega arith)))

pub answer_is_the_modules_own : (code : ℕ) (feeds : List (List ℕ)) (y c : List ℕ) → raster_ok code ≡ true → total_of code ≤ length y → total_of code ≤ length c
    → answered code feeds (bench closed y c) ≡ own code (taken feeds (started code (bench closed y c)))
answer_is_the_modules_own code feeds y c ok y_room_is c_room_is = answer_of_closed code ok feeds (bench closed y c) refl closed_in_range y_room_is c_room_is

-- .. also after another module, whatever its raster and feeds were, refused ones too, and whatever it left in the buffers
pub second_is_its_own : (first : ℕ) (before : List (List ℕ)) (x : Bench) (code : ℕ) (feeds : List (List ℕ)) → in_range x.session ≡ true → raster_ok code ≡ true
    → total_of code ≤ length x.y → total_of code ≤ length x.c
    → answered code feeds (left first before x) ≡ own code (taken feeds (started code (left first before x)))
second_is_its_own first before x code feeds h ok y_room_is c_room_is =
    let k = fed_all_in_range before (started first x) (begun_in_range x.session first h) in
    let l = length-fed_all before (started first x) in
    answer_of_closed code ok feeds (left first before x) (ended_shut (played first before x).session k) (ended_in_range (played first before x).session k)
    (omega arith) (omega arith)

-- Every number of a session stays in its range, whatever is called.
use mathlib.Core.Path.{◌≡◌, refl}
use mathlib.Core.Bool.{Bool, true}
use mathlib.Core.List.{List}
use Prim.Native.Nat.{ℕ}
use native.Mathlib.Omega.{arith}
use borrow.Author.Tests.{le-leb}
use Rattle.bits.specs.Bits.{word_bits}
use Rattle.raster.specs.Table.{highest, meant, raster_ok, total_of, rows_of}
use Rattle.raster.proofs.Table.{meant_range, looked_up_range}
use Rattle.cable.specs.Words.{unscramble_next, unscramble_words}
use Rattle.cable.proofs.Words.{unscramble_next_range}
use Rattle.parts.specs.Parts.{part}
use Rattle.session.specs.declared.Session.{Session}
use Rattle.stepper.specs.Step.{Run, run, Laying, recognised, stepped, steps}
use Rattle.session.specs.Session.{closed, sight_in, track_in, in_range, begin_refusal, begun_as, begun, feed_refusal, fed_run, fed_session, fed, ended, session_or, session_left}
use Rattle.session.proofs.Ranges.{in_range_holds, ranges}
use Rattle.session.proofs.Refusing.{ready_raster, feed_taken}
use Rattle.laying.specs.Laying.{laid_by}
use Rattle.law_module.proofs.Refusals.{begin_taken, left_in, left_at_end}
use Rattle.law_module.proofs.Folds.{steps_keep}
use Rattle.law_module.proofs.Sights.{sight_kept}
use Rattle.law_module.proofs.Tracks.{track_kept}

-- ---- bit after bit

Kept : ℕ → Run → Type 0
Kept code x = (sight_in (total_of code) x.state.sight ≡ true) × (track_in (rows_of code) x.state.track ≡ true)

stepped_in_range : (lay : Laying) (code : ℕ) → raster_ok code ≡ true → (b : Bool) (x : Run) → Kept code x → Kept code (stepped lay code (total_of code) b x)
unfolding Kept stepped
stepped_in_range lay code ok b x k = (
  sight_kept (total_of code) b x.state.sight (omega (arith, (looked_up_range code ok).total_low)) k.0,
  track_kept code ok (recognised (total_of code) b x).event x.state.track (part 0 (total_of code) x.y) (part 0 (total_of code) x.c) k.1,
)

steps_in_range : (lay : Laying) (code : ℕ) → raster_ok code ≡ true → (bs : List Bool) (x : Run) → Kept code x → Kept code (steps lay code (total_of code) bs x)
steps_in_range lay code ok = steps_keep lay code (total_of code) (Kept code) (stepped_in_range lay code ok)

-- ---- the calls

pub closed_in_range : in_range closed ≡ true
unfolding in_range
closed_in_range = refl

pub begun_in_range : (s : Session) (code : ℕ) → in_range s ≡ true → in_range (session_or s (begun s code)) ≡ true
unfolding begun in_range
begun_in_range s code h = left_in (λ z. in_range z ≡ true) s (begun_as code) (begin_refusal s code) h made
  where
    made : begin_refusal s code ≡ 0 → in_range (begun_as code) ≡ true
    made e = let r = meant_range code (begin_taken s code e).2 in rw (le-leb 1 (meant code) r.0, le-leb (meant code) highest r.1)

pub fed_in_range : (s : Session) (ws y c : List ℕ) → in_range s ≡ true → in_range (session_or s (fed s ws y c)) ≡ true
unfolding fed fed_run Kept
fed_in_range s ws y c h = left_in (λ z. in_range z ≡ true) s (fed_session s ws (fed_run s ws y c)) (feed_refusal s ws y c) h made
  where
    made : feed_refusal s ws y c ≡ 0 → in_range (fed_session s ws (fed_run s ws y c)) ≡ true
    made e =
        let r = ranges s h in
        let k = steps_in_range laid_by s.raster (ready_raster (feed_taken s ws y c e).0)
        (word_bits (unscramble_words s.history ws)) (run s.state y c) (r.sight, r.track) in
        in_range_holds (fed_session s ws (fed_run s ws y c))
        record {
          raster = r.raster;
          history = le-leb (unscramble_next s.history ws) 0x3ff (unscramble_next_range ws s.history);
          sight = k.0;
          track = k.1;
        }

pub ended_in_range : (s : Session) → in_range s ≡ true → in_range (session_left s (ended s)) ≡ true
ended_in_range s h = left_at_end (λ z. in_range z ≡ true) s h closed_in_range

-- a feed leaves open what is open, and its raster
pub fed_keeps : (s : Session) (ws y c : List ℕ) → ((session_or s (fed s ws y c)).running ≡ s.running) × ((session_or s (fed s ws y c)).raster ≡ s.raster)
unfolding fed
fed_keeps s ws y c =
    left_in (λ z. (z.running ≡ s.running) × (z.raster ≡ s.raster)) s (fed_session s ws (fed_run s ws y c)) (feed_refusal s ws y c) (refl, refl)
    (λ e. (refl, refl))

-- Runs of a session: begin, feeds, end, in lent buffers that nobody else writes in between.
use Rattle.std.specs.Prelude.{List, [], ◌∷◌, ◌++◌, ℕ, zero, suc, ◌≤◌, min, length, take, Result, Ok}
use Rattle.refusal.specs.declared.Refusal.{Refusal}
use Rattle.raster.specs.Table.{meant, total_of}
use Rattle.tally.specs.declared.Verdict.TheVariants.{NoSignal}
use Rattle.tally.specs.Tally.{no_counts}
use Rattle.stepper.specs.Step.{Run}
use Rattle.session.specs.declared.Session.{Session}
use Rattle.session.specs.declared.Ended.{Ended}
use Rattle.session.specs.Session.{closed, begun, feed_refusal, fed, fed_y, fed_c, ended, session_or, session_left}
use Rattle.law_module.specs.Module.{after_bits, bits_of}

-- a session between two calls, and the buffers then
pub record Bench : Type 0 where
  pub session : Session
  pub y : List ℕ
  pub c : List ℕ

abbrev pub bench : Session → List ℕ → List ℕ → Bench
bench s y c = record { session = s; y = y; c = c }

-- one feed
abbrev pub fed_once : List ℕ → Bench → Bench
fed_once ws x = bench (session_or x.session (fed x.session ws x.y x.c)) (fed_y x.session ws x.y x.c) (fed_c x.session ws x.y x.c)

-- feed after feed
unfoldable pub fed_all : List (List ℕ) → Bench → Bench
fed_all [] x = x
fed_all (ws ∷ feeds) x = fed_all feeds (fed_once ws x)

-- the words of a feed, if it answered 0
abbrev pub taken_if : ℕ → List ℕ → List ℕ
taken_if zero ws = ws
taken_if (suc n) ws = []

-- the words of the feeds that answered 0, in order
unfoldable pub taken : List (List ℕ) → Bench → List ℕ
taken [] x = []
taken (ws ∷ feeds) x = taken_if (feed_refusal x.session ws x.y x.c) ws ++ taken feeds (fed_once ws x)

-- begin with a raster
abbrev pub started : ℕ → Bench → Bench
started code x = bench (session_or x.session (begun x.session code)) x.y x.c

-- then feeds; what end answers; what is left for the next module
abbrev pub played : ℕ → List (List ℕ) → Bench → Bench
played code feeds x = fed_all feeds (started code x)

abbrev pub answered : ℕ → List (List ℕ) → Bench → Result Ended Refusal
answered code feeds x = ended (played code feeds x).session

abbrev pub left : ℕ → List (List ℕ) → Bench → Bench
left code feeds x = bench (session_left (played code feeds x).session (answered code feeds x)) (played code feeds x).y (played code feeds x).c

-- ---- what users of a run suppose and are told, in the paper's words

-- both row buffers are long enough for the raster's T
abbrev pub Fits : ℕ → List ℕ → List ℕ → Type 0
Fits code y c = (total_of code ≤ length y) × (total_of code ≤ length c)

-- "raster R rows 0 faults 0 NO SIGNAL"
abbrev pub nothing_in : ℕ → Result Ended Refusal
nothing_in code = Ok (record { raster = meant code; counts = no_counts; verdict = NoSignal; session = closed })

-- what a buffer holds of an open row: as many words as pairs have ended, at most T
abbrev pub open_row : ℕ → Session → List ℕ → List ℕ
open_row code s buffer = take (min s.state.sight.place.pairs (total_of code)) buffer

-- a module's own run of its words, in no buffers: its open row, one list a channel
abbrev pub run_of : ℕ → List ℕ → Run
run_of code ws = after_bits (meant code) (bits_of ws)

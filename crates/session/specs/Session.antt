-- "Begin (raster), feed (words), end (verdict)."
use Rattle.std.specs.Prelude.{Bool, true, false, not, ◌&&◌, List, [], ℕ, ◌+◌, leb, eqb, length, Result, Ok, Err}
use Rattle.refusal.specs.declared.Refusal.{Refusal}
use Rattle.refusal.specs.declared.Refusal.TheVariants.{OutOfTurn}
use Rattle.refusal.specs.Refusal.{result_of}
use Rattle.raster.specs.declared.Raster.{Raster}
use Rattle.bits.specs.Choice.{if}
use Rattle.bits.specs.Bits.{word_bits}
use Rattle.bits.specs.Words.{words10}
use Rattle.raster.specs.Table.{meant, raster_ok, raster_given, total_of, rows_of}
use Rattle.parts.specs.Parts.{unless_refused}
use Rattle.cable.specs.Words.{start_history, unscramble_next, unscramble_words}
use Rattle.row.specs.Before.{carried, carry_ok}
use Rattle.recogniser.specs.declared.Place.{Place}
use Rattle.recogniser.specs.declared.Sight.{Sight}
use Rattle.recogniser.specs.Event.{nowhere}
use Rattle.judging.specs.declared.Track.{Track}
use Rattle.judging.specs.Happening.{no_track}
use Rattle.laying.specs.Laying.{laid_by}
use Rattle.stepper.specs.declared.State.{State}
use Rattle.session.specs.declared.Session.{Session}
use Rattle.session.specs.declared.Ended.{Ended}
use Rattle.tally.specs.Tally.{no_counts, verdict_of, label, label_for}
use Rattle.stepper.specs.Step.{Run, run, steps}

-- "Begin sets history, counts and carry to zero or none.": no bits, no row, no line, no sync either
abbrev pub start_state : State
start_state =
    record {
      sight = record { window = record { last = 0; ahead = 0; seen = false }; place = nowhere };
      track = no_track;
      counts = no_counts;
    }

abbrev pub session : Bool → ℕ → ℕ → State → Session
session running code history s = record { running = running; raster = code; history = history; state = s }

-- "one closed session, the same after every module"
abbrev pub closed : Session
closed = session false 0 start_history start_state

-- ---- the ranges of docs/SESSION.md

-- raster: "1 to 11 while running, else 0"
abbrev pub raster_in : Bool → ℕ → Bool
raster_in true code = leb 1 code && raster_ok code
raster_in false code = eqb code 0

-- pairs and bit: "0, or 4 to T + 3"; "0 to 19; 0 where no row is open"
abbrev pub place_in : ℕ → Place → Bool
place_in total p = if (eqb p.pairs 0) (eqb p.bit 0) (leb 4 p.pairs && (leb p.pairs (total + 3) && leb p.bit 19))

-- ahead: "0 to 20; while a row is open 0 or 20 - bit"
abbrev pub ahead_in : ℕ → Place → Bool
ahead_in ahead p = if (eqb ahead 0) true (if (eqb p.pairs 0) (leb ahead 20) (eqb (ahead + p.bit) 20))

-- the recogniser's; last: "0 to 2^60 - 1"
abbrev pub sight_in : ℕ → Sight → Bool
sight_in total s = leb s.window.last 0xfffffffffffffff && (place_in total s.place && ahead_in s.window.ahead s.place)

-- line and carry: "0 to N"; "registers 0 to 3FFFF; none where line is 0"
abbrev pub track_in : ℕ → Track → Bool
track_in lines t = if (eqb t.line 0) (not (carried t.carry).known) (leb t.line lines && carry_ok t.carry)

-- every number; counts may have any value that they can hold
unfoldable pub in_range : Session → Bool
in_range s =
    raster_in s.running s.raster
    && (leb s.history 0x3ff
    && (sight_in (total_of s.raster) s.state.sight && track_in (rows_of s.raster) s.state.track))

-- ---- begin

-- "7: begin when open; ..; a session number outside the range"; then 4
unfoldable pub begin_refusal : Session → ℕ → ℕ
begin_refusal s code = if (not s.running && in_range s) (if (raster_ok code) 0 4) 7

-- the session that is answered; "A refusal .. changes .. no session"
abbrev pub begun_as : ℕ → Session
begun_as code = session true (meant code) start_history start_state

unfoldable pub begun : Session → ℕ → Result Session Refusal
begun s code = result_of (begin_refusal s code) (begun_as code)

-- ---- an open session: "7: .. feed or end when not [open]; a session number outside the range"

-- its raster
unfoldable pub opened : Session → Result Raster Refusal
opened s = if (s.running && in_range s) (Ok (raster_given s.raster)) (Err OutOfTurn)

-- ---- feed

-- "7: .. feed or end when not [open]; a session number outside the range"; then 3, then "1: .. row buffer too short .. for T"
unfoldable pub feed_refusal : Session → List ℕ → List ℕ → List ℕ → ℕ
feed_refusal s ws y c =
    if (s.running && in_range s)
    (if (words10 ws) (if (leb (total_of s.raster) (length y) && leb (total_of s.raster) (length c)) 0 1) 3)
    7

-- the fold of the step over the unscrambled bits of the words
unfoldable pub fed_run : Session → List ℕ → List ℕ → List ℕ → Run
fed_run s ws y c = steps laid_by s.raster (total_of s.raster) (word_bits (unscramble_words s.history ws)) (run s.state y c)

abbrev pub fed_session : Session → List ℕ → Run → Session
fed_session s ws x = session s.running s.raster (unscramble_next s.history ws) x.state

unfoldable pub fed : Session → List ℕ → List ℕ → List ℕ → Result Session Refusal
fed s ws y c = result_of (feed_refusal s ws y c) (fed_session s ws (fed_run s ws y c))

-- a buffer afterwards: "changes no buffer" where it is refused
unfoldable pub fed_y : Session → List ℕ → List ℕ → List ℕ → List ℕ
fed_y s ws y c = unless_refused (feed_refusal s ws y c) (fed_run s ws y c).y y

unfoldable pub fed_c : Session → List ℕ → List ℕ → List ℕ → List ℕ
fed_c s ws y c = unless_refused (feed_refusal s ws y c) (fed_run s ws y c).c c

-- ---- end

-- "7: .. feed or end when not [open]; a session number outside the range"
unfoldable pub end_refusal : Session → ℕ
end_refusal s = if (s.running && in_range s) 0 7

-- the label that belongs to the answer; none where the call is refused
unfoldable pub said : Session → List ℕ
said s =
    if (s.running && in_range s)
    (label_for s.state.sight.window.seen (rows_of s.raster) s.state.counts)
    []

-- "End answers raster, both counts and verdict, and one closed session"
abbrev pub ended_as : Session → Ended
ended_as s =
    record {
      raster = s.raster;
      counts = s.state.counts;
      verdict = verdict_of s.state.sight.window.seen (rows_of s.raster) s.state.counts;
      session = closed;
    }

unfoldable pub ended : Session → Result Ended Refusal
ended s = result_of (end_refusal s) (ended_as s)

-- the label of the answer; none where the call is refused
abbrev pub end_label : Result Ended Refusal → List ℕ
end_label (Ok e) = label e.verdict
end_label (Err refusal) = []

-- ---- what a call leaves: "A refusal .. changes .. no session."

abbrev pub session_or : Session → Result Session Refusal → Session
session_or s (Ok after) = after
session_or s (Err refusal) = s

abbrev pub session_left : Session → Result Ended Refusal → Session
session_left s (Ok e) = e.session
session_left s (Err refusal) = s

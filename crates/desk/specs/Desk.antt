-- A desk takes the bytes of a bench file as they arrive, and runs a session per job.
use Rattle.std.specs.Prelude.{◌≡◌, Bool, true, false, ◌&&◌, List, [], ◌∷◌, ℕ, ◌+◌, ◌≤◌, ◌<◌, leb, eqb, length, drop, Result, Ok, Err}
use Rattle.std.specs.Result.{result_unwrap_or}
use Rattle.bits.specs.Choice.{if}
use Rattle.refusal.specs.declared.Refusal.{Refusal}
use Rattle.refusal.specs.Refusal.{number_of, result_of}
use Rattle.parts.specs.Parts.{unless_refused}
use Rattle.tally.specs.declared.Verdict.TheVariants as Verdict
use Rattle.tally.specs.Tally.{no_counts}
use Rattle.session.specs.declared.Session.{Session}
use Rattle.session.specs.declared.Ended.{Ended}
use Rattle.session.specs.Session.{closed, begun, fed, fed_y, fed_c, end_refusal, ended, session_or}
use Rattle.reader.specs.declared.Stage.{Stage}
use Rattle.reader.specs.declared.Stage.TheVariants.{TagCount, TagBytes, OptionsCount, RasterByte, WipeByte, WordCount, LowByte, HighByte, Stopped}
use Rattle.reader.specs.declared.Reader.{Reader}
use Rattle.reader.specs.declared.Piece.{Piece}
use Rattle.reader.specs.declared.Piece.TheVariants.{More, Chosen, Word}
use Rattle.reader.specs.declared.Read.{Read}
use Rattle.reader.specs.Reader.{fresh, stopped, read_of, is_cut}
use Rattle.desk.specs.declared.Job.{Job}
use Rattle.desk.specs.declared.Outcome.{Outcome}
use Rattle.desk.specs.declared.Outcome.TheVariants.{Nothing, Done, BadFile}
use Rattle.desk.specs.declared.Desk.{Desk}
use Rattle.desk.specs.declared.Turn.{Turn}
use Rattle.desk.specs.declared.Taken.{Taken}

abbrev pub desk : Reader → Session → Desk
desk r s = record { reader = r; session = s }

-- before the first job
abbrev pub fresh_desk : Desk
fresh_desk = desk fresh closed

-- ---- outcomes: no job's end yet; a job is done; the file is refused

abbrev pub nothing : Outcome
nothing = Nothing

abbrev pub done : Job → Outcome
done j = Done j

abbrev pub bad_file : ℕ → Outcome
bad_file n = BadFile n

abbrev pub is_nothing : Outcome → Bool
is_nothing Nothing = true
is_nothing (Done j) = false
is_nothing (BadFile n) = false

-- ---- a byte

-- the session after what a byte completed: begun anew by a job's options, fed with its words
abbrev pub session_after : Piece → Session → List ℕ → List ℕ → Session
session_after More s y c = s
session_after (Chosen code) s y c = session_or closed (begun closed code)
session_after (Word w) s y c = session_or s (fed s (w ∷ []) y c)

-- the row buffers: words write them, nothing else does
abbrev pub y_after : Piece → Session → List ℕ → List ℕ → List ℕ
y_after More s y c = y
y_after (Chosen code) s y c = y
y_after (Word w) s y c = fed_y s (w ∷ []) y c

abbrev pub c_after : Piece → Session → List ℕ → List ℕ → List ℕ
c_after More s y c = c
c_after (Chosen code) s y c = c
c_after (Word w) s y c = fed_c s (w ∷ []) y c

-- a session's end, or, where it is refused, nothing of any job and the session as it was
abbrev pub end_of : Session → Ended
end_of s = result_unwrap_or (ended s) (record { raster = 0; counts = no_counts; verdict = Verdict.Refused; session = s })

-- what is known of a job at its end
abbrev pub job_of : Reader → Ended → Job
job_of r e = record { tag = r.tag; raster = e.raster; wipe = r.options.wipe; counts = e.counts; verdict = e.verdict }

abbrev pub turn : Desk → Outcome → Turn
turn d o = record { desk = d; outcome = o }

-- of a byte that ends a job, and of one that does not; s is the session after what it completed
abbrev pub turn_by : Bool → Reader → Read → Session → Turn
turn_by true before x s = turn (desk x.reader (end_of s).session) (done (job_of before (end_of s)))
turn_by false before x s = turn (desk x.reader s) nothing

-- by what was read: "on a refusal .. stops", with nothing of the job
abbrev pub turn_read : Result Read Refusal → Desk → List ℕ → List ℕ → Turn
turn_read (Ok x) d y c = turn_by x.ends d.reader x (session_after x.piece d.session y c)
turn_read (Err refusal) d y c = turn (desk stopped closed) (bad_file (number_of refusal))

abbrev pub y_read : Result Read Refusal → Session → List ℕ → List ℕ → List ℕ
y_read (Ok x) s y c = y_after x.piece s y c
y_read (Err refusal) s y c = y

abbrev pub c_read : Result Read Refusal → Session → List ℕ → List ℕ → List ℕ
c_read (Ok x) s y c = c_after x.piece s y c
c_read (Err refusal) s y c = c

unfoldable pub turned : Desk → ℕ → List ℕ → List ℕ → Turn
turned d b y c = turn_read (read_of d.reader b) d y c

unfoldable pub turned_y : Desk → ℕ → List ℕ → List ℕ → List ℕ
turned_y d b y c = y_read (read_of d.reader b) d.session y c

unfoldable pub turned_c : Desk → ℕ → List ℕ → List ℕ → List ℕ
turned_c d b y c = c_read (read_of d.reader b) d.session y c

-- a desk and the row buffers; where they stand after a byte, and what it brought
pub record Standing : Type 0 where
  pub desk : Desk
  pub y : List ℕ
  pub c : List ℕ

abbrev pub standing : Desk → List ℕ → List ℕ → Standing
standing d y c = record { desk = d; y = y; c = c }

abbrev pub next : ℕ → Standing → Standing
next b x = standing (turned x.desk b x.y x.c).desk (turned_y x.desk b x.y x.c) (turned_c x.desk b x.y x.c)

abbrev pub brought : ℕ → Standing → Outcome
brought b x = (turned x.desk b x.y x.c).outcome

-- ---- bytes, up to the one that ends a job or is refused

-- where desk and buffers stand, how many bytes were taken, and the outcome of the last of them
pub record Walk : Type 0 where
  pub at : Standing
  pub taken : ℕ
  pub outcome : Outcome

abbrev pub walk : Standing → ℕ → Outcome → Walk
walk x n o = record { at = x; taken = n; outcome = o }

abbrev pub walked_one : ℕ → Walk → Walk
walked_one b w = walk (next b w.at) (w.taken + 1) (brought b w.at)

unfoldable pub walked : List ℕ → Walk → Walk
walked [] w = w
walked (b ∷ bs) w = if (is_nothing w.outcome) (walked bs (walked_one b w)) w

abbrev pub walk_of : Desk → List ℕ → List ℕ → List ℕ → Walk
walk_of d bs y c = walked bs (walk (standing d y c) 0 nothing)

-- from one place at another, further on and before the end, as if the bytes between had been taken one by one and brought nothing
pub record Ahead (bs : List ℕ) (x : Standing) (at : ℕ) (x' : Standing) (at' : ℕ) : Type 0 where
  pub onward : at ≤ at'
  pub within : at' < length bs
  pub rest : walked (drop at bs) (walk x at nothing) ≡ walked (drop at' bs) (walk x' at' nothing)

-- .. with a reader that changed alone, whatever stands beside it
abbrev pub AheadAlone : List ℕ → Reader → ℕ → Reader → ℕ → Type 0
AheadAlone bs r at r' at' = (s : Session) (y c : List ℕ) → Ahead bs (standing (desk r s) y c) at (standing (desk r' s) y c) at'

-- ---- take

-- words are read, so a session must be open
abbrev pub words_at : Stage → Bool
words_at TagCount = false
words_at TagBytes = false
words_at OptionsCount = false
words_at RasterByte = false
words_at WipeByte = false
words_at WordCount = true
words_at LowByte = true
words_at HighByte = true
words_at Stopped = false

-- T of the longest row in the table: a desk's buffers hold the row of any raster that a file may choose
abbrev pub longest : ℕ
longest = 4125

-- "7: .. feed or end when not [open]; a session number outside the range"; then "1: .. row buffer too short" for the longest row
unfoldable pub take_refusal : Desk → List ℕ → List ℕ → ℕ
take_refusal d y c =
    if (if (words_at d.reader.stage) (eqb (end_refusal d.session) 0) true)
    (if (leb longest (length y) && leb longest (length c)) 0 1)
    7

abbrev pub taken_at : Walk → Taken
taken_at w = record { desk = w.at.desk; taken = w.taken; outcome = w.outcome }

unfoldable pub taken : Desk → List ℕ → List ℕ → List ℕ → Result Taken Refusal
taken d bs y c = result_of (take_refusal d y c) (taken_at (walk_of d bs y c))

unfoldable pub taken_y : Desk → List ℕ → List ℕ → List ℕ → List ℕ
taken_y d bs y c = unless_refused (take_refusal d y c) (walk_of d bs y c).at.y y

unfoldable pub taken_c : Desk → List ℕ → List ℕ → List ℕ → List ℕ
taken_c d bs y c = unless_refused (take_refusal d y c) (walk_of d bs y c).at.c c

-- ---- the end of the input: "9: .. or cut short"

unfoldable pub finished : Desk → Outcome
finished d = if (is_cut d.reader) (bad_file 9) nothing

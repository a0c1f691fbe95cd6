-- The counts, and the verdict that follows.
use Rattle.std.specs.Prelude.{Bool, true, false, not, List, [], ◌∷◌, ℕ, ◌+◌, ltb, eqb}
use Rattle.bits.specs.Choice.{if}
use Rattle.judging.specs.declared.Happening.{Happening}
use Rattle.judging.specs.declared.Happening.TheVariants.{Quiet, RowJudged, Unnumbered, DroppedEarly, DroppedLate, DroppedAstray}
use Rattle.tally.specs.declared.Counts.{Counts}
use Rattle.tally.specs.declared.Verdict.{Verdict}
use Rattle.tally.specs.declared.Verdict.TheVariants.{Refused, NoSignal, Fail, Short, Pass}

-- "A row counts once its CRC could be judged."
abbrev pub is_row : Happening → Bool
is_row Quiet = false
is_row (RowJudged line flags known) = known
is_row Unnumbered = false
is_row DroppedEarly = false
is_row DroppedLate = false
is_row DroppedAstray = false

-- "One fault each: a judged row with any flag; an EAV at another distance; the four pairs after the T-th not an EAV; a sync at another
-- alignment."; and a row without a line number, "else one fault"
abbrev pub is_fault : Happening → Bool
is_fault Quiet = false
is_fault (RowJudged line flags known) = not (eqb flags 0)
is_fault Unnumbered = true
is_fault DroppedEarly = true
is_fault DroppedLate = true
is_fault DroppedAstray = true

-- "Both counts stay at 4,294,967,295 once there."
abbrev pub ceiling : ℕ
ceiling = 4294967295

abbrev pub raised : Bool → ℕ → ℕ
raised one n = if one (if (ltb n ceiling) (n + 1) n) n

abbrev pub no_counts : Counts
no_counts = record { rows = 0; faults = 0 }

-- the counts after a happening, and after all of a list
abbrev pub counted : Happening → Counts → Counts
counted h n = record { rows = raised (is_row h) n.rows; faults = raised (is_fault h) n.faults }

unfoldable pub tallied : List Happening → Counts → Counts
tallied [] n = n
tallied (h ∷ hs) n = tallied hs (counted h n)

-- "Verdict, first that holds: NO SIGNAL, no sync; FAIL, faults not 0; SHORT, rows below N; PASS.": which of four things, in this order
abbrev pub first_that : {A : Type 0} → A → A → A → A → Bool → ℕ → Counts → A
first_that no_sync faulty few good seen lines n = if seen (if (eqb n.faults 0) (if (ltb n.rows lines) few good) faulty) no_sync

-- which case
abbrev pub verdict_of : Bool → ℕ → Counts → Verdict
verdict_of = first_that NoSignal Fail Short Pass

-- the paper's words, in ASCII
abbrev pub no_signal : List ℕ
no_signal = 0x4e ∷ 0x4f ∷ 0x20 ∷ 0x53 ∷ 0x49 ∷ 0x47 ∷ 0x4e ∷ 0x41 ∷ 0x4c ∷ []

abbrev pub fail : List ℕ
fail = 0x46 ∷ 0x41 ∷ 0x49 ∷ 0x4c ∷ []

abbrev pub short : List ℕ
short = 0x53 ∷ 0x48 ∷ 0x4f ∷ 0x52 ∷ 0x54 ∷ []

abbrev pub pass : List ℕ
pass = 0x50 ∷ 0x41 ∷ 0x53 ∷ 0x53 ∷ []

-- of each case; a refused call has none
abbrev pub label : Verdict → List ℕ
label Refused = []
label NoSignal = no_signal
label Fail = fail
label Short = short
label Pass = pass

-- which of them is said of a module
abbrev pub label_for : Bool → ℕ → Counts → List ℕ
label_for = first_that no_signal fail short pass

-- What happens to rows, and what is expected of the next one.
use Rattle.std.specs.Prelude.{List, [], ◌∷◌, None, ℕ, zero, suc, ◌+◌, ltb, get_or}
use Rattle.bits.specs.Choice.{if}
use Rattle.raster.specs.Layout.{line_at}
use Rattle.raster.specs.Table.{raster_given, rows_of}
use Rattle.timing.specs.Line.{line_read, line_told}
use Rattle.row.specs.Before.{Carry, carried}
use Rattle.row.specs.declared.Judged.{Judged}
use Rattle.row.specs.Row.{judged}
use Rattle.recogniser.specs.declared.Event.{Event}
use Rattle.recogniser.specs.declared.Event.TheVariants.{Outside, Within, Pair, Opens, Whole, Early, Late, Astray}
use Rattle.judging.specs.declared.Track.{Track}
use Rattle.judging.specs.declared.Happening.{Happening}
use Rattle.judging.specs.declared.Happening.TheVariants.{Quiet, RowJudged, Unnumbered, DroppedEarly, DroppedLate, DroppedAstray}
use Rattle.judging.specs.declared.Happened.{Happened}

-- no line known and no row before: at the start, and after what "drop[s] the row, carry and expected line"
abbrev pub no_track : Track
no_track = record { line = 0; carry = None }

-- "The expected line is taken from the Y line words of the first complete row while none is known, if these are exact and in 1..N"; else 0
abbrev pub line_of : ℕ → ℕ → List ℕ → ℕ
line_of code zero y =
    line_told (line_read code (get_or y (line_at (raster_given code).layout) 0) (get_or y (line_at (raster_given code).layout + 1) 0))
line_of code (suc n) y = suc n

-- "then goes up by one and from N to 1"
abbrev pub line_after : ℕ → ℕ → ℕ
line_after code line = if (ltb line (rows_of code)) (line + 1) 1

-- "is then judged": its line and flags, and whether its CRC could be judged; "check .. answer[s] the next [carry]"
abbrev pub row_judged : ℕ → ℕ → Carry → Judged → Happened
row_judged code line carry j =
    record {
      happening = RowJudged line j.flags (carried carry).known;
      track = record { line = line_after code line; carry = j.carry };
    }

-- "(else one fault; that row is not judged, leaves no carry, and the next is tried)"
abbrev pub completed : ℕ → ℕ → Carry → List ℕ → List ℕ → Happened
completed code zero carry y c = record { happening = Unnumbered; track = no_track }
completed code (suc n) carry y c = row_judged code (suc n) carry (judged code (suc n) carry y c)

abbrev pub dropped : Happening → Happened
dropped h = record { happening = h; track = no_track }

-- no happening: all is expected as before
abbrev pub quietly : Track → Happened
quietly t = record { happening = Quiet; track = t }

-- what an event means for the row whose words these are
unfoldable pub happened : Event → ℕ → Track → List ℕ → List ℕ → Happened
happened Outside code t y c = quietly t
happened Within code t y c = quietly t
happened Pair code t y c = quietly t
happened Opens code t y c = quietly t
happened Whole code t y c = completed code (line_of code t.line y) t.carry y c
happened Early code t y c = dropped DroppedEarly
happened Late code t y c = dropped DroppedLate
happened Astray code t y c = dropped DroppedAstray

-- the happenings, as a list
abbrev pub happenings : Happening → List Happening
happenings Quiet = []
happenings (RowJudged line flags known) = RowJudged line flags known ∷ []
happenings Unnumbered = Unnumbered ∷ []
happenings DroppedEarly = DroppedEarly ∷ []
happenings DroppedLate = DroppedLate ∷ []
happenings DroppedAstray = DroppedAstray ∷ []

-- A step: one unscrambled bit is recognised, judged, tallied, laid.
use Rattle.std.specs.Prelude.{Bool, true, false, List, [], ◌∷◌, ◌++◌, ℕ}
use Rattle.parts.specs.Parts.{part}
use Rattle.recogniser.specs.declared.Event.{Event}
use Rattle.recogniser.specs.declared.Event.TheVariants.{Outside, Within, Pair, Opens, Whole, Early, Late, Astray}
use Rattle.recogniser.specs.declared.Looked.{Looked}
use Rattle.recogniser.specs.declared.Sight.{Sight}
use Rattle.recogniser.specs.Sight.{c_word, y_word}
use Rattle.recogniser.specs.Event.{looked}
use Rattle.judging.specs.declared.Happening.{Happening}
use Rattle.judging.specs.declared.Happened.{Happened}
use Rattle.judging.specs.Happening.{happened, happenings}
use Rattle.stepper.specs.declared.State.{State}
use Rattle.tally.specs.Tally.{tallied}

-- a module's state, and the words that are held of the open row, one list a channel: in the buffers that are lent, or in lists of their own
pub record Run : Type 0 where
  pub state : State
  pub y : List ℕ
  pub c : List ℕ

abbrev pub run : State → List ℕ → List ℕ → Run
run s y c = record { state = s; y = y; c = c }

-- how events write a channel's row: event, T, the place and the word of the pair that ended, the row
abbrev pub Laying : Type 0
Laying = Event → ℕ → ℕ → ℕ → List ℕ → List ℕ

-- recognised: what the bit completes; T is given
abbrev pub recognised : ℕ → Bool → Run → Looked
recognised total b x = looked total b x.state.sight

-- judged: what happens to the row, the first T words of the buffers
abbrev pub brought : ℕ → ℕ → Bool → Run → Happened
brought code total b x = happened (recognised total b x).event code x.state.track (part 0 total x.y) (part 0 total x.c)

-- the state and the rows after a bit; judging comes before laying
abbrev pub state_after : Looked → Happened → State → State
state_after l h s = record { sight = l.sight; track = h.track; counts = tallied (happenings h.happening) s.counts }

abbrev pub rows_after : Laying → ℕ → Looked → State → Run → Run
rows_after lay total l s x =
    run s (lay l.event total x.state.sight.place.pairs (y_word l.sight.window.last) x.y)
    (lay l.event total x.state.sight.place.pairs (c_word l.sight.window.last) x.c)

-- what is recognised has arrived: judged, tallied, laid
abbrev pub arrived : Laying → ℕ → ℕ → Looked → Run → Run
arrived lay code total l x =
    rows_after lay total l (state_after l (happened l.event code x.state.track (part 0 total x.y) (part 0 total x.c)) x.state) x

unfoldable pub stepped : Laying → ℕ → ℕ → Bool → Run → Run
stepped lay code total b x =
    rows_after lay total (recognised total b x) (state_after (recognised total b x) (brought code total b x) x.state) x

-- bit after bit
unfoldable pub steps : Laying → ℕ → ℕ → List Bool → Run → Run
steps lay code total [] x = x
steps lay code total (b ∷ bs) x = steps lay code total bs (stepped lay code total b x)

-- the same state, with this in sight
abbrev pub seeing : State → Sight → State
seeing s sight = record { sight = sight; track = s.track; counts = s.counts }

-- what changes only what is seen
abbrev pub is_quiet : Event → Bool
is_quiet Outside = true
is_quiet Within = true
is_quiet Pair = false
is_quiet Opens = false
is_quiet Whole = false
is_quiet Early = false
is_quiet Late = false
is_quiet Astray = false

-- the happenings, in order
unfoldable pub traced : Laying → ℕ → ℕ → List Bool → Run → List Happening
traced lay code total [] x = []
traced lay code total (b ∷ bs) x =
    happenings (brought code total b x).happening ++ traced lay code total bs (stepped lay code total b x)

-- What a bit completes.
use Rattle.std.specs.Prelude.{Bool, ◌&&◌, ℕ, ◌+◌, leb, eqb}
use Rattle.bits.specs.Choice.{if}
use Rattle.recogniser.specs.declared.Window.{Window}
use Rattle.recogniser.specs.declared.Place.{Place}
use Rattle.recogniser.specs.declared.Sight.{Sight}
use Rattle.recogniser.specs.declared.Event.{Event}
use Rattle.recogniser.specs.declared.Event.TheVariants.{Outside, Within, Pair, Opens, Whole, Early, Late, Astray}
use Rattle.recogniser.specs.declared.Looked.{Looked}
use Rattle.recogniser.specs.Sight.{is_sync, y_word, is_eav, window_after}

-- In this file `ahead` and `place` are what they were before the bit, `last` is the last sixty with it.

-- "a sync whose Y XYZ is an exact EAV code": its XYZ pair ends at this bit
abbrev pub eav_ends : ℕ → ℕ → Bool
eav_ends ahead last = eqb ahead 1 && is_eav (y_word last)

-- the pair that ends next is the fourth after the T-th, or would be after it
abbrev pub is_fourth : ℕ → ℕ → Bool
is_fourth total pairs = leb (total + 3) pairs

-- "A row opens at a sync whose Y XYZ is an exact EAV code, also where that EAV has just ended or dropped another row.
-- It is complete when the next EAV comes T pairs later"; "One fault each: .. an EAV at another distance; the four pairs
-- after the T-th not an EAV; a sync at another alignment. The last three arise only while a row is open, at the last bit
-- of that XYZ pair, of those four pairs or of that sync"
-- A sync stands at the open row's own alignment where it ends with a pair, at the pair's twentieth bit, and is nothing by itself then.
-- An EAV at another distance is an early one: after the fourth pair the row is no longer open.
unfoldable pub event_of : ℕ → ℕ → Place → ℕ → Event
event_of total ahead place last =
    if (eqb place.pairs 0) (if (eav_ends ahead last) Opens Outside)
    (if (eav_ends ahead last) (if (is_fourth total place.pairs) Whole Early)
    (if (leb 19 place.bit) (if (is_fourth total place.pairs) Late Pair)
    (if (is_sync last) Astray Within)))

abbrev pub place : ℕ → ℕ → Place
place pairs bit = record { pairs = pairs; bit = bit }

-- where no row is open; where one has just been opened, its EAV's four pairs being there
abbrev pub nowhere : Place
nowhere = place 0 0

abbrev pub opened : Place
opened = place 4 0

-- how far the open row has come after an event
abbrev pub place_after : Event → Place → Place
place_after Outside p = nowhere
place_after Within p = place p.pairs (p.bit + 1)
place_after Pair p = place (p.pairs + 1) 0
place_after Opens p = opened
place_after Whole p = opened
place_after Early p = opened
place_after Late p = nowhere
place_after Astray p = nowhere

-- an event, and the window and the place after it
abbrev pub seen_at : Event → Window → Place → Looked
seen_at event w p = record { event = event; sight = record { window = w; place = p } }

-- the same, from the place before it
abbrev pub looked_at : Event → Window → Place → Looked
looked_at event w p = seen_at event w (place_after event p)

-- what a bit completes, and what is seen then
unfoldable pub looked : ℕ → Bool → Sight → Looked
looked total b s =
    looked_at (event_of total s.window.ahead s.place (window_after b s.window).last) (window_after b s.window) s.place

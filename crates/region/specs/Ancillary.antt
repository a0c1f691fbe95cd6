-- Where packets lie in one stream of a row (a channel), under the row's plan.
use Rattle.std.specs.Prelude.{List, [], ◌++◌, ℕ}
use Rattle.bits.specs.Choice.{if}
use Rattle.parts.specs.Parts.{part, in_part}
use Rattle.scan.specs.Scan.{Piece, scan}
use Rattle.plan.specs.declared.Plan.{Plan}

-- "blanking T-A-12, SAV 4, active A"
abbrev pub blanking_of : Plan → List ℕ → List ℕ
blanking_of p ws = part p.places.blank p.places.blanks ws

abbrev pub active_of : Plan → List ℕ → List ℕ
active_of p ws = part p.places.active p.places.count ws

-- ".. and in the active words of rows whose expected line has V = 1."
abbrev pub active_region : Plan → List ℕ → List ℕ
active_region p ws = if p.v (active_of p ws) []

-- "Packets lie in the blanking of every row, and in the active words ..": "blanking before active words", "each region .. alone"
unfoldable pub ancillary : Plan → List ℕ → List Piece
ancillary p ws = scan (blanking_of p ws) ++ scan (active_region p ws)

-- the stream with each of its regions changed by f
unfoldable pub in_regions : Plan → (List ℕ → List ℕ) → List ℕ → List ℕ
in_regions p f ws =
    if p.v (in_part p.places.active p.places.count f (in_part p.places.blank p.places.blanks f ws))
    (in_part p.places.blank p.places.blanks f ws)

-- Unscrambled words taken two by two: what is left to do is the same, from there on, as from the start.
use Rattle.std.specs.Prelude.{◌≡◌, Bool, false, List, [], ◌∷◌, ℕ, ◌+◌, ◌*◌, ◌<◌, length, get_or, take}
use Rattle.bits.specs.Bits.{word_bits}
use Rattle.align.specs.Search.{slid}
use Rattle.recogniser.specs.declared.Place.{Place}
use Rattle.recogniser.specs.declared.Sight.{Sight}
use Rattle.recogniser.specs.Sight.{is_sync}
use Rattle.laying.specs.Laying.{laid_by}
use Rattle.stepper.specs.declared.State.{State}
use Rattle.stepper.specs.Step.{Run, seeing, steps}

-- words, bit by bit
abbrev pub gone_on : ℕ → ℕ → List ℕ → Run → Run
gone_on code total words = steps laid_by code total (word_bits words)

-- these last bits and this place in sight, no XYZ pair being awaited; and a state that sees them
abbrev pub stands : Sight → ℕ → Place → Sight
stands sight last place = record { window = record { last = last; ahead = 0; seen = sight.window.seen }; place = place }

abbrev pub standing : State → ℕ → Place → State
standing s last place = seeing s (stands s.sight last place)

-- the last sixty bits after more bits, and after so many pairs of words
abbrev pub slides : ℕ → List Bool → ℕ
slides last [] = last
slides last (b ∷ bs) = slides (slid last b) bs

abbrev pub last_after : ℕ → List ℕ → ℕ → ℕ
last_after last words pairs = slides last (word_bits (take (2 * pairs) words))

-- no sync ends with any of these bits
abbrev pub NoSync : ℕ → List Bool → Type 0
NoSync last [] = Unit {0}
NoSync last (b ∷ bs) = (is_sync (slid last b) ≡ false) × NoSync (slid last b) bs

-- .. nor with any of the next twenty, whatever they are
abbrev pub Calm : ℕ → Type 0
Calm last = (bs : List Bool) → length bs ≡ 20 → NoSync last bs

-- .. nor while so many pairs of words are taken
abbrev pub CalmFor : ℕ → List ℕ → ℕ → Type 0
CalmFor last words pairs = (k : ℕ) → k < pairs → Calm (last_after last words k)

-- of no two neighbours both are zeros
abbrev pub NoGap : List ℕ → Type 0
NoGap words = (i : ℕ) → i + 1 < length words → get_or words i 0 ≡ 0 → get_or words (i + 1) 0 ≡ 0 → ⊥

-- Finding alignment.
use Rattle.std.specs.Prelude.{Bool, true, false, List, [], ◌∷◌, ℕ, suc, ◌+◌, ◌*◌, ◌/◌, ◌%◌, Option, None, Some, option_map, Result, Ok, Err}
use Rattle.bits.specs.Choice.{if}
use Rattle.bits.specs.Bits.{◌⊕◌, word_bits}
use Rattle.bits.specs.Words.{words10}
use Rattle.raster.specs.Layout.{sync_of, hd_unit}
use Rattle.refusal.specs.declared.Refusal.{Refusal}
use Rattle.refusal.specs.declared.Refusal.TheVariants.{TooHigh}
use Rattle.refusal.specs.Refusal.{refusal_of}
use Rattle.align.specs.declared.SyncPlace.{SyncPlace}

-- the bits begin with the pattern
unfoldable pub starts_with : List Bool → List Bool → Bool
starts_with [] bs = true
starts_with (p ∷ ps) [] = false
starts_with (p ∷ ps) (b ∷ bs) = if (p ⊕ b) false (starts_with ps bs)

-- "found at any bit of the unscrambled stream": the place of the first, from 0; that in the rest is told from one bit later
unfoldable pub first_place : List Bool → List Bool → Option ℕ
first_place pattern [] = None
first_place pattern (b ∷ bs) = if (starts_with pattern (b ∷ bs)) (Some 0) (option_map suc (first_place pattern bs))

-- "Finding alignment takes unscrambled words and answers the bit place of the first sync, from 0, or none."
unfoldable pub first_sync : List ℕ → Option ℕ
first_sync ws = first_place (sync_of hd_unit) (word_bits ws)

-- a place is answered as its word and the bit in it
abbrev pub sync_at : ℕ → SyncPlace
sync_at place = record { word = place / 10; bit = place % 10 }

-- the first sync's place, or "3: a word .. above 3FF"
unfoldable pub found_sync : List ℕ → Result (Option SyncPlace) Refusal
found_sync ws = if (words10 ws) (Ok (option_map sync_at (first_sync ws))) (Err TooHigh)

-- the paper's refusal number and bit place of an answer
abbrev pub sync_refusal : Result (Option SyncPlace) Refusal → ℕ
sync_refusal = refusal_of

abbrev pub sync_place : Result (Option SyncPlace) Refusal → Option ℕ
sync_place (Ok found) = option_map (λ place. place.word * 10 + place.bit) found
sync_place (Err refusal) = None

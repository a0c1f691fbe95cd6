-- What an event writes into a channel's row buffer.
use Rattle.std.specs.Prelude.{List, ℕ, ltb, set}
use Rattle.bits.specs.Choice.{if}
use Rattle.parts.specs.Parts.{laid}
use Rattle.stream.specs.Words.{trs}
use Rattle.recogniser.specs.declared.Event.{Event}
use Rattle.recogniser.specs.declared.Event.TheVariants.{Outside, Within, Pair, Opens, Whole, Early, Late, Astray}

-- "They hold an open row's pairs at their places as each pair ends": a row has T of them, from place 0
abbrev pub pair_laid : ℕ → ℕ → ℕ → List ℕ → List ℕ
pair_laid total at w buffer = if (ltb at total) (set buffer at w) buffer

-- ", the first four when its EAV ends"
abbrev pub eav_laid : ℕ → List ℕ → List ℕ
eav_laid xyz buffer = laid 0 (trs xyz) buffer

-- "; nothing else writes them": the buffer after an event at whose bit a pair with this word ended, at this place of the open row
unfoldable pub laid_by : Event → ℕ → ℕ → ℕ → List ℕ → List ℕ
laid_by Outside total at w buffer = buffer
laid_by Within total at w buffer = buffer
laid_by Pair total at w buffer = pair_laid total at w buffer
laid_by Opens total at w buffer = eav_laid w buffer
laid_by Whole total at w buffer = eav_laid w buffer
laid_by Early total at w buffer = eav_laid w (pair_laid total at w buffer)
laid_by Late total at w buffer = buffer
laid_by Astray total at w buffer = buffer

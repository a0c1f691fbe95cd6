-- What a module means: a function of the chosen raster and the module's words alone. There are no
-- buffers; an open row is the list of its pairs, as two lists of words, one a channel.
use Rattle.std.specs.Prelude.{Bool, List, [], ◌∷◌, ◌++◌, ℕ, ltb}
use Rattle.bits.specs.Choice.{if}
use Rattle.bits.specs.Bits.{word_bits}
use Rattle.raster.specs.Table.{meant, total_of, rows_of}
use Rattle.cable.specs.Words.{start_history, unscramble_words}
use Rattle.stream.specs.Words.{trs}
use Rattle.recogniser.specs.declared.Event.{Event}
use Rattle.recogniser.specs.declared.Event.TheVariants.{Outside, Within, Pair, Opens, Whole, Early, Late, Astray}
use Rattle.judging.specs.declared.Happening.{Happening}
use Rattle.tally.specs.declared.Counts.{Counts}
use Rattle.tally.specs.declared.Verdict.{Verdict}
use Rattle.tally.specs.Tally.{verdict_of}
use Rattle.stepper.specs.Step.{Run, run, steps, traced}
use Rattle.session.specs.Session.{start_state}

-- an open row's words in one channel, from its EAV on, up to T of them; none where no row is open
unfoldable pub listed : Event → ℕ → ℕ → ℕ → List ℕ → List ℕ
listed Outside total at w row = []
listed Within total at w row = row
listed Pair total at w row = if (ltb at total) (row ++ (w ∷ [])) row
listed Opens total at w row = trs w
listed Whole total at w row = trs w
listed Early total at w row = trs w
listed Late total at w row = []
listed Astray total at w row = []

-- a module after unscrambled bits, and what has happened then
abbrev pub begun_run : Run
begun_run = run start_state [] []

abbrev pub after_bits : ℕ → List Bool → Run
after_bits code bs = steps listed code (total_of code) bs begun_run

abbrev pub happenings_of : ℕ → List Bool → List Happening
happenings_of code bs = traced listed code (total_of code) bs begun_run

-- the unscrambled bits of a module's words: "history .. zero"
abbrev pub bits_of : List ℕ → List Bool
bits_of ws = word_bits (unscramble_words start_history ws)

-- "End answers raster, both counts and verdict"
pub record Answer : Type 0 where
  pub raster : ℕ
  pub counts : Counts
  pub verdict : Verdict

abbrev pub answer_in : ℕ → Run → Answer
answer_in code x =
    record {
      raster = code;
      counts = x.state.counts;
      verdict = verdict_of x.state.sight.window.seen (rows_of code) x.state.counts;
    }

-- the module's own answer
unfoldable pub module_of : ℕ → List ℕ → Answer
module_of code ws = answer_in (meant code) (after_bits (meant code) (bits_of ws))

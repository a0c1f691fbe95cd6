-- The paper's example, and empty input, by computation.
use mathlib.Core.Path.{refl}
use mathlib.Core.List.{flat_map}
use Rattle.bits.specs.Bits.{word_bits}
use Rattle.cable.specs.Words.{grouped, unscramble_words}
use Rattle.stepper.specs.Step.{steps}
use Rattle.law_module.specs.Module.{module_of}
use Rattle.label.specs.Label.{decimal_in, job_label}
use Rattle.law_file.specs.File.{count_read, tag_bytes_read, tag_read, options_of, options_read, words_read, job_read, read_in, outcomes_of}
use Rattle.law_file.specs.Promises.{EmptyPrintsNothing, ExamplePrinted}

pub empty_prints_nothing : EmptyPrintsNothing
unfolding outcomes_of read_in flat_map
empty_prints_nothing = refl

pub example-printed : ExamplePrinted
unfolding outcomes_of read_in job_read tag_read tag_bytes_read options_read options_of count_read words_read module_of steps
    word_bits unscramble_words grouped job_label decimal_in flat_map
example-printed = refl

use mathlib.Core.Path.{◌≡◌}
use lib.ListN.{length}
use Rattle.std.specs.Slice.Iter.{chunks_rest, chunks_size}
use Rattle.bits.specs.Bits.{word_bits}
use Rattle.cable.specs.Words.{unscramble_words}
use Rattle.laying.specs.Laying.{laid_by}
use Rattle.stepper.specs.Step.{run, steps}
use Rattle.taking.proofs.take_words.Given as goal

-- take_words: the words that are left, after the word before, give what all give from the start.
abbrev pub invariant-loop-scrambled : goal.invariant-loop-scrambled
invariant-loop-scrambled l =
    (chunks_size l.scrambled-iterator ≡ 512) × (length l.block ≡ 512)
    × (steps laid_by l.raster l.total (word_bits (unscramble_words l.history l.words)) (run l.initial.s l.initial.y l.initial.c)
    ≡ steps laid_by l.raster l.total (word_bits (unscramble_words l.h (chunks_rest l.scrambled-iterator))) (run l.s l.y l.c))

use Rattle.std.proofs.Common.{◌≡◌, ◌++◌, length, take}
use Rattle.std.specs.Slice.Iter.{chunks_rest, chunks_size}
use Rattle.crc.specs.Crc.{crc_words}
use Rattle.folding.specs.Folding.{loaded}
use Rattle.folding.proofs.fold.Given as goal

-- `fold`: what is left, with the words that were taken out xor-ed in, brings the register where all the words do.
abbrev pub invariant-loop-block : goal.invariant-loop-block
invariant-loop-block l =
    (chunks_size l.block-iterator ≡ 512) × (length l.s ≡ 816)
    × (crc_words 0 (loaded (take 304 l.s) (chunks_rest l.block-iterator ++ l.back)) ≡ crc_words 0 l.fn.words)

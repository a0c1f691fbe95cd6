use Rattle.std.proofs.Common.{◌≡◌, length}
use Rattle.std.specs.Iterator.Adapters.{zip_first, zip_second}
use Rattle.std.specs.Slice.Iter.{iter_rest}
use Rattle.crc.specs.Crc.{crc_words}
use Rattle.crc.proofs.Entries.{Rule}
use Rattle.folding.proofs.step_tails.Given as goal

-- `step_tails`: the sheet's rule holds of the code's own table, and what the words left do to each register stays the same.
abbrev pub invariant-loop-wy : goal.invariant-loop-wy
invariant-loop-wy l =
    let y = iter_rest (zip_first l.wy-iterator) in
    let c = iter_rest (zip_second l.wy-iterator) in
    Rule l.steps × (length y ≡ length c) × (crc_words l.ry y ≡ crc_words 0 l.y) × (crc_words l.rc c ≡ crc_words 0 l.c)

-- `step_words`: the sheet's rule holds of the code's own table, and what the words left do to the register stays the same.
use mathlib.Core.Path.{refl, sym, ap, ◌∙◌}
use Prim.Native.Nat.{◌+◌}
use native.Mathlib.Omega.{arith}
use lib.ListN.{drop, get_or}
use Rattle.bits.specs.Bits.{odd, bits}
use Rattle.crc.specs.Crc.{crc_bit, crc_bits, crc_word, crc_words}
use Rattle.crc.proofs.Steps.{crc_words_step, crc_words_end}
use Rattle.crc.proofs.Entries.{rule_of_test, step_by_sheet}
use Rattle.crc.proofs.step_words.Goals as goal

pub loop-word-init : goal.loop-word-init
unfolding crc_word crc_bits crc_bit bits odd
loop-word-init c = (rule_of_test _ refl tt, refl)

pub loop-word-preserved : goal.loop-word-preserved
loop-word-preserved c =
    let at = c.loop-word in
    let i = at.word-index in
    let ws = c.args.words.now in (
      at.invariant.0,
      ap (λ r. crc_words r (drop (i + 1) ws)) (step_by_sheet _ at.r (get_or ws i 0) at.invariant.0)
          ∙ sym (crc_words_step at.r i ws (omega arith)) ∙ at.invariant.1,
    )

pub returns : goal.returns
returns c =
    let at = c.loop-word in
    sym (crc_words_end at.r at.word-index c.args.words.now (omega arith)) ∙ at.invariant.1

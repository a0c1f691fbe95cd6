-- `step_tails`: the sheet's rule holds of the code's own table, and what the words left do to each register stays the same.
use Rattle.std.proofs.Common.{◌≡◌, length, arith, rules, refl, sym, ap, ap₂, ◌∙◌}
use Rattle.std.specs.Iterator.Adapters.{zip_first, zip_second}
use Rattle.std.specs.Slice.Iter.{iter_rest}
use Rattle.std.proofs.lemmas.List.{nil_from_length}
use Rattle.std.proofs.lemmas.Slice.Zip.{Zip-more}
use Rattle.bits.specs.Bits.{odd, bits}
use Rattle.crc.specs.Crc.{crc_bit, crc_bits, crc_word, crc_words}
use Rattle.crc.proofs.Entries.{rule_of_test, step_by_sheet}
use Rattle.folding.specs.declared.Registers.{Registers}
use Rattle.folding.proofs.step_tails.Goals as goal

pub loop-wy-init : goal.loop-wy-init
unfolding crc_word crc_bits crc_bit bits odd
loop-wy-init c =
    let y : iter_rest (zip_first c.into_iter-wy-iterator.result) ≡ c.args.y.now = search rules in
    let c' : iter_rest (zip_second c.into_iter-wy-iterator.result) ≡ c.args.c.now = search rules in
    (rule_of_test _ refl tt, ap length y ∙ c.requires ∙ sym (ap length c'), ap (crc_words 0) y, ap (crc_words 0) c')

pub loop-wy-preserved : goal.loop-wy-preserved
unfolding crc_words
loop-wy-preserved c =
    let at = c.loop-wy in
    let next = Zip-more at.wy-iterator c.next.new.self _ _ c.in-Some.is c.next.ensures.steps in (
      at.invariant.0,
      omega (arith, ap length next.0, ap length next.1),
      ap (λ r. crc_words r (iter_rest (zip_first c.next.new.self))) (step_by_sheet _ at.ry c.in-Some.wy.now at.invariant.0)
          ∙ ap (crc_words at.ry) (sym next.0) ∙ at.invariant.2,
      ap (λ r. crc_words r (iter_rest (zip_second c.next.new.self))) (step_by_sheet _ at.rc c.in-Some.wc.now at.invariant.0)
          ∙ ap (crc_words at.rc) (sym next.1) ∙ at.invariant.3,
    )

pub returns : goal.returns
unfolding crc_words
returns c =
    let at = c.loop-wy in
    let none : length (iter_rest (zip_first at.wy-iterator)) ≡ 0 = search rules in
    let y = nil_from_length (iter_rest (zip_first at.wy-iterator)) none in
    let c' = nil_from_length (iter_rest (zip_second at.wy-iterator)) (omega arith) in
    ap₂ {C = Registers} (λ y c. record { y = y; c = c }) (ap (crc_words at.ry) (sym y) ∙ at.invariant.2) (ap (crc_words at.rc) (sym c') ∙ at.invariant.3)

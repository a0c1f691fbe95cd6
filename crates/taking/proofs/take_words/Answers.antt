-- take_words: the words that are left, after the word before, give what all give from the start.
use mathlib.Core.Path.{◌≡◌, sym, ap, ◌∙◌}
use mathlib.Core.List.{◌++◌}
use Prim.Native.Nat.{◌-◌, ◌≤◌}
use native.Mathlib.Omega.{arith}
use lib.ListN.{length, length-take}
use borrow.Author.Rules.{rules}
use Rattle.std.specs.Slice.Iter.{chunks_rest}
use Rattle.bits.specs.Bits.{word_bits}
use Rattle.cable.specs.Words.{unscramble_words}
use Rattle.cable.proofs.Words.{unscramble_range}
use Rattle.laying.specs.Laying.{laid_by}
use Rattle.stepper.specs.Step.{run, steps}
use Rattle.taking.proofs.Blocks.{blocks_turn, blocks_end}
use Rattle.taking.proofs.take_words.Goals as goal

pub invariant_of-take_block : goal.invariant_of-take_block
invariant_of-take_block c =
    let ws = c.in-Some.scrambled.now in
    let small : length ws ≤ 512 = search rules in record {
      tens = rw c.unscramble_block.ensures (unscramble_range ws c.loop-scrambled.h);
      few = omega (arith, length-take (length ws) c.unscramble_block.new.block);
    }

pub loop-scrambled-preserved : goal.loop-scrambled-preserved
loop-scrambled-preserved c =
    let at = c.loop-scrambled in
    let ws = c.in-Some.scrambled.now in
    let left = chunks_rest c.next.new.self in
    let rest : chunks_rest at.scrambled-iterator ≡ ws ++ left = search rules in
    let some : 1 ≤ length ws = search rules in
    let code = c.args.raster in
    let total = c.args.total in (
      search rules,
      omega arith,
      at.invariant.2
          ∙ ap (λ v. steps laid_by code total (word_bits (unscramble_words at.h v)) (run at.s at.y at.c)) rest
          ∙ blocks_turn code total (length ws - 1) at.h ws left (run at.s at.y at.c) (omega arith) c.unscramble_block.ensures c.take_block-s.ensures,
    )

pub returns : goal.returns
returns c =
    let at = c.loop-scrambled in
    let none : length (chunks_rest at.scrambled-iterator) ≡ 0 = search rules in
    sym (at.invariant.2 ∙ blocks_end c.args.raster c.args.total at.h (chunks_rest at.scrambled-iterator) (run at.s at.y at.c) none)

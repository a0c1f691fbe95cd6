-- unscramble_block: what is left, after the word before, gives the rest of the block.
use mathlib.Core.Path.{◌≡◌, ◌∙◌}
use Prim.Native.Nat.{ℕ, ◌+◌, ◌-◌}
use native.Mathlib.Omega.{arith}
use lib.ListN.{get_or, length-set}
use Rattle.taking.proofs.Blocks.{block_turn, block_end}
use Rattle.taking.proofs.unscramble_block.Goals as goal

pub loop-i-init : goal.loop-i-init
loop-i-init c = block_turn 0 c.args.history c.args.words.now c.args.block.now (omega arith) (omega arith) c.unscramble_word.ensures

pub loop-i-preserved : goal.loop-i-preserved
loop-i-preserved c =
    let at = c.loop-i in
    let words = c.args.words.now in
    let e : at.i + 1 - 1 ≡ at.i = omega arith in
    at.invariant ∙ rw e (block_turn at.i (get_or words (at.i - 1) 0) words at.block (omega arith) (omega (arith, length-set {A = ℕ})) c.unscramble_word-in-loop-i.ensures)

pub returns : goal.returns
returns c =
    let at = c.loop-i in
    let words = c.args.words.now in
    block_end at.i (get_or words (at.i - 1) 0) words at.block (omega arith) at.invariant

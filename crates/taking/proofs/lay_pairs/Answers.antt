-- lay_pairs: the first pair is laid, and the others are dealt out of the words that were cut.
use mathlib.Core.Path.{◌≡◌, refl, ap, ◌∙◌}
use Prim.Native.Nat.{◌+◌, ◌-◌, ◌*◌, ◌/◌, ◌%◌, ◌<◌}
use native.Mathlib.Omega.{arith}
use lib.ListN.{length, take, length-take}
use lib.Seq.{get_or-take}
use Rattle.parts.proofs.Inside.{length_part}
use Rattle.taking.specs.Deal.{straddling}
use Rattle.taking.proofs.Words.{laid_none, lay_first}
use Rattle.taking.proofs.Dealing.{laid_cut, straddling_part, tens_each}
use Rattle.taking.proofs.lay_pairs.Goals as goal

pub returns-then-pairs-eq0 : goal.returns-then-pairs-eq0
returns-then-pairs-eq0 c =
    let a = c.args in
    λ code s. laid_none a.block.words.now a.block.tens code a.total s a.last.bits a.pairs a.place.pairs a.place.bit a.y.now a.c.now c.if-pairs-eq0.true

pub invariant_of-others : goal.invariant_of-others
invariant_of-others c =
    let n = 2 * (c.args.pairs - 1) in
    let out = c.straddle_words.new.out in
    let ws = c.args.block.words.now in
    let long : length c.part.result.words.now ≡ 2 * c.args.pairs - 1 = rw c.part.ensures (length_part (1 - c.args.place.bit / 10) (2 * c.args.pairs - 1) ws (omega arith)) in record {
      tens = tens_each (take n out) (λ i h.
          let m : i < n = omega (arith, length-take n out) in
          omega (arith, get_or-take n out i 0 m, c.straddle_words.ensures i (omega arith)));
      few = omega (arith, length-take n out);
    }

pub returns : goal.returns
returns c =
    let a = c.args in
    let ws = a.block.words.now in
    let tens = a.block.tens in
    let from = a.place.pairs in
    let bit = a.place.bit in
    let k = a.pairs - 1 in
    let n = 2 * k in
    let j = 1 - bit / 10 in
    let out = c.straddle_words.new.out in
    let all : k + 1 ≡ a.pairs = omega arith in
    let long : length c.part.result.words.now ≡ 2 * a.pairs - 1 = rw c.part.ensures (length_part j (2 * a.pairs - 1) ws (omega arith)) in
    let calm = c.requires.1 in
    λ code s.
    lay_first ws tens code a.total s a.last.bits from bit a.y.now a.c.now (omega arith) (calm 0 (omega arith)) (omega arith) (omega arith) (omega arith) c.slide.ensures refl refl
    ∙ laid_cut ws tens a.last.bits bit j (omega arith) a.last.sixty (omega arith) (take n out) code a.total s from k _ _ (omega arith) (omega arith) (omega arith)
    (λ i h. calm i (omega arith))
    (λ i h.
    get_or-take n out i 0 h ∙ c.straddle_words.ensures i (omega arith) ∙ ap (λ v. straddling v i (bit % 10)) c.part.ensures
    ∙ straddling_part j (2 * a.pairs - 1) ws i (bit % 10) (omega arith))
    ∙ rw (c.deal.ensures.0, c.deal.ensures.1, all)

-- hurry: where it stays, all words are left; else the promise of its pairs, of a state that sees this.
use native.Mathlib.Omega.{arith}
use Rattle.stepper.specs.Step.{seeing}
use Rattle.taking.proofs.Words.{of_standing, passed_at}
use Rattle.taking.proofs.hurry.Goals as goal

pub returns-then-is_nowhere-clause-rest : goal.returns-then-is_nowhere-clause-rest
returns-then-is_nowhere-clause-rest c =
    let a = c.args in
    let ws = a.block.words.now in
    let calm = c.calm_pairs-n in
    let outside = c.is_nowhere.ensures c.if-is_nowhere.true in
    let free = c.in-Some.ensures in
    λ code s.
    rw (c.moved.ensures.0, c.moved.ensures.1)
    (of_standing (seeing s a.sight) code a.total c.in-Some.last.bits ws a.y.now a.c.now free.0 free.1
    (passed_at ws a.block.tens code a.total (seeing s a.sight) c.in-Some.last.bits calm.result a.sight.place a.y.now a.c.now outside (omega (arith, calm.ensures.0)) calm.ensures.1))

pub returns-clause-rest : goal.returns-clause-rest
returns-clause-rest c =
    let a = c.args in
    let free = c.in-Some.ensures in
    λ code s.
    rw (c.moved-2.ensures.0, c.moved-2.ensures.1)
    (of_standing (seeing s a.sight) code a.total c.in-Some.last.bits a.block.words.now a.y.now a.c.now free.0 free.1 (c.lay_pairs.ensures code (seeing s a.sight)))

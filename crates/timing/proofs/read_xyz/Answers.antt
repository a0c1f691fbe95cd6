use mathlib.Core.Path.{sym, ◌∙◌}
use borrow.Author.Tests.{le-leb, lt-leb, eq-eqb, ne_eqb}
use Rattle.bits.specs.Bits.{odd}
use Rattle.std.specs.Prelude.{None, Some, Ok, Err}
use Rattle.refusal.specs.declared.Refusal.TheVariants.{TooHigh}
use Rattle.timing.specs.Xyz.{fvh, f_bit, v_bit, h_bit, read_xyz}
use Rattle.timing.proofs.Codes.{xyz_answered}
use Rattle.bits.proofs.Clauses.{answer_means}
use Rattle.timing.proofs.read_xyz.Goals as goal

pub returns-then-word-gt1023 : goal.returns-then-word-gt1023
unfolding read_xyz
returns-then-word-gt1023 c = answer_means (xyz_answered c.args.word (Err TooHigh) (rw (lt-leb _ _ c.if-word-gt1023.true)))

pub returns-then-word-xyz : goal.returns-then-word-xyz
unfolding read_xyz odd
returns-then-word-xyz c =
    answer_means (
    let w = c.args.word in
    xyz_answered w (Ok (Some (fvh (f_bit w) (v_bit w) (h_bit w))))
    (rw (le-leb _ _ c.if-word-gt1023.false, eq-eqb _ _ (c.if-word-xyz.true ∙ c.xyz.ensures))))

pub returns : goal.returns
unfolding read_xyz odd
returns c =
    answer_means (
    xyz_answered c.args.word (Ok None)
    (rw (le-leb _ _ c.if-word-gt1023.false, ne_eqb _ _ (λ e. c.if-word-xyz.false (e ∙ sym c.xyz.ensures)))))

use mathlib.Core.Path.{◌≡◌, refl, sym, ap, ◌∙◌}
use Prim.Native.Nat.{ℕ, ◌+◌, ◌%◌, ◌≤◌}
use native.Mathlib.Omega.{arith}
use native.Mathlib.Nat.{zero-add}
use lib.ListN.{length, get_or, take, drop, length-take}
use borrow.Author.Rules.{rules}
use Rattle.scan.specs.declared.Here.TheVariants.{Whole}
use Rattle.scan.specs.Scan.{here_of, piece_at}
use Rattle.scan.proofs.Packets.{sum_step, marked-room, sum_end}
use Rattle.scan.proofs.Pieces.{here_of-nothing, here_of_cut, here_of_whole, with_rest, scanned_start, scanned-nothing, scanned_cut, scanned_whole, scanned_end, scan_end}
use Rattle.scan.proofs.scan.Goals as goal

pub scan-init : goal.scan-init
scan-init c = (search rules, search rules, scanned_start _)

pub scan-preserved-then-not-marked_at : goal.scan-preserved-then-not-marked_at
scan-preserved-then-not-marked_at c =
    let s = c.scan in
    let nothing = here_of-nothing _ s.i (sym c.marked_at.ensures ∙ c.if-not-marked_at.true) in
    let rest = scanned-nothing _ s.i c.scan-test.true nothing ∙ c.onward-i.ensures.rest in
    (search rules, search rules, s.invariant.2 ∙ ap (with_rest s.words s.cut s.wrong) rest)

pub overflow_add-i : goal.overflow_add-i
overflow_add-i c = omega (arith, marked-room c.args.region.now c.scan.i (sym c.marked_at.ensures ∙ c.if-not-marked_at.false))

pub scan-preserved-then-n-i-lt6 : goal.scan-preserved-then-n-i-lt6
scan-preserved-then-n-i-lt6 c =
    let s = c.scan in
    let r = c.args.region.now in
    let marked = sym c.marked_at.ensures ∙ c.if-not-marked_at.false in
    (search rules, omega (arith, marked-room r s.i marked), s.invariant.2 ∙ scanned_cut r s.i c.scan-test.true s.words s.cut s.wrong (here_of_cut r s.i marked (omega arith)))

pub loop-j-init : goal.loop-j-init
loop-j-init c = (refl, refl, rw zero-add)

pub scan-preserved-then-n-i : goal.scan-preserved-then-n-i
scan-preserved-then-n-i c =
    let s = c.scan in
    let r = c.args.region.now in
    let marked = sym c.marked_at.ensures ∙ c.if-not-marked_at.false in
    let w = c.loop-j.invariant in
    (omega arith, omega arith, s.invariant.2 ∙ scanned_cut r s.i c.scan-test.true s.words s.cut s.wrong (here_of_cut r s.i marked (omega arith)) ∙ rw w.0)

pub loop-j-preserved : goal.loop-j-preserved
loop-j-preserved c =
    let s = c.scan in
    let w = c.loop-j in
    (w.invariant.0, w.invariant.1, rw w.invariant.0 (sum_step w.sum s.i w.j _ c.args.region.now (omega arith) (omega arith)) ∙ w.invariant.2)

pub scan-preserved-then-n-i-2 : goal.scan-preserved-then-n-i-2
scan-preserved-then-n-i-2 c =
    let s = c.scan in
    let r = c.args.region.now in
    let marked = sym c.marked_at.ensures ∙ c.if-not-marked_at.false in
    let w = c.loop-j.invariant in
    (omega arith, omega arith, s.invariant.2 ∙ scanned_cut r s.i c.scan-test.true s.words s.cut s.wrong (here_of_cut r s.i marked (omega arith)) ∙ rw w.0)

pub scan-preserved : goal.scan-preserved
scan-preserved c =
    let s = c.scan in
    let r = c.args.region.now in
    let marked = sym c.marked_at.ensures ∙ c.if-not-marked_at.false in
    let i = s.i in
    let w = c.loop-j in
    let last : ℕ = get_or r (i + 5) 0 % 256 + 6 in
    let size : get_or r (i + 5) 0 % 256 + 7 ≡ last + 1 = omega arith in
    let whole : here_of (piece_at (drop i r)) ≡ Whole (last + 1) = here_of_whole r i marked (omega (arith, c.if-n-i-2.false)) ∙ ap Whole size in
    let done : length (take last (drop i r)) ≤ w.j = simp length-take (omega (arith, c.loop-j-test.false)) in
    let sum = sym (sum_end w.sum w.j (take last (drop i r)) done) ∙ w.invariant.2 in (
      omega arith,
      omega arith,
      s.invariant.2
          ∙ scanned_whole r i c.scan-test.true s.words s.cut s.wrong last w.sum whole sum
          ∙ rw (c.nine-right.ensures, w.invariant.0, w.invariant.1),
    )

pub returns : goal.returns
returns c =
    let s = c.scan in
    sym (s.invariant.2 ∙ rw (scan_end s.i c.args.region.now c.scan-test.false) (scanned_end s.words s.cut s.wrong))

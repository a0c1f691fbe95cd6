use mathlib.Core.Path.{◌≡◌, sym, ap}
use mathlib.Core.Bool.{true}
use native.Mathlib.Omega.{arith}
use Rattle.std.proofs.lemmas.Result.{err_from_is_err_and}
use Rattle.bits.specs.Words.{words10}
use Rattle.refusal.proofs.Answers.{result_of_ok, result_of_bad, result_of_err}
use Rattle.raster.specs.declared.Raster.{Raster}
use Rattle.raster.specs.Table.{raster_given}
use Rattle.raster.proofs.Table.{looked_up_range}
use Rattle.parts.proofs.Laid.{unless_refused-refused}
use Rattle.session.specs.Session.{feed_refusal, fed, fed_y, fed_c}
use Rattle.session.proofs.Feeding.{fed_run-steps}
use Rattle.session.proofs.Refusing.{Ready, ready_raster, ready_history, feed_taken}
use Rattle.session.proofs.Session.feed.Goals as goal
use Rattle.session.proofs.Session.feed.Goals.{In_ok-total}

-- past the `?` there is no refusal, and the raster is the session's
taken : (c : In_ok-total)
    → let at = c.args in
    (feed_refusal at.self at.words.now at.y.now at.c.now ≡ 0) × (c.in_ok-total.field-0 ≡ raster_given at.self.raster)
taken c = result_of_ok (raster_given c.args.self.raster) _ (sym c.in_ok-total.ensures)

-- so that a module runs, and its numbers and the words are in range
feeds : (c : In_ok-total)
    → let at = c.args in
    Ready at.self at.y.now at.c.now × (words10 at.words.now ≡ true)
feeds c = feed_taken _ _ _ _ (taken c).0

pub returns-in_err-total : goal.returns-in_err-total
unfolding fed fed_y fed_c
returns-in_err-total c =
    let at = c.args in
    let n = feed_refusal at.self at.words.now at.y.now at.c.now in
    let bad = result_of_err (raster_given at.self.raster) n (sym c.in_err-total.ensures) in
    let p = err_from_is_err_and c.from_residual.result c.from_residual.ensures.1 in
    record {
      answer = rw (p.1, p.2, bad.1) (sym (result_of_bad _ n bad.0));
      yrow = sym (unless_refused-refused n _ _ bad.0);
      crow = sym (unless_refused-refused n _ _ bad.0);
    }

pub overflow_cast-total : goal.overflow_cast-total
overflow_cast-total c =
    let here = (goal.at.overflow_cast-total c).In_ok-total in
    let range = looked_up_range c.args.self.raster (ready_raster (feeds here).0) in
    omega (arith, ap (λ (r : Raster). r.layout.total) (taken here).1, range.total_high)

pub history_after-requires : goal.history_after-requires
history_after-requires c =
    let fine = feeds (goal.at.history_after-requires c).In_ok-total in
    (ready_history fine.0, fine.1)

pub returns : goal.returns
unfolding fed fed_y fed_c
returns c =
    let at = c.args in
    let here = (goal.at.returns c).In_ok-total in
    let total = ap (λ (r : Raster). r.layout.total) (taken here).1 in
    let after = fed_run-steps at.self at.words.now at.y.now at.c.now total c.take_words-state.ensures in
    let ok = (taken here).0 in
    record {
      answer = rw (ok, ← after, c.history_after.ensures);
      yrow = rw (ok, ← after);
      crow = rw (ok, ← after);
    }

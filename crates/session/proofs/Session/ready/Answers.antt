use mathlib.Core.Path.{◌≡◌, sym, ap}
use mathlib.Core.Bool.{false, ◌&&◌}
use mathlib.Core.Logic.{◌⊎◌, ⊎_elim}
use Prim.Native.Nat.{ℕ, ◌≤◌, ◌<◌}
use lib.Dec.{leb}
use lib.ListN.{length}
use borrow.Author.Tests.{le-leb, lt-leb}
use Rattle.std.proofs.lemmas.Result.{err_from_is_err_and}
use Rattle.refusal.specs.Refusal.{refusal_numbered}
use Rattle.raster.specs.declared.Raster.{Raster}
use Rattle.raster.specs.Table.{total_of}
use Rattle.session.specs.Session.{feed_refusal}
use Rattle.session.proofs.Refusing.{opened_ok, opened_err}
use Rattle.session.proofs.Session.ready.Goals as goal

pub returns-in_err-raster : goal.returns-in_err-raster
unfolding feed_refusal refusal_numbered
returns-in_err-raster c =
    let shut = opened_err c.args.self (sym c.in_err-raster.ensures) in
    let p = err_from_is_err_and c.from_residual.result c.from_residual.ensures.1 in
    rw (p.1, p.2, shut.1, shut.0)

pub returns-then-not-all_words : goal.returns-then-not-all_words
unfolding feed_refusal refusal_numbered
returns-then-not-all_words c =
    let found = opened_ok c.args.self (sym c.in_ok-raster.ensures) in
    rw (found.0, ← c.all_words.ensures, c.if-not-all_words.true)

-- one of two slices is too short
short : (y c t : ℕ) → (y < t) ⊎ ((t ≤ y) × (c < t)) → (leb t y && leb t c) ≡ false
short y c t = ⊎_elim (λ h. rw (lt-leb t y h)) (λ h. rw (le-leb t y h.0, lt-leb t c h.1))

pub returns-then-y-total : goal.returns-then-y-total
unfolding feed_refusal refusal_numbered
returns-then-y-total c =
    let at = c.args in
    let found = opened_ok at.self (sym c.in_ok-raster.ensures) in
    let total = ap (λ (r : Raster). r.layout.total) found.1 in
    rw (
      found.0,
      ← c.all_words.ensures,
      c.if-not-all_words.false,
      short (length at.y.now) (length at.c.now) (total_of at.self.raster) (rw total at c.then-y-total.either),
    )

pub returns : goal.returns
unfolding feed_refusal
returns c =
    let at = c.args in
    let found = opened_ok at.self (sym c.in_ok-raster.ensures) in
    let total = ap (λ (r : Raster). r.layout.total) found.1 in
    rw (
      found.0,
      ← c.all_words.ensures,
      c.if-not-all_words.false,
      le-leb (total_of at.self.raster) (length at.y.now) (rw total at c.if-y-total.false),
      le-leb (total_of at.self.raster) (length at.c.now) (rw total at c.if-c-total.false),
      found.1,
    )

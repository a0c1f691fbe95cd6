use mathlib.Core.Path.{◌≡◌, sym}
use mathlib.Core.Bool.{false, ◌&&◌}
use mathlib.Core.Logic.{◌⊎◌, ⊎_elim}
use Prim.Native.Nat.{ℕ, ◌≤◌, ◌<◌}
use lib.Dec.{leb}
use borrow.Author.Tests.{le-leb, lt-leb}
use Rattle.std.proofs.lemmas.Result.{err_from_is_err_and}
use Rattle.refusal.specs.Refusal.{refusal_numbered}
use Rattle.raster.proofs.Table.{looked_up_ok, looked_up_err}
use Rattle.timing.specs.Line.{line_read}
use Rattle.timing.proofs.read_line.Goals as goal

pub returns-in_err-raster_of : goal.returns-in_err-raster_of
unfolding line_read refusal_numbered
returns-in_err-raster_of c =
    let bad = looked_up_err c.args.raster (sym c.in_err-raster_of.ensures) in
    let p = err_from_is_err_and c.from_residual.result c.from_residual.ensures.1 in
    rw (p.1, p.2, bad.1, bad.0)

-- one of the two words is too high
high : (a b : ℕ) → (1023 < a) ⊎ ((a ≤ 1023) × (1023 < b)) → (leb a 0x3ff && leb b 0x3ff) ≡ false
high a b = ⊎_elim (λ h. rw (lt-leb a 1023 h)) (λ h. rw (le-leb a 1023 h.0, lt-leb b 1023 h.1))

pub returns-then-ln0-gt1023 : goal.returns-then-ln0-gt1023
unfolding line_read refusal_numbered
returns-then-ln0-gt1023 c = rw ((looked_up_ok _ (sym c.in_ok-raster_of.ensures)).0, high _ _ c.then-ln0-gt1023.either)

pub line_from-requires : goal.line_from-requires
line_from-requires c = (looked_up_ok _ (sym c.in_ok-raster_of.ensures)).0

pub returns : goal.returns
unfolding line_read
returns c =
    rw (
      (looked_up_ok _ (sym c.in_ok-raster_of.ensures)).0,
      le-leb _ _ c.if-ln0-gt1023.false,
      le-leb _ _ c.if-ln1-gt1023.false,
      c.line_from.ensures,
    )

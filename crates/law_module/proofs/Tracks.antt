-- Line and carry stay in their range, whatever happens to a row.
use mathlib.Core.Path.{◌≡◌, refl}
use mathlib.Core.Bool.{true}
use mathlib.Core.List.{List}
use Prim.Native.Nat.{ℕ, zero, suc}
use native.Mathlib.Omega.{arith}
use borrow.Author.Tests.{le-leb, ne_eqb}
use Rattle.raster.specs.Table.{raster_ok, rows_of}
use Rattle.raster.specs.Lines.{line_refusal}
use Rattle.crc.proofs.Range.{crc_words_ok}
use Rattle.plan.specs.declared.Plan.{Plan}
use Rattle.plan.specs.Plan.{plan_of}
use Rattle.region.specs.Ancillary.{active_of}
use Rattle.row.specs.Before.{Carry, carry_ok}
use Rattle.row.specs.Row.{judged_by, judged}
use Rattle.recogniser.specs.declared.Event.{Event}
use Rattle.recogniser.specs.declared.Event.TheVariants.{Whole, Early, Late, Astray}
use Rattle.judging.specs.declared.Track.{Track}
use Rattle.judging.specs.Happening.{line_of, line_after, completed, happened}
use Rattle.judging.proofs.Lines.{line_after_range}
use Rattle.session.specs.Session.{track_in}

-- ---- the carry that a row leaves

judged_carry_ok : (code line : ℕ) (carry : Carry) (y c : List ℕ) → carry_ok (judged code line carry y c).carry ≡ true
unfolding judged
judged_carry_ok code line carry y c = go (line_refusal code line) (plan_of code line)
  where
    go : (n : ℕ) (p : Plan) → carry_ok (judged_by n p carry y c).carry ≡ true
    go zero p = rw (crc_words_ok (active_of p y), crc_words_ok (active_of p c))
    go (suc n) p = refl

-- ---- the line

module _ (code : ℕ) (ok : raster_ok code ≡ true) where
  completed_in : (line : ℕ) (carry : Carry) (y c : List ℕ) → track_in (rows_of code) (completed code line carry y c).track ≡ true
  completed_in zero carry y c = refl
  completed_in (suc n) carry y c =
      let r = line_after_range code (suc n) ok in
      rw (
        ne_eqb (line_after code (suc n)) 0 (λ e. omega arith),
        le-leb (line_after code (suc n)) (rows_of code) r.1,
        judged_carry_ok code (suc n) carry y c,
      )

  -- whatever the event and the row, the range is kept
  pub track_kept : (event : Event) (t : Track) (y c : List ℕ) → track_in (rows_of code) t ≡ true → track_in (rows_of code) (happened event code t y c).track ≡ true
  unfolding happened
  track_kept Whole t y c h = completed_in (line_of code t.line y) t.carry y c
  track_kept Early t y c h = refl
  track_kept Late t y c h = refl
  track_kept Astray t y c h = refl
  track_kept _ t y c h = h

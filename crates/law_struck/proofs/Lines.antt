-- The line of a row: it is the raster's where the row after it could be judged, and it does not depend on what follows the line number.
use mathlib.Core.Path.{◌≡◌, refl, sym, ap, ap₂, ◌∙◌}
use mathlib.Core.Bool.{Bool, true, false}
use mathlib.Core.List.{List, [], ◌∷◌}
use Prim.Native.Nat.{ℕ, zero, suc, ◌+◌, ◌-◌, ◌*◌, ◌<◌}
use native.Mathlib.Omega.{arith}
use native.Mathlib.Decide.{ℕ_discrete}
use lib.ListN.{length, take, get_or}
use lib.Seq.{get_or-take}
use Rattle.std.specs.Prelude.{None}
use Rattle.bits.proofs.Choice.{false_not_true}
use Rattle.raster.specs.Table.{raster_ok, total_of}
use Rattle.raster.specs.Lines.{line_refusal}
use Rattle.raster.proofs.Table.{looked_up_range}
use Rattle.timing.specs.Line.{line_read, line_told}
use Rattle.plan.specs.Plan.{plan_of}
use Rattle.row.specs.Before.{Carry, carried}
use Rattle.row.specs.declared.Judged.{Judged}
use Rattle.row.specs.Row.{judged}
use Rattle.row.proofs.Rows.{judged_by-refused}
use Rattle.law_burst.specs.Stretch.{channel_words}
use Rattle.judging.specs.declared.Track.{Track}
use Rattle.judging.specs.declared.Happening.TheVariants.{RowJudged}
use Rattle.judging.specs.Happening.{line_of, completed, happened, happenings}
use Rattle.law_struck.proofs.Pairs.{channel_words-take}
use Rattle.law_struck.proofs.Rows.{whole_row}
use Rattle.law_struck.proofs.Second.{row_line}

-- ---- a row whose CRC could be judged

module _ (code : ℕ) where
  no_carry : (line : ℕ) (carry : Carry) (y c : List ℕ) → (line_refusal code line ≡ 0 → ⊥) → (completed code line carry y c).track.carry ≡ None
  unfolding judged
  no_carry zero carry y c bad = refl
  no_carry (suc n) carry y c bad = ap (λ (j : Judged). j.carry) (judged_by-refused (line_refusal code (suc n)) (plan_of code (suc n)) carry y c bad)

  not_known : (line : ℕ) (carry : Carry) (y c : List ℕ) (l f : ℕ) → carry ≡ None → happenings (completed code line carry y c).happening ≡ RowJudged l f true ∷ [] → ⊥
  not_known zero carry y c l f e h = cc
  not_known (suc n) carry y c l f e h =
      let k : (carried carry).known ≡ true = cc in
      false_not_true (sym (ap (λ (d : Carry). (carried d).known) e) ∙ k)

  pub line_right : (t : Track) (one two : List Bool) (l f : ℕ)
      → happenings (whole_row code (whole_row code t one).track two).happening ≡ RowJudged l f true ∷ [] → line_refusal code (row_line code t one) ≡ 0
  unfolding happened
  line_right t one two l f h = go (ℕ_discrete (line_refusal code (row_line code t one)) 0)
    where
      go : Dec (line_refusal code (row_line code t one) ≡ 0) → line_refusal code (row_line code t one) ≡ 0
      go (yes e) = e
      go (no g) =
          absurd
          (not_known (row_line code (whole_row code t one).track two) (whole_row code t one).track.carry (channel_words true two) (channel_words false two) l f
          (no_carry (row_line code t one) t.carry (channel_words true one) (channel_words false one) g) h)

-- ---- rows with the same first six pairs

line_of-same : (code n : ℕ) (y z : List ℕ) → get_or y 4 0 ≡ get_or z 4 0 → get_or y 5 0 ≡ get_or z 5 0 → line_of code n y ≡ line_of code n z
line_of-same code zero y z e f = ap₂ (λ (v w : ℕ). line_told (line_read code v w)) e f
line_of-same code (suc n) y z e f = refl

module _ (code : ℕ) (raster : raster_ok code ≡ true) (one other : List Bool) (size : length one ≡ 20 * total_of code) (length_other : length other ≡ 20 * total_of code)
    (same : take 120 one ≡ take 120 other) where
  word_same : (i : ℕ) → i < 6 → get_or (channel_words true one) i 0 ≡ get_or (channel_words true other) i 0
  word_same i l =
      let long = (looked_up_range code raster).total_low in
      let all : 20 * total_of code ≡ 20 * (6 + (total_of code - 6)) = omega arith in
      sym (get_or-take 6 (channel_words true one) i 0 l)
      ∙ ap (λ (ws : List ℕ). get_or ws i 0)
      (sym (channel_words-take true 6 (total_of code - 6) one (size ∙ all))
      ∙ ap (channel_words true) same
      ∙ channel_words-take true 6 (total_of code - 6) other (length_other ∙ all))
      ∙ get_or-take 6 (channel_words true other) i 0 l

  pub line_same : (t : Track) → row_line code t one ≡ row_line code t other
  line_same t = line_of-same code t.line (channel_words true one) (channel_words true other) (word_same 4 (omega arith)) (word_same 5 (omega arith))

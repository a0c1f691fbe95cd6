-- Laws of the bits of a built row: an EAV, and the rest.
use mathlib.Core.Path.{◌≡◌, refl, sym, ap₂, ◌∙◌}
use mathlib.Core.Bool.{Bool}
use mathlib.Core.List.{List, [], ◌∷◌, ◌++◌, append_assoc}
use Prim.Native.Nat.{ℕ, ◌+◌, ◌≤◌}
use native.Mathlib.Omega.{arith}
use lib.ListN.{length}
use Rattle.bits.specs.Bits.{bits, word_bits}
use Rattle.bits.proofs.Bits.{length-word_bits}
use Rattle.raster.specs.Table.{total_of}
use Rattle.cable.specs.Channels.{paired}
use Rattle.parts.specs.Parts.{end_to_end}
use Rattle.plan.specs.declared.Plan.{Plan}
use Rattle.plan.specs.Plan.{plan_of}
use Rattle.plan.proofs.Plans.{plan_of-fits, plan_of-total}
use Rattle.stream.specs.Words.{y_blank, c_blank, trs}
use Rattle.row.specs.Before.{Carry, carried}
use Rattle.judging.specs.declared.Track.{Track}
use Rattle.tally.specs.declared.Counts.{Counts}
use Rattle.stepper.specs.Step.{Run, steps}
use Rattle.law_module.specs.Module.{listed}
use Rattle.law_clean.specs.Signal.{Content, row_bits}
use Rattle.law_clean.proofs.Spaced.Spaced.{word}
use Rattle.law_clean.proofs.Stretch.{sent, Stands, grown, grown_early, stands_same, stretch, sent_append, sav_code}
use Rattle.law_clean.proofs.Built.{middle, stream_of_parts, codes}
use Rattle.law_clean.proofs.Verdicts.{ys_of, cs_of, LawfulRow}

-- a module after bits
abbrev pub through : ℕ → List Bool → Run → Run
through code bs x = steps listed code (total_of code) bs x

-- ---- the words of a row

-- what follows the EAV
abbrev pub rest_y : ℕ → ℕ → Carry → Content → List ℕ
rest_y code line carry k =
    let p = plan_of code line in
    middle p (carried carry).known (carried carry).y y_blank (end_to_end k.y.packets) ++ (trs p.codes.sav ++ k.y.active)

abbrev pub rest_c : ℕ → ℕ → Carry → Content → List ℕ
rest_c code line carry k =
    let p = plan_of code line in
    middle p (carried carry).known (carried carry).c c_blank (end_to_end k.c.packets) ++ (trs p.codes.sav ++ k.c.active)

-- the words of a row, part after part
grown_parts : (total a eav sav : ℕ) (m active : List ℕ) → length m ≡ a → 4 + a + 4 + length active ≤ total
    → grown total (4 + a + 4) active (grown total (4 + a) (trs sav) (grown total 4 m (trs eav))) ≡ trs eav ++ (m ++ (trs sav ++ active))
grown_parts total a eav sav m active e room =
    rw (
      grown_early total 4 m (trs eav) (omega arith),
      grown_early total (4 + a) (trs sav) (trs eav ++ m) (omega arith),
      grown_early total (4 + a + 4) active (trs eav ++ m ++ trs sav) (omega arith),
    )
    (simp append_assoc)

-- what holds of bits and stays true with any bits before them stays true with pairs before them
module _ (P : List Bool → Type 0) (longer : (xs bs : List Bool) → P bs → P (xs ++ bs)) where
  abbrev Paired : List ℕ → List ℕ → Type 0
  Paired cs ys = P (word_bits (paired cs ys))

  after_pairs : (us vs cs ys : List ℕ) → length us ≡ length vs → Paired cs ys → Paired (us ++ cs) (vs ++ ys)
  unfolding word_bits paired
  after_pairs [] [] cs ys e h = h
  after_pairs [] (v ∷ vs) cs ys e h = absurd (omega arith)
  after_pairs (u ∷ us) [] cs ys e h = absurd (omega arith)
  after_pairs (u ∷ us) (v ∷ vs) cs ys e h = longer (bits 10 u) _ (longer (bits 10 v) _ (after_pairs us vs cs ys (omega arith) h))

module _ (code line : ℕ) (carry : Carry) (k : Content) where
  abbrev plan : Plan
  plan = plan_of code line

  abbrev eav : ℕ
  eav = plan.codes.eav

  abbrev laid_y : List ℕ
  laid_y = end_to_end k.y.packets

  abbrev laid_c : List ℕ
  laid_c = end_to_end k.c.packets

  pub ys_parts : ys_of code line carry k ≡ trs eav ++ rest_y code line carry k
  ys_parts = stream_of_parts plan (carried carry).known (carried carry).y y_blank k.y.active laid_y

  pub cs_parts : cs_of code line carry k ≡ trs eav ++ rest_c code line carry k
  cs_parts = stream_of_parts plan (carried carry).known (carried carry).c c_blank k.c.active laid_c

  -- four pairs at least
  pub row_long : 60 ≤ length (row_bits plan carry k)
  unfolding paired
  row_long = rw (cs_parts, ys_parts, length-word_bits) (omega arith)

  -- a row's bits end with those of its active words
  pub row_active : (P : List Bool → Type 0) → ((xs bs : List Bool) → P bs → P (xs ++ bs)) → LawfulRow code line carry k
      → P (word_bits (paired k.c.active k.y.active)) → P (row_bits plan carry k)
  row_active P longer row h =
      let sav = trs plan.codes.sav in
      let my = middle plan (carried carry).known (carried carry).y y_blank laid_y in
      let mc = middle plan (carried carry).known (carried carry).c c_blank laid_c in
      rw (cs_parts, ys_parts)
      (after_pairs P longer (trs eav) (trs eav) _ _ refl
      (after_pairs P longer mc my (sav ++ k.c.active) (sav ++ k.y.active) (omega (arith, row.c.long_middle, row.y.long_middle))
      (after_pairs P longer sav sav k.c.active k.y.active refl h)))

  -- ---- its bits

  abbrev sent_row : List ℕ → List ℕ → Run → Run
  sent_row cs ys x = sent code (total_of code) cs ys x

  pub steps_row : (x : Run) → through code (row_bits plan carry k) x
      ≡ sent_row (rest_c code line carry k) (rest_y code line carry k) (sent_row (trs eav) (trs eav) x)
  steps_row x =
      ap₂ (λ (cs ys : List ℕ). sent_row cs ys x) cs_parts ys_parts
      ∙ sent_append code (total_of code) (trs eav) (trs eav) (rest_c code line carry k) (rest_y code line carry k) x refl

  -- the rest, after its EAV
  pub row_rest : LawfulRow code line carry k → (t : Track) (n : Counts) (x : Run) → Stands eav 4 0 t n (trs eav) (trs eav) x
      → Stands 0 (total_of code) 0 t n (ys_of code line carry k) (cs_of code line carry k) (sent_row (rest_c code line carry k) (rest_y code line carry k) x)
  row_rest row t n x s =
      let fits = plan_of-fits code line row.ok in
      let total : plan.places.total ≡ total_of code = plan_of-total code line row.ok in
      let is = codes code line row.ok in
      let sav = plan.codes.sav in
      let ya = k.y.active in
      let ca = k.c.active in
      let my = middle plan (carried carry).known (carried carry).y y_blank laid_y in
      let mc = middle plan (carried carry).known (carried carry).c c_blank laid_c in
      let my_long = row.y.long_middle in
      let mc_long = row.c.long_middle in
      let ya_long = row.y.long in
      let ca_long = row.c.long in
      let x1 = sent_row mc my x in
      let x2 = sent_row (trs sav) (trs sav) x1 in
      let s1 =
      stretch code (total_of code) t n mc my eav 4 (trs eav) (trs eav) x (word is.eav_some row.c.spaced_middle) (omega arith)
      row.c.tens_middle row.y.tens_middle (omega arith) (omega arith) s in
      let s2 = sav_code code (total_of code) t n sav 0 (4 + length mc) _ _ x1 is.sav_low is.sav_not (omega arith) (omega arith) s1 in
      let s3 =
      stretch code (total_of code) t n ca ya sav (4 + length mc + 4) _ _ x2 (word is.sav_some row.c.spaced_active) (omega arith)
      row.c.tens_active row.y.tens_active (omega arith) (omega arith) s2 in
      stands_same (omega arith)
      (grown_parts (total_of code) (length mc) eav sav my ya (omega arith) (omega arith) ∙ sym ys_parts)
      (grown_parts (total_of code) (length mc) eav sav mc ca refl (omega arith) ∙ sym cs_parts)
      (sent_append code (total_of code) mc my (trs sav ++ ca) (trs sav ++ ya) x (omega arith)
      ∙ sent_append code (total_of code) (trs sav) (trs sav) ca ya x1 refl)
      s3

-- The words of a row that is built or corrected are at most 3FF.
use mathlib.Core.Path.{◌≡◌, refl}
use mathlib.Core.Bool.{Bool, true, false}
use mathlib.Core.List.{List, [], ◌∷◌, ◌++◌}
use Prim.Native.Nat.{ℕ, ◌-◌, ◌≤◌}
use native.Mathlib.Omega.{arith}
use native.Mathlib.Decide.{dec_le}
use lib.ListN.{length, replicate}
use Rattle.bits.specs.Words.{words10}
use Rattle.bits.proofs.Words.{tens_append, tens_blanks, tens_take, words10_cons}
use Rattle.crc.specs.Crc.{words_given}
use Rattle.crc.proofs.Words.{cr_range, cr_words-done, cr_words_register}
use Rattle.raster.specs.Lines.{line_refusal}
use Rattle.timing.proofs.Codes.{xyz_range}
use Rattle.timing.proofs.Line.{line_range}
use Rattle.plan.specs.declared.Codes.{Codes}
use Rattle.plan.specs.declared.Plan.{Plan}
use Rattle.plan.specs.Plan.{codes_of, plan_of}
use Rattle.plan.proofs.Plans.{plan_of-found}
use Rattle.region.specs.Region.{mended, wiped}
use Rattle.stream.specs.Words.{check_words, covered_by, head_words, line_words_of, trs}
use Rattle.repair.specs.Repair.{corrected_stream, put_right, wiped_if, with_codes, with_crc, with_sums}
use Rattle.compose.specs.Compose.{crc_for, stream_of}
use Rattle.law_row.proofs.Tens.{tens_in_regions, tens_laid, tens_mended, tens_wiped}

-- ---- the words that are made

record Low (c : Codes) : Type 0 where
  eav : c.eav ≤ 0x3ff
  sav : c.sav ≤ 0x3ff
  ln0 : c.ln0 ≤ 0x3ff
  ln1 : c.ln1 ≤ 0x3ff

low_codes : (f v : Bool) (line : ℕ) → Low (codes_of f v line)
low_codes f v line =
    record {
      eav = omega (arith, xyz_range f v true);
      sav = omega (arith, xyz_range f v false);
      ln0 = omega (arith, line_range line);
      ln1 = omega (arith, line_range line);
    }

low_of : (code line : ℕ) → line_refusal code line ≡ 0 → Low (plan_of code line).codes
low_of code line ok = rw (plan_of-found code line ok) (low_codes _ _ line)

tens_two : (a b : ℕ) → a ≤ 0x3ff → b ≤ 0x3ff → words10 (a ∷ b ∷ []) ≡ true
unfolding words10
tens_two a b h k = words10_cons a (b ∷ []) h (words10_cons b [] k refl)

tens_trs : (xyz : ℕ) → xyz ≤ 0x3ff → words10 (trs xyz) ≡ true
unfolding words10
tens_trs xyz h = words10_cons xyz [] h refl

tens_checks : (p : Plan) (r : ℕ) → words10 (check_words p r) ≡ true
tens_checks p r = tens_take p.places.checks _ (go (dec_le r 0x3ffff))
  where
    go : Dec (r ≤ 0x3ffff) → words10 ((words_given r).cr0 ∷ (words_given r).cr1 ∷ []) ≡ true
    go (yes h) = rw (cr_words-done r h) (tens_two _ _ (omega (arith, cr_range r)) (omega (arith, cr_range r)))
    go (no h) = let past = cr_words_register r (omega arith) in rw past (tens_two 0 0 (omega arith) (omega arith))

module _ (code line : ℕ) (ok : line_refusal code line ≡ 0) where
  abbrev p : Plan
  p = plan_of code line

  tens_lines : words10 (line_words_of p) ≡ true
  tens_lines = let low = low_of code line ok in tens_take p.places.lines _ (tens_two p.codes.ln0 p.codes.ln1 low.ln0 low.ln1)

  -- ---- a row that is built

  tens_crc_for : (known : Bool) (r : ℕ) → words10 (crc_for p known r) ≡ true
  tens_crc_for true r = tens_checks p _
  tens_crc_for false r = tens_take p.places.checks _ (tens_two 0x200 0x200 (omega arith) (omega arith))

  pub tens_stream_of : (known : Bool) (r blank : ℕ) (active laid : List ℕ) → blank ≤ 0x3ff → words10 active ≡ true → words10 laid ≡ true
      → words10 (stream_of p known r blank active laid) ≡ true
  unfolding stream_of
  tens_stream_of known r blank active laid h a l =
      let low = low_of code line ok in
      let rest = replicate (p.places.blanks - length laid) blank in
      tens_append (head_words p) _ (tens_append (trs p.codes.eav) (line_words_of p) (tens_trs p.codes.eav low.eav) tens_lines)
      (tens_append (crc_for p known r) _ (tens_crc_for known r)
      (tens_append (laid ++ rest) _ (tens_append laid rest l (tens_blanks (p.places.blanks - length laid) blank h))
      (tens_append (trs p.codes.sav) active (tens_trs p.codes.sav low.sav) a)))

  -- ---- a row that is corrected

  tens_wiped_if : (wipe : Bool) (blank : ℕ) (ws : List ℕ) → blank ≤ 0x3ff → words10 ws ≡ true → words10 (wiped_if wipe p blank ws) ≡ true
  unfolding wiped_if
  tens_wiped_if true blank ws h t = tens_in_regions (wiped blank) (tens_wiped blank h) p ws t
  tens_wiped_if false blank ws h t = t

  tens_with_codes : (ws : List ℕ) → words10 ws ≡ true → words10 (with_codes p ws) ≡ true
  unfolding with_codes
  tens_with_codes ws t =
      let low = low_of code line ok in
      tens_laid p.places.sav (trs p.codes.sav) _ (tens_trs p.codes.sav low.sav)
      (tens_laid 4 (line_words_of p) _ tens_lines (tens_laid 0 (trs p.codes.eav) ws (tens_trs p.codes.eav low.eav) t))

  tens_with_crc : (known : Bool) (r : ℕ) (ws : List ℕ) → words10 ws ≡ true → words10 (with_crc p known r ws) ≡ true
  unfolding with_crc
  tens_with_crc true r ws t = tens_laid p.places.crc (check_words p (covered_by p r ws)) ws (tens_checks p _) t
  tens_with_crc false r ws t = t

  pub tens_corrected : (wipe : Bool) (blank : ℕ) (known : Bool) (r : ℕ) (ws : List ℕ) → blank ≤ 0x3ff → words10 ws ≡ true
      → words10 (corrected_stream p wipe blank known r ws) ≡ true
  unfolding put_right with_sums
  tens_corrected wipe blank known r ws h t =
      tens_with_crc known r _ (tens_with_codes _ (tens_in_regions mended tens_mended p _ (tens_wiped_if wipe blank ws h t)))

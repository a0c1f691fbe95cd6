-- "At least one check code is flagged."
use mathlib.Core.Path.{◌≡◌, sym, ap, ◌∙◌}
use mathlib.Core.Bool.{Bool, true, false}
use mathlib.Core.List.{List, [], ◌∷◌, ◌++◌, reverse_aux}
use mathlib.Core.Logic.{◌⊎◌, inl, inr}
use Prim.Native.Nat.{ℕ, ◌+◌, ◌-◌, ◌*◌, ◌≤◌}
use native.Mathlib.Omega.{arith}
use lib.ListN.{length, take, length-append}
use Rattle.std.proofs.lemmas.Bool.{true_from_ne_false}
use Rattle.bits.proofs.Lists.{cons_head, cons_tail}
use Rattle.crc.specs.Crc.{crc_start, crc_bits, crc_words, cr0, cr1}
use Rattle.crc.proofs.Steps.{crc_words-bits}
use Rattle.crc.proofs.Burst.{burst_of_cr}
use Rattle.cable.specs.Bits.{past}
use Rattle.cable.specs.Words.{grouped}
use Rattle.cable.specs.Channels.{channel_bits}
use Rattle.cable.proofs.Bits.{length-unscrambled}
use Rattle.cable.proofs.Coding.{length-grouped}
use Rattle.cable.proofs.Channels.{place_after, Run}
use Rattle.plan.specs.declared.Plan.{Plan}
use Rattle.plan.specs.Fits.{Fits}
use Rattle.plan.specs.Plan.{plan_of}
use Rattle.plan.proofs.Plans.{plan_of-fits}
use Rattle.law_burst.specs.Stretch.{channel_words, received, flags_in, crc_flagged, BurstFlagged}
use Rattle.law_burst.proofs.Flags.{crc_fault, crc_flagged_clear, clear_words}
use Rattle.law_burst.proofs.Words.{channel_pairs, word_bits_of_grouped, channel_words_of_append}
use Rattle.law_burst.proofs.Received.{received-after, Covered, covered_run}

-- ---- one channel

-- the CRC words of the k words of covered bits
abbrev cr_of : ℕ → List Bool → List ℕ
cr_of k bs = cr0 (crc_words crc_start (grouped k bs)) ∷ cr1 (crc_words crc_start (grouped k bs)) ∷ []

register_of_grouped : (k : ℕ) (bs : List Bool) → length bs ≡ 10 * k → crc_words crc_start (grouped k bs) ≡ crc_bits crc_start bs
register_of_grouped k bs e = crc_words-bits crc_start (grouped k bs) ∙ ap (crc_bits crc_start) (word_bits_of_grouped k bs e)

-- covered bits that are alike but for a run of at most eighteen, with the same CRC words: the runs are alike too
runs_alike : {start : ℕ} (k : ℕ) (xs ys : List Bool) → length xs ≡ 10 * k → length ys ≡ 10 * k → (r : Run start 18 xs ys)
    → cr_of k xs ≡ cr_of k ys → r.one ≡ r.other
runs_alike k xs ys lx ly r e =
    let one = register_of_grouped k xs lx ∙ ap (crc_bits crc_start) r.first in
    let other = register_of_grouped k ys ly ∙ ap (crc_bits crc_start) r.second in
    let same = rw (one, other) at e in
    burst_of_cr crc_start r.ahead r.one r.other r.behind (omega arith) r.equal r.short (cons_head same) (cons_head (cons_tail same))

-- ---- a stretch

-- the pairs that the CRC covers, and all pairs
abbrev covered : Plan → ℕ
covered p = p.places.count + 6

abbrev pairs : Plan → ℕ
pairs p = p.places.count + p.places.total

module _ (p : Plan) (f : Fits p.places) where
  -- both flags clear: in each channel the two words after the covered ones are the CRC words of these
  clear_channel : (xs one rest : List Bool) → xs ≡ one ++ rest → length one ≡ 20 * covered p → length xs ≡ 20 * pairs p
      → crc_flagged (flags_in p xs) ≡ false → (y : Bool)
      → take 2 (grouped (p.places.total - 6) (channel_bits y (place_after (20 * covered p) 0) rest)) ≡ cr_of (covered p) (channel_bits y 0 one)
  clear_channel xs one rest parts size whole clear y =
      let all : length (one ++ rest) ≡ 20 * (covered p + (p.places.total - 6)) = omega (arith, ap length parts, f.total, f.active, f.sav) in
      let split = channel_words_of_append y (covered p) (p.places.total - 6) one rest size all in
      clear_words p f (grouped (covered p) (channel_bits y 0 one)) _ (length-grouped (covered p) (channel_bits y 0 one))
      (ap (crc_fault p) (sym (ap (channel_words y) parts ∙ split)) ∙ crc_flagged_clear p xs clear y)

  not_both_clear : (xs ys : List Bool) → length xs ≡ 20 * pairs p → length ys ≡ 20 * pairs p → Covered (covered p) xs ys
      → crc_flagged (flags_in p xs) ≡ false → crc_flagged (flags_in p ys) ≡ false → ⊥
  not_both_clear xs ys lx ly s cx cy = shown s.runs.shown
    where
      alike : (y : Bool) {start : ℕ} (r : Run start 18 (channel_bits y 0 s.one) (channel_bits y 0 s.other)) → r.one ≡ r.other
      alike y r =
          runs_alike (covered p) (channel_bits y 0 s.one) (channel_bits y 0 s.other)
          (channel_pairs y (covered p) s.one s.length_one) (channel_pairs y (covered p) s.other s.length_other) r
          (sym (clear_channel xs s.one s.rest s.of_one s.length_one lx cx y)
          ∙ clear_channel ys s.other s.rest s.of_other s.length_other ly cy y)

      shown : (s.runs.c.one ≡ s.runs.c.other → ⊥) ⊎ (s.runs.y.one ≡ s.runs.y.other → ⊥) → ⊥
      shown (inl differ) = differ (alike false s.runs.c)
      shown (inr differ) = differ (alike true s.runs.y)

-- ---- the theorem

pub burst_flagged : BurstFlagged
unfolding BurstFlagged
burst_flagged code line h before a m n z ok whole equal short differ inside clear =
    let p = plan_of code line in
    let f = plan_of-fits code line ok in
    let q = reverse_aux before (past h) in
    let after = received-after h before in
    let long : 20 * covered p ≤ length (a ++ (m ++ z)) = omega (arith, f.total, f.active, f.sav) in
    let same : length (a ++ (n ++ z)) ≡ length (a ++ (m ++ z)) = simp length-append (omega arith) in
    true_from_ne_false _
    (not_both_clear p f (received h before (a ++ (m ++ z))) (received h before (a ++ (n ++ z)))
    (ap length (after (a ++ (m ++ z))) ∙ length-unscrambled (a ++ (m ++ z)) q ∙ whole)
    (ap length (after (a ++ (n ++ z))) ∙ length-unscrambled (a ++ (n ++ z)) q ∙ same ∙ whole)
    (rw (after (a ++ (m ++ z)), after (a ++ (n ++ z))) (covered_run q a m n z (covered p) equal short differ inside long))
    clear)

-- Two rows that were received: what the check of the next one sees of the stretch, and a run of the stretch changed.
use mathlib.Core.Path.{◌≡◌, sym, ap, ap₂, ◌∙◌}
use mathlib.Core.Bool.{Bool, true, false}
use mathlib.Core.List.{List, ◌++◌}
use Prim.Native.Nat.{ℕ, ◌+◌, ◌*◌, ◌≤◌}
use native.Mathlib.Omega.{arith}
use lib.ListN.{drop, length, length-append, length-drop, take}
use lib.Seq.{drop_at, drop-drop, length-take-le, take-add, take_all, take-take}
use Rattle.std.specs.Prelude.{Result, Ok}
use Rattle.bits.specs.Bits.{word_bits}
use Rattle.bits.specs.Words.{words10}
use Rattle.bits.proofs.Bits.{length-word_bits}
use Rattle.bits.proofs.Words.{tens_drop, tens_take}
use Rattle.refusal.specs.declared.Refusal.{Refusal}
use Rattle.refusal.proofs.Answers.{ok_same}
use Rattle.crc.proofs.Range.{crc_words_ok}
use Rattle.cable.specs.Bits.{past, unscrambled}
use Rattle.cable.specs.Channels.{paired}
use Rattle.cable.specs.Words.{unscramble_words}
use Rattle.cable.proofs.Words.{unscrambled_words_bits, unscramble_range}
use Rattle.parts.specs.Parts.{part}
use Rattle.plan.specs.Plan.{plan_of}
use Rattle.plan.proofs.Plans.{plan_of-fits, plan_of-found}
use Rattle.plan.proofs.Rows.{RowFits}
use Rattle.region.specs.Ancillary.{active_of}
use Rattle.row.specs.Before.{Carry, carry_ok}
use Rattle.row.specs.declared.Judged.{Judged}
use Rattle.row.specs.Row.{carry_after, flags_of}
use Rattle.law_row.proofs.Checked.{row_checked}
use Rattle.law_burst.specs.Stretch.{BurstFlagged, channel_words, crc_flagged, flags_in, received}
use Rattle.law_burst.specs.TwoRows.{next_checked, Struck, total, TwoRows}
use Rattle.law_burst.proofs.Flagged.{burst_flagged}
use Rattle.law_burst.proofs.Channels.{channel_words-after, tens_of_paired}

-- the active words of a row that other words follow
active_of_first : (at count : ℕ) (ws : List ℕ) → at + count ≤ length ws → part at count (part 0 (at + count) ws) ≡ take count (drop at ws)
active_of_first at count ws h =
    ap (λ (l : List ℕ). take count (drop at l)) (take-add at count ws)
    ∙ ap (take count) (drop_at (take at ws) (take count (drop at ws)) at (length-take-le at ws (omega arith)))
    ∙ take-take count count (drop at ws) (omega arith)

-- ---- the check of the next row

module _
    (code line next : ℕ)
    (carry : Carry)
    (history : ℕ)
    (cable : List ℕ)
    (room y_room c_room : ℕ)
    (t : TwoRows code line next carry history cable room y_room c_room)
  where
    abbrev n : ℕ
    n = total code line

    -- a line's places are its raster's
    same_places : (plan_of code next).places ≡ (plan_of code line).places
    same_places = ap (λ p. p.places) (plan_of-found code next t.ok_next) ∙ sym (ap (λ p. p.places) (plan_of-found code line t.ok))

    module _ (ys cs : List ℕ) (ly : length ys ≡ y_room) (lc : length cs ≡ c_room) (sent : paired cs ys ≡ unscramble_words history cable) where
      tens : (words10 cs ≡ true) × (words10 ys ≡ true)
      tens = tens_of_paired cs ys (lc ∙ t.c_size ∙ sym (ly ∙ t.y_size)) (ap words10 sent ∙ unscramble_range cable history)

      half_long : (ws : List ℕ) → length ws ≡ 2 * n → length (part n n ws) ≡ n
      half_long ws e = length-take-le n (drop n ws) (omega (arith, length-drop n ws))

      first_fits : RowFits code line (part 0 n ys) (part 0 n cs)
      first_fits =
          record {
            ok = t.ok;
            y_length = length-take-le n ys (omega (arith, t.y_size));
            c_length = length-take-le n cs (omega (arith, t.c_size));
            y_words = tens_take n ys tens.1;
            c_words = tens_take n cs tens.0;
          }

      second_fits : RowFits code next (part n n ys) (part n n cs)
      second_fits =
          let same : n ≡ (plan_of code next).places.total = sym (ap (λ p. p.total) same_places) in
          record {
            ok = t.ok_next;
            y_length = half_long ys (ly ∙ t.y_size) ∙ same;
            c_length = half_long cs (lc ∙ t.c_size) ∙ same;
            y_words = tens_take n (drop n ys) (tens_drop n ys tens.1);
            c_words = tens_take n (drop n cs) (tens_drop n cs tens.0);
          }

      -- the carry that the first row leaves
      abbrev left : Carry
      left = carry_after (plan_of code line) (part 0 n ys) (part 0 n cs)

      left_ok : carry_ok left ≡ true
      left_ok =
          rw (
            crc_words_ok (active_of (plan_of code line) (part 0 n ys)),
            crc_words_ok (active_of (plan_of code line) (part 0 n cs)),
          )

      pub next_done : {seen : Result Judged Refusal} → seen ≡ next_checked code line next carry ys cs
          → seen
          ≡ Ok (record {
            flags = flags_of (plan_of code next) left (part n n ys) (part n n cs);
            carry = carry_after (plan_of code next) (part n n ys) (part n n cs);
          })
      unfolding next_checked
      next_done k =
          rw (k, row_checked code line (part 0 n ys) (part 0 n cs) first_fits carry t.registers)
          (row_checked code next (part n n ys) (part n n cs) second_fits left left_ok)

      -- ---- the stretch

      in_stretch : (before stretch : List Bool) → word_bits cable ≡ before ++ stretch → length before ≡ 20 * (plan_of code line).places.active
          → received history before stretch ≡ drop (20 * (plan_of code line).places.active) (word_bits (paired cs ys))
      in_stretch before stretch split start =
          ap₂ drop start (ap (unscrambled (past history)) (sym split) ∙ sym (unscrambled_words_bits cable history) ∙ ap word_bits (sym sent))

      -- of a channel's words after the first row's first active ones: those, and the next row
      channel_parts : (ws : List ℕ) → length ws ≡ 2 * n
          → (take (plan_of code next).places.count (drop (plan_of code line).places.active ws) ≡ active_of (plan_of code line) (part 0 n ws))
          × (drop (plan_of code next).places.count (drop (plan_of code line).places.active ws) ≡ part n n ws)
      channel_parts ws e =
          let f = plan_of-fits code line t.ok in
          let at = (plan_of code line).places.active in
          let count = (plan_of code line).places.count in
          let same : (plan_of code next).places.count ≡ count = ap (λ p. p.count) same_places in (
            ap (λ (k : ℕ). take k (drop at ws)) same
                ∙ sym (ap (λ (k : ℕ). part at count (part 0 k ws)) (sym f.total) ∙ active_of_first at count ws (omega (arith, f.total))),
            ap (λ (k : ℕ). drop k (drop at ws)) same
                ∙ drop-drop count at ws
                ∙ ap (λ (k : ℕ). drop k ws) f.total
                ∙ sym (take_all n (drop n ws) (omega (arith, length-drop n ws))),
          )

      stretch_flags : (before stretch : List Bool) → word_bits cable ≡ before ++ stretch → length before ≡ 20 * (plan_of code line).places.active
          → flags_in (plan_of code next) (received history before stretch) ≡ flags_of (plan_of code next) left (part n n ys) (part n n cs)
      stretch_flags before stretch split start =
          let at = (plan_of code line).places.active in
          let bs = received history before stretch in
          let words = channel_words-after at cs ys (lc ∙ t.c_size ∙ sym (ly ∙ t.y_size)) (ap words10 sent ∙ unscramble_range cable history) in
          let e = in_stretch before stretch split start in
          let y = ap (channel_words true) e ∙ words.1 in
          let c = ap (channel_words false) e ∙ words.0 in
          let py = channel_parts ys (ly ∙ t.y_size) in
          let pc = channel_parts cs (lc ∙ t.c_size) in
          rw (y, c, py.0, py.1, pc.0, pc.1)

      pub next_seen : {seen : Result Judged Refusal} {judged : Judged} → seen ≡ next_checked code line next carry ys cs → seen ≡ Ok judged
          → (before stretch : List Bool) → word_bits cable ≡ before ++ stretch → length before ≡ 20 * (plan_of code line).places.active
          → judged.flags ≡ flags_in (plan_of code next) (received history before stretch)
      next_seen k done before stretch split start =
          ap (λ r. r.flags) (ok_same done (next_done k)) ∙ sym (stretch_flags before stretch split start)

-- ---- a run changed

module _
    (code line next : ℕ)
    (carry : Carry)
    (history : ℕ)
    (one other : List ℕ)
    (room y_room c_room : ℕ)
    (t : TwoRows code line next carry history one room y_room c_room)
    (before a m n z : List Bool)
    (s : Struck code line one other before a m n z)
  where
    -- the stretch is row k's active pairs and row k+1
    stretch_long : length (a ++ (m ++ z)) ≡ 20 * ((plan_of code next).places.count + (plan_of code next).places.total)
    stretch_long =
        let f = plan_of-fits code line t.ok in
        let same = same_places code line next carry history one room y_room c_room t in
        let bits : length before + length (a ++ (m ++ z)) ≡ length one * 10 = sym (length-append before (a ++ (m ++ z))) ∙ sym (ap length s.of_one) ∙ length-word_bits one in
        omega (arith, s.start, t.size, f.total, ap (λ p. p.count) same, ap (λ p. p.total) same)

    run_flagged : crc_flagged (flags_in (plan_of code next) (received history before (a ++ (m ++ z)))) ≡ false
        → crc_flagged (flags_in (plan_of code next) (received history before (a ++ (n ++ z)))) ≡ true
    unfolding BurstFlagged
    run_flagged =
        let same = same_places code line next carry history one room y_room c_room t in
        burst_flagged code next history before a m n z t.ok_next stretch_long s.equal s.short s.differ
        (omega (arith, s.inside, ap (λ p. p.count) same))

    pub rows_flagged : {f g : ℕ} → f ≡ flags_in (plan_of code next) (received history before (a ++ (m ++ z)))
        → g ≡ flags_in (plan_of code next) (received history before (a ++ (n ++ z))) → crc_flagged f ≡ false → crc_flagged g ≡ true
    rows_flagged ef eg clear = ap crc_flagged eg ∙ run_flagged (sym (ap crc_flagged ef) ∙ clear)

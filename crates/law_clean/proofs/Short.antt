-- No sync ends in fewer than 53 bits after a lawful row: its last words are not reserved.
use mathlib.Core.Path.{◌≡◌, refl, sym, ap, subst, ◌∙◌}
use mathlib.Core.Bool.{Bool, true, false}
use mathlib.Core.List.{List, [], ◌∷◌, ◌++◌, append_assoc, append-nil}
use Prim.Native.Nat.{ℕ, zero, suc, ◌+◌, ◌/◌, ◌%◌, ◌≤◌, ◌<◌}
use native.Mathlib.Omega.{arith}
use native.Mathlib.Decide.{dec_lt, dec_le}
use lib.ListN.{length, take, drop, get_or, replicate, length-append, length-drop}
use lib.Seq.{drop-append_seam, get_or-append-add, get_or-drop}
use borrow.Author.Tests.{le-leb, lt-leb}
use Rattle.bits.specs.Bits.{bits, number, word_bits}
use Rattle.bits.specs.Words.{words10, reserved_code}
use Rattle.bits.proofs.Choice.{false_not_true, and-true}
use Rattle.bits.proofs.Bits.{number-bits, number_shr}
use Rattle.bits.proofs.Lists.{cons_equal}
use Rattle.bits.proofs.Words.{words10_head, words10_tail}
use Rattle.raster.specs.Layout.{sync_of, hd_unit}
use Rattle.raster.specs.Lines.{line_refusal}
use Rattle.cable.specs.Channels.{paired}
use Rattle.align.specs.Sync.{starts_with}
use Rattle.align.proofs.FirstSync.{starts_of_append, sync_ones, sync_zeros}
use Rattle.parts.specs.Parts.{any}
use Rattle.parts.proofs.Comparing.{any_cons}
use Rattle.plan.specs.Plan.{plan_of}
use Rattle.plan.proofs.Plans.{plan_of-fits}
use Rattle.row.specs.Before.{Carry, carry_ok}
use Rattle.judging.specs.Happening.{line_after}
use Rattle.judging.proofs.Lines.{line_after_ok}
use Rattle.law_clean.specs.Signal.{Content, lawful_row, row_bits, carry_from, signal_bits, lawful, OnlyAtStart, CleanPasses, CleanPassesShort}
use Rattle.law_clean.proofs.Sliding.{pair_bits, length_pair_bits}
use Rattle.law_clean.proofs.Verdicts.{LawfulRow}
use Rattle.law_clean.proofs.Rests.{row_active}
use Rattle.law_clean.proofs.Sequence.{carry_from_ok, lawful_row_holds}
use Rattle.law_clean.proofs.Clean.{clean_passes}

-- ---- the last pair of a signal

-- bits that end with a pair of words that are not reserved
data Ends : List Bool → Type 0 where
  pair : (before : List Bool) (c y : ℕ) → c < 0x3fc → 4 ≤ y → y < 0x3fc → Ends (before ++ pair_bits c y)

ends_append : (xs bs : List Bool) → Ends bs → Ends (xs ++ bs)
ends_append xs bs (pair before c y hc low high) = subst Ends (append_assoc xs before (pair_bits c y)) (pair (xs ++ before) c y hc low high)

-- ten-bit words that are not reserved
abbrev Plain : List ℕ → Type 0
Plain ws = (words10 ws ≡ true) × (any reserved_code ws ≡ false)

plain_head : (w : ℕ) (ws : List ℕ) → Plain (w ∷ ws) → (4 ≤ w) × (w < 0x3fc)
unfolding reserved_code
plain_head w ws plain = go (words10_head w ws plain.0) (any_cons reserved_code w ws plain.1).0 (dec_lt w 4) (dec_lt w 0x3fc)
  where
    go : w ≤ 0x3ff → reserved_code w ≡ false → Dec (w < 4) → Dec (w < 0x3fc) → (4 ≤ w) × (w < 0x3fc)
    go ten e (yes l) d = absurd (false_not_true (sym (rw (le-leb w 3 (omega arith)) at e)))
    go ten e (no g) (no h) = absurd (false_not_true (sym (rw (lt-leb w 3 (omega arith), le-leb 0x3fc w (omega arith), le-leb w 0x3ff ten) at e)))
    go ten e (no g) (yes h) = (omega arith, h)

plain_tail : (w : ℕ) (ws : List ℕ) → Plain (w ∷ ws) → Plain ws
plain_tail w ws plain = (words10_tail w ws plain.0, (any_cons reserved_code w ws plain.1).1)

ends_plain : (cs ys : List ℕ) → length cs ≡ length ys → 1 ≤ length cs → Plain cs → Plain ys → Ends (word_bits (paired cs ys))
unfolding word_bits paired bits
ends_plain (c ∷ []) (y ∷ []) e some pc py = let hy = plain_head y [] py in pair [] c y (plain_head c [] pc).1 hy.0 hy.1
ends_plain (c ∷ d ∷ cs) (y ∷ ys) e some pc py =
    ends_append (bits 10 c) _ (ends_append (bits 10 y) _ (ends_plain (d ∷ cs) ys (omega arith) (omega arith) (plain_tail c (d ∷ cs) pc) (plain_tail y ys py)))
ends_plain cs ys e some pc py = absurd (omega arith)

row_ends : (code line : ℕ) (carry : Carry) (k : Content) → LawfulRow code line carry k → Ends (row_bits (plan_of code line) carry k)
row_ends code line carry k row =
    row_active code line carry k Ends ends_append row
    (ends_plain k.c.active k.y.active (row.c.long ∙ sym row.y.long) (omega (arith, row.c.long, (plan_of-fits code line row.ok).count_low))
    (row.c.tens_active, row.c.plain) (row.y.tens_active, row.y.plain))

signal_ends : (ks : List Content) (code line : ℕ) (carry : Carry) (k : Content) → LawfulRow code line carry k
    → lawful code (line_after code line) ks ≡ true → Ends (signal_bits code line carry (k ∷ ks))
unfolding signal_bits lawful
signal_ends [] code line carry k row good = subst Ends (sym (append-nil _)) (row_ends code line carry k row)
signal_ends (next ∷ ks) code line carry k row good =
    let g = and-true (lawful_row (plan_of code (line_after code line)) next) _ good in
    let after = lawful_row_holds code (line_after code line) (carry_from k) next (line_after_ok code line row.ok) (carry_from_ok k) g.0 in
    ends_append (row_bits (plan_of code line) carry k) _ (signal_ends ks code (line_after code line) (carry_from k) next after g.1)

-- ---- no sync ends soon after it

-- bits that are all the same
alike : (m : ℕ) (bs : List Bool) (b : Bool) → m ≤ length bs → ((i : ℕ) → i < m → get_or bs i false ≡ b) → take m bs ≡ replicate m b
alike zero bs b l f = refl
alike (suc m) [] b l f = absurd (omega arith)
alike (suc m) (x ∷ bs) b l f = cons_equal (f 0 (omega arith)) (alike m bs b (omega arith) (λ i h. f (suc i) (omega arith)))

module _ (before q u v : List Bool) (c y : ℕ) (split : before ++ (pair_bits c y ++ q) ≡ u ++ (sync_of hd_unit ++ v)) where
  abbrev all : List Bool
  all = before ++ (pair_bits c y ++ q)

  starts : starts_with (sync_of hd_unit) (drop (length u) all) ≡ true
  starts = rw (split, drop-append_seam u (sync_of hd_unit ++ v)) (starts_of_append (sync_of hd_unit) v)

  pair_length : length (pair_bits c y ++ q) ≡ 20 + length q
  pair_length = length-append (pair_bits c y) q ∙ ap (λ (n : ℕ). n + length q) (length_pair_bits c y)

  -- m bits from place a of the pair on
  in_pair : (a m : ℕ) (b : Bool) → a + m ≤ 20 → ((i : ℕ) → length before + a ≤ i → i < length before + a + m → get_or all i false ≡ b)
      → take m (drop a (pair_bits c y ++ q)) ≡ replicate m b
  in_pair a m b room f =
      alike m (drop a (pair_bits c y ++ q)) b (omega (arith, length-drop a (pair_bits c y ++ q), pair_length))
      (λ i h.
      get_or-drop a (pair_bits c y ++ q) i false ∙ sym (get_or-append-add before (pair_bits c y ++ q) (a + i) false)
      ∙ f (length before + (a + i)) (omega arith) (omega arith))

  no_end : c < 0x3fc → 4 ≤ y → y < 0x3fc → length q < 53 → length v < length q → ⊥
  unfolding bits number
  no_end c_high y_low y_high short ends =
      go (dec_le (length before) (length u)) (dec_le (length before) (length u + 10))
      (omega (arith, pair_length, length-append before (pair_bits c y ++ q), ap length split, length-append u (sync_of hd_unit ++ v)))
    where
      go : Dec (length before ≤ length u) → Dec (length before ≤ length u + 10) → length before + 20 + length q ≡ length u + 60 + length v → ⊥
      -- Y ends with eight ones
      go (yes h) d at =
          let e = in_pair 12 8 true (omega arith) (λ i l r. sync_ones hd_unit all (length u) starts i (omega arith) (omega arith)) in
          let z : y % 1024 / 4 ≡ 255 = ap (λ (n : ℕ). n / 4) (sym (number-bits 10 y)) ∙ number_shr 2 (bits 10 y) ∙ ap number e in
          omega arith
      -- C is 3FF
      go (no g) (yes h) at =
          let e = in_pair 0 10 true (omega arith) (λ i l r. sync_ones hd_unit all (length u) starts i (omega arith) (omega arith)) in
          let z : c % 1024 ≡ 1023 = sym (number-bits 10 c) ∙ ap number e in
          omega arith
      -- Y is 000
      go (no g) (no h) at =
          let e = in_pair 10 10 false (omega arith) (λ i l r. sync_zeros hd_unit all (length u) starts i (omega arith) (omega arith)) in
          let z : y % 1024 ≡ 0 = sym (number-bits 10 y) ∙ ap number e in
          omega arith

ends_only : (rows q : List Bool) → Ends rows → length q < 53 → OnlyAtStart rows q
ends_only rows q (pair before c y hc low high) short u v split ends =
    absurd (no_end before q u v c y (sym (append_assoc before (pair_bits c y) q) ∙ split) hc low high short ends)

pub only_at_start_short : (code line : ℕ) (carry : Carry) (k : Content) (ks : List Content) (q : List Bool) → line_refusal code line ≡ 0
    → carry_ok carry ≡ true → lawful code line (k ∷ ks) ≡ true → length q < 53 → OnlyAtStart (signal_bits code line carry (k ∷ ks)) q
unfolding lawful
only_at_start_short code line carry k ks q ok registers right short =
    let g = and-true (lawful_row (plan_of code line) k) _ right in
    ends_only _ q (signal_ends ks code line carry k (lawful_row_holds code line carry k ok registers g.0) g.1) short

pub clean_passes_short : CleanPassesShort
unfolding CleanPassesShort CleanPasses
clean_passes_short code line carry [] ws p q clean short = absurd (omega (arith, clean.count))
clean_passes_short code line carry (k ∷ ks) ws p q clean short =
    clean_passes code line carry (k ∷ ks) ws p q clean (omega arith)
    (only_at_start_short code line carry k ks q clean.line_ok clean.carry_is_ok clean.right short)

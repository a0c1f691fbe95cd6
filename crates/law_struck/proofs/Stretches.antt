-- A changed run in the stretch from a row's active words on: the next row shows a CRC flag.
use mathlib.Core.Path.{◌≡◌, ap, ◌∙◌}
use mathlib.Core.Bool.{Bool, true, false}
use mathlib.Core.List.{List, ◌++◌}
use Prim.Native.Nat.{ℕ, ◌+◌, ◌*◌, ◌≤◌, ◌-◌}
use native.Mathlib.Omega.{arith}
use lib.ListN.{length, take, drop, length-append, length-take, length-drop}
use Rattle.raster.specs.Table.{raster_given, total_of}
use Rattle.raster.specs.Lines.{line_refusal}
use Rattle.cable.specs.Bits.{unscrambled, past}
use Rattle.cable.specs.Words.{start_history}
use Rattle.plan.specs.Plan.{plan_of}
use Rattle.plan.proofs.Plans.{plan_of-found}
use Rattle.law_burst.specs.Stretch.{received, flags_in, crc_flagged, BurstFlagged}
use Rattle.law_burst.proofs.Flagged.{burst_flagged}
use Rattle.law_struck.proofs.Rows.{bits_at}
use Rattle.law_struck.proofs.Streams.{received-run}
use Rattle.law_struck.proofs.Two.{stretch_start, stretch_size}

-- the unscrambled bits of a module's cable bits
abbrev pub data_of : List Bool → List Bool
data_of cable = unscrambled (past start_history) cable

module _ (code line : ℕ) (ok : line_refusal code line ≡ 0) (at : ℕ) (a m n z : List Bool) (equal : length m ≡ length n) where
  pub burst_in_stretch : length m ≤ 18 → (m ≡ n → ⊥)
      → stretch_start code at ≤ length a
      → length a + length m + 10 ≤ stretch_start code at + 20 * ((raster_given code).layout.active + 6)
      → 6 ≤ total_of code
      → stretch_start code at + stretch_size code ≤ length (a ++ (m ++ z))
      → crc_flagged (flags_in (plan_of code line) (bits_at (stretch_start code at) (stretch_size code) (data_of (a ++ (m ++ z))))) ≡ false
      → crc_flagged (flags_in (plan_of code line) (bits_at (stretch_start code at) (stretch_size code) (data_of (a ++ (n ++ z))))) ≡ true
  unfolding BurstFlagged
  burst_in_stretch short differ low high enough inside clear =
      let start = stretch_start code at in
      let size = stretch_size code in
      let plan = plan_of code line in
      let rest = take (start + size - (length a + length m)) z in
      let all : length a + (length m + length z) ≡ length (a ++ (m ++ z)) = simp length-append in
      let same : length (a ++ (n ++ z)) ≡ length (a ++ (m ++ z)) = simp length-append (omega arith) in
      let one : received 0 (take start a) (drop start a ++ (m ++ rest)) ≡ bits_at start size (data_of (a ++ (m ++ z))) =
      received-run 0 start size a m z low (omega arith) inside in
      let other : received 0 (take start a) (drop start a ++ (n ++ rest)) ≡ bits_at start size (data_of (a ++ (n ++ z))) =
      ap (λ (k : ℕ). received 0 (take start a) (drop start a ++ (n ++ take (start + size - (length a + k)) z))) equal
      ∙ received-run 0 start size a n z low (omega arith) (omega arith) in
      let sizes = ap (λ p. p.places) (plan_of-found code line ok) in
      let whole : length (drop start a ++ (m ++ rest)) ≡ 20 * (plan.places.count + plan.places.total) =
      rw sizes (simp length-append (omega (arith, length-drop start a, length-take (start + size - (length a + length m)) z))) in
      let covered : length (drop start a) + length m + 10 ≤ 20 * (plan.places.count + 6) =
      rw sizes (omega (arith, length-drop start a)) in
      rw (← other)
      (burst_flagged code line 0 (take start a) (drop start a) m n rest ok whole equal short differ covered (rw (← one) at clear))

-- The two CRC flags of a stretch, channel by channel, and what it says that one is clear.
use mathlib.Core.Path.{◌≡◌, sym, ap, ap₂, ◌∙◌}
use mathlib.Core.Bool.{Bool, true, false, ◌||◌}
use mathlib.Core.List.{List, [], ◌∷◌, ◌++◌}
use Prim.Native.Nat.{ℕ, ◌+◌}
use native.Mathlib.Omega.{arith}
use lib.ListN.{length, take, drop}
use lib.Seq.{take_at, drop_at, take-add, drop-drop}
use borrow.Author.Tests.{not-false}
use Rattle.bits.specs.Bits.{odd, number}
use Rattle.bits.proofs.Bits.{number_shr, odd-digit}
use Rattle.bits.proofs.Choice.{or_none}
use Rattle.crc.specs.Crc.{crc_start, crc_words, cr0, cr1}
use Rattle.crc.proofs.Steps.{crc_words_of_append}
use Rattle.crc.proofs.Range.{crc_words_range}
use Rattle.crc.proofs.Words.{cr_words-done}
use Rattle.parts.proofs.Comparing.{same_true}
use Rattle.plan.specs.declared.Plan.{Plan}
use Rattle.plan.specs.Fits.{Fits}
use Rattle.stream.specs.declared.Faults.{Faults}
use Rattle.stream.specs.Words.{check_words, checks_of, covered_by}
use Rattle.stream.specs.Faults.{faults_of}
use Rattle.row.specs.Row.{joined, flags_of}
use Rattle.law_burst.specs.Stretch.{channel_words, flags_in, crc_flagged}

-- ---- "3 Y CRC, 4 C CRC"

crc_flagged_of_number : (a b c d e : Bool) (rest : List Bool) → crc_flagged (number (a ∷ b ∷ c ∷ d ∷ e ∷ rest)) ≡ (d || e)
unfolding number
crc_flagged_of_number a b c d e rest =
    let bs = a ∷ b ∷ c ∷ d ∷ e ∷ rest in
    ap₂ ◌||◌ (ap odd (number_shr 3 bs) ∙ odd-digit (number (e ∷ rest)) d) (ap odd (number_shr 4 bs) ∙ odd-digit (number rest) e)

crc_flagged_of_joined : (y c : Faults) → crc_flagged (joined y c) ≡ (y.crc || c.crc)
unfolding joined
crc_flagged_of_joined y c = crc_flagged_of_number _ _ _ _ _ _

-- the CRC fault of row k+1 in one channel of a stretch, given the channel's words
abbrev pub crc_fault : Plan → List ℕ → Bool
crc_fault p ws = (faults_of p true (crc_words crc_start (take p.places.count ws)) (drop p.places.count ws)).crc

pub crc_flagged_clear : (p : Plan) (bs : List Bool) → crc_flagged (flags_in p bs) ≡ false → (y : Bool) → crc_fault p (channel_words y bs) ≡ false
unfolding flags_of
crc_flagged_clear p bs e = go (or_none _ _ (sym (crc_flagged_of_joined _ _) ∙ e))
  where
    go : (crc_fault p (channel_words true bs) ≡ false) × (crc_fault p (channel_words false bs) ≡ false) → (y : Bool) → crc_fault p (channel_words y bs) ≡ false
    go f true = f.0
    go f false = f.1

-- ---- a channel with no CRC fault

crc_fault_clear : (p : Plan) (r : ℕ) (ws : List ℕ) → (faults_of p true r ws).crc ≡ false → checks_of p ws ≡ check_words p (covered_by p r ws)
unfolding faults_of
crc_fault_clear p r ws e = same_true (checks_of p ws) (check_words p (covered_by p r ws)) (not-false _ e)

-- the two words after the covered ones are those of the register over the covered ones
module _ (p : Plan) (f : Fits p.places) (covered rest : List ℕ) (size : length covered ≡ p.places.count + 6) where
  covered_register : covered_by p (crc_words crc_start (take p.places.count (covered ++ rest))) (drop p.places.count (covered ++ rest)) ≡ crc_words crc_start covered
  covered_register =
      let A = p.places.count in
      let ws = covered ++ rest in
      rw f.crc
      (sym (crc_words_of_append crc_start (take A ws) (take 6 (drop A ws))) ∙ ap (crc_words crc_start) (sym (take-add A 6 ws) ∙ take_at covered rest (A + 6) size))

  checks_after : checks_of p (drop p.places.count (covered ++ rest)) ≡ take 2 rest
  checks_after =
      let A = p.places.count in
      rw (f.crc, f.checks) (ap (take 2) (drop-drop 6 A (covered ++ rest) ∙ drop_at covered rest (A + 6) size))

  register_words : (r : ℕ) → r ≡ crc_words crc_start covered → check_words p r ≡ cr0 (crc_words crc_start covered) ∷ cr1 (crc_words crc_start covered) ∷ []
  register_words r e =
      rw (f.checks, e, cr_words-done (crc_words crc_start covered) (omega (arith, crc_words_range crc_start covered (omega arith))))

  pub clear_words : crc_fault p (covered ++ rest) ≡ false → take 2 rest ≡ cr0 (crc_words crc_start covered) ∷ cr1 (crc_words crc_start covered) ∷ []
  clear_words e = sym checks_after ∙ crc_fault_clear p _ _ e ∙ register_words _ covered_register

-- What is laid into the blanking of a row.
use Rattle.std.specs.Prelude.{◌≡◌, false, true, List, ℕ, ◌+◌, ◌≤◌, length}
use Rattle.bits.specs.Words.{reserved_code}
use Rattle.parts.specs.Parts.{any, end_to_end, part}
use Rattle.scan.specs.Scan.{Packet}
use Rattle.plan.specs.Plan.{plan_of}
use Rattle.finding.specs.Find.{wanted}
use Rattle.law_row.specs.Lawful.{all_right}

-- "the words laid in the blanking are whole packets end to end with right checksums, and no active word is a reserved code"
pub record LawfulLine (y_active c_active y_laid c_laid : List ℕ) (y_packets c_packets : List (List ℕ)) : Type 0 where
  pub y_laid_is : y_laid ≡ end_to_end y_packets
  pub c_laid_is : c_laid ≡ end_to_end c_packets
  pub y_right : all_right y_packets ≡ true
  pub c_right : all_right c_packets ≡ true
  pub y_plain : any reserved_code y_active ≡ false
  pub c_plain : any reserved_code c_active ≡ false

-- a place in Y right after the whole packets at the start of its blanking (or after none), of which none is wanted, with room for a
-- packet of these user words
pub record PlaceAfter (code line did sdid : ℕ) (user y : List ℕ) (at : ℕ) (packets : List (List ℕ)) : Type 0 where
  pub place : at ≡ (plan_of code line).places.blank + length (end_to_end packets)
  pub others : part (plan_of code line).places.blank (length (end_to_end packets)) y ≡ end_to_end packets
  pub right : all_right packets ≡ true
  pub unwanted : any (λ p. wanted did sdid (Packet p)) packets ≡ false
  pub room : length (end_to_end packets) + (length user + 7) ≤ (plan_of code line).places.blanks

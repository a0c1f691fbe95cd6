-- What is wrong with one stream of a row, under the row's plan.
use Rattle.std.specs.Prelude.{Bool, not, ◌&&◌, List, [], ℕ}
use Rattle.bits.specs.Choice.{if}
use Rattle.bits.specs.Words.{reserved_code}
use Rattle.parts.specs.Parts.{any, same}
use Rattle.scan.specs.Scan.{cut_piece, wrong_sum}
use Rattle.plan.specs.declared.Plan.{Plan}
use Rattle.region.specs.Ancillary.{active_of, ancillary}
use Rattle.stream.specs.declared.Faults.{Faults}
use Rattle.stream.specs.Words.{trs, line_words_of, check_words, eav_of, lines_of, checks_of, sav_of, covered_by}

-- "Every comparison .. is of all ten bits."
abbrev pub differ : List ℕ → List ℕ → Bool
differ vs ws = not (same vs ws)

-- "reserved code (000-003, 3FC-3FF) in active words where V = 0"
abbrev pub picture_of : Plan → List ℕ → List ℕ
picture_of p ws = if p.v [] (active_of p ws)

-- "TRS and line number are compared .., against raster and expected line, at their fixed places."
-- "With no row before, CRC is neither judged ..": known says whether there was one, r is the register carried from it
unfoldable pub faults_of : Plan → Bool → ℕ → List ℕ → Faults
faults_of p known r ws =
    record {
      eav = differ (eav_of p ws) (trs p.codes.eav);
      sav = differ (sav_of p ws) (trs p.codes.sav);
      line = differ (lines_of p ws) (line_words_of p);
      crc = known && differ (checks_of p ws) (check_words p (covered_by p r ws));
      sum = any wrong_sum (ancillary p ws);
      cut = any cut_piece (ancillary p ws);
      reserved = any reserved_code (picture_of p ws);
    }

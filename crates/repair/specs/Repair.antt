-- Correction of one stream of a row, under the row's plan. "Every other word stays."
use Rattle.std.specs.Prelude.{Bool, List, ℕ}
use Rattle.bits.specs.Choice.{if}
use Rattle.parts.specs.Parts.{laid}
use Rattle.plan.specs.declared.Plan.{Plan}
use Rattle.region.specs.Region.{mended, wiped}
use Rattle.region.specs.Ancillary.{in_regions}
use Rattle.stream.specs.Words.{trs, line_words_of, check_words, covered_by}

-- "If wiping is chosen, the whole packets that one scan finds are first overwritten with blanking"
unfoldable pub wiped_if : Bool → Plan → ℕ → List ℕ → List ℕ
wiped_if wipe p blank ws = if wipe (in_regions p (wiped blank) ws) ws

-- "Correction writes, in this order: checksums, ..
unfoldable pub with_sums : Plan → List ℕ → List ℕ
with_sums p ws = in_regions p mended ws

-- .. TRS and line numbers, ..
unfoldable pub with_codes : Plan → List ℕ → List ℕ
with_codes p ws = laid p.places.sav (trs p.codes.sav) (laid 4 (line_words_of p) (laid 0 (trs p.codes.eav) ws))

-- .. CRC.": "With no row before, CRC is neither judged nor corrected."
unfoldable pub with_crc : Plan → Bool → ℕ → List ℕ → List ℕ
with_crc p known r ws = if known (laid p.places.crc (check_words p (covered_by p r ws)) ws) ws

unfoldable pub put_right : Plan → Bool → ℕ → List ℕ → List ℕ
put_right p known r ws = with_crc p known r (with_codes p (with_sums p ws))

-- "all else .. then follows from the wiped row"
abbrev pub corrected_stream : Plan → Bool → ℕ → Bool → ℕ → List ℕ → List ℕ
corrected_stream p wipe blank known r ws = put_right p known r (wiped_if wipe p blank ws)

-- Extracting the packets of a channel.
use Rattle.std.specs.Prelude.{List, Result, ℕ, leb, length}
use Rattle.bits.specs.Choice.{if}
use Rattle.refusal.specs.declared.Refusal.{Refusal}
use Rattle.refusal.specs.Refusal.{result_of}
use Rattle.scan.specs.Scan.{packets_of}
use Rattle.plan.specs.Plan.{plan_of}
use Rattle.plan.specs.Refusal.{row_refusal, or_refusal}
use Rattle.region.specs.Ancillary.{ancillary}
use Rattle.finding.specs.declared.Channel.{Channel}
use Rattle.finding.specs.declared.Channel.TheVariants.{Y, C}

-- the words of the channel that is meant
abbrev pub channel_of : Channel → List ℕ → List ℕ → List ℕ
channel_of Y y c = y
channel_of C y c = c

-- "Extraction copies all whole packets of a channel, in order, end to end."
unfoldable pub packets_in : ℕ → ℕ → List ℕ → List ℕ
packets_in code line ws = packets_of (ancillary (plan_of code line) ws)

-- "1: output .. too short for the result"
abbrev pub room_refusal : List ℕ → ℕ → ℕ
room_refusal packets room = if (leb (length packets) room) 0 1

unfoldable pub extract_refusal : ℕ → ℕ → Channel → List ℕ → List ℕ → ℕ → ℕ
extract_refusal code line channel y c room =
    or_refusal (row_refusal code line y c) (room_refusal (packets_in code line (channel_of channel y c)) room)

-- how many words were copied
unfoldable pub extracted : ℕ → ℕ → Channel → List ℕ → List ℕ → ℕ → Result ℕ Refusal
extracted code line channel y c room =
    result_of (extract_refusal code line channel y c room) (length (packets_in code line (channel_of channel y c)))

-- Of a row that is built, extraction gives back the packets that were laid.
use mathlib.Core.Path.{◌≡◌, refl, sym, ap, ap₂, ◌∙◌}
use mathlib.Core.Bool.{Bool, true, false}
use mathlib.Core.List.{List, [], ◌++◌, append-nil}
use Prim.Native.Nat.{ℕ, ◌-◌, ◌≤◌}
use native.Mathlib.Omega.{arith}
use lib.Dec.{eqb}
use lib.ListN.{length, replicate}
use lib.Seq.{length-take-le}
use borrow.Author.Tests.{le-leb, ne_eqb}
use Rattle.std.specs.Prelude.{Ok}
use Rattle.bits.specs.Choice.{if}
use Rattle.bits.specs.Words.{reserved_code}
use Rattle.raster.specs.Lines.{line_refusal}
use Rattle.parts.specs.Parts.{any, end_to_end}
use Rattle.parts.proofs.Comparing.{any_of_replicate}
use Rattle.parts.proofs.Laid.{part_over_laid}
use Rattle.scan.specs.Scan.{scan, packets_of}
use Rattle.plan.specs.declared.Plan.{Plan}
use Rattle.plan.specs.Plan.{plan_of}
use Rattle.plan.specs.Refusal.{row_refusal}
use Rattle.plan.proofs.Plans.{plan_of-fits}
use Rattle.plan.proofs.Rows.{RowFits}
use Rattle.finding.specs.declared.Channel.{Channel}
use Rattle.finding.specs.declared.Channel.TheVariants.{Y, C}
use Rattle.finding.specs.Extract.{channel_of, packets_in, extract_refusal, extracted}
use Rattle.finding.proofs.Extracting.{packets_of_laid, packets_of_words, packets_of_both}
use Rattle.stream.specs.Words.{y_blank, c_blank}
use Rattle.row.specs.Before.{Carry, carried}
use Rattle.compose.specs.Compose.{blanking_for, stream_of, y_stream, c_stream, build_refusal}
use Rattle.law_row.specs.Lawful.{all_right}
use Rattle.law_row.proofs.BuiltParts.{blanking_of-stream_of, active_of-stream_of}
use Rattle.law_row.proofs.Calm.{whole_packets, plain_no_zero}
use Rattle.law_row.specs.Laid.{LawfulLine}
use Rattle.law_row.proofs.Checked.{row_taken}
use Rattle.law_row.proofs.BuiltRow.{long_y, long_c, built-fits}
use Rattle.demands.specs.Demands.{built_row, extracted_packets, RowExtracted}
use Rattle.demands.proofs.BuiltRows.{built_row_y, built_row_c}

-- ---- one stream: its packets are those laid, for neither blanking nor an active word is 000

module _
    (code line : ℕ)
    (ok : line_refusal code line ≡ 0)
    (known : Bool)
    (r blank : ℕ)
    (active laid : List ℕ)
    (packets : List (List ℕ))
    (lengths : (length active ≡ (plan_of code line).places.count) × (length laid ≤ (plan_of code line).places.blanks))
    (whole : laid ≡ end_to_end packets)
    (right : all_right packets ≡ true)
    (plain : any reserved_code active ≡ false)
    (some : blank ≡ 0 → ⊥)
  where
    abbrev plan : Plan
    plan = plan_of code line

    abbrev stream : List ℕ
    stream = stream_of plan known r blank active laid

    of_blanking : packets_of (scan (blanking_for plan blank laid)) ≡ laid
    of_blanking =
        let n = plan.places.blanks - length laid in
        let rest = replicate n blank in
        ap (λ (l : List ℕ). packets_of (scan (l ++ rest))) whole
        ∙ packets_of_laid packets rest (whole_packets packets right)
        ∙ ap₂ ◌++◌ (sym whole) (packets_of_words rest (any_of_replicate (λ w. eqb w 0) n blank (ne_eqb blank 0 some)))
        ∙ append-nil laid

    of_active : (v : Bool) → packets_of (scan (if v active [])) ≡ []
    unfolding any
    of_active true = packets_of_words active (plain_no_zero active plain)
    of_active false = packets_of_words [] refl

    packets_of_stream : packets_in code line stream ≡ laid
    unfolding packets_in
    packets_of_stream =
        let sized = plan_of-fits code line ok in
        let blanking = blanking_of-stream_of plan sized known r blank active laid lengths.0 lengths.1 in
        let pictured = active_of-stream_of plan sized known r blank active laid lengths.0 lengths.1 in
        packets_of_both plan stream (blanking_for plan blank laid) (if plan.v active []) (sym blanking)
        (sym (ap (λ (l : List ℕ). if plan.v l []) pictured))
        ∙ ap₂ ◌++◌ of_blanking (of_active plan.v)
        ∙ append-nil laid

-- ---- the row, as it lies in its buffers

module _
    (code line : ℕ)
    (carry : Carry)
    (y_active c_active y_laid c_laid y c : List ℕ)
    (y_packets c_packets : List (List ℕ))
    (made : build_refusal code line carry y_active c_active y_laid c_laid (length y) (length c) ≡ 0)
    (lawful : LawfulLine y_active c_active y_laid c_laid y_packets c_packets)
  where
    abbrev in_y : List ℕ
    in_y = y_stream (plan_of code line) carry y_active y_laid

    abbrev in_c : List ℕ
    in_c = c_stream (plan_of code line) carry c_active c_laid

    abbrev y_row : List ℕ
    y_row = built_row code line in_y y

    abbrev c_row : List ℕ
    c_row = built_row code line in_c c

    fits : RowFits code line in_y in_c
    fits = built-fits code line carry y_active c_active y_laid c_laid y c made

    row_y : y_row ≡ in_y
    row_y = built_row_y code line carry y_active c_active y_laid c_laid y c made

    row_c : c_row ≡ in_c
    row_c = built_row_c code line carry y_active c_active y_laid c_laid y c made

    taken : row_refusal code line y_row c_row ≡ 0
    taken = ap₂ (row_refusal code line) row_y row_c ∙ row_taken code line in_y in_c fits

    given_back : (channel : Channel) → packets_in code line (channel_of channel y_row c_row) ≡ channel_of channel y_laid c_laid
    given_back Y =
        ap (packets_in code line) row_y
        ∙ packets_of_stream code line fits.ok (carried carry).known (carried carry).y y_blank y_active y_laid y_packets
        (long_y code line carry y_active c_active y_laid c_laid y c made) lawful.y_laid_is lawful.y_right lawful.y_plain (λ e. omega arith)
    given_back C =
        ap (packets_in code line) row_c
        ∙ packets_of_stream code line fits.ok (carried carry).known (carried carry).c c_blank c_active c_laid c_packets
        (long_c code line carry y_active c_active y_laid c_laid y c made) lawful.c_laid_is lawful.c_right lawful.c_plain (λ e. omega arith)

    copied : (channel : Channel) (out : List ℕ) → length (channel_of channel y_laid c_laid) ≤ length out
        → (extracted code line channel y_row c_row (length out) ≡ Ok (length (channel_of channel y_laid c_laid)))
        × (extracted_packets code line channel y_row c_row out ≡ channel_of channel y_laid c_laid)
    unfolding extracted extract_refusal
    copied channel out room =
        let packets = channel_of channel y_laid c_laid in
        let back = given_back channel in
        let none : extract_refusal code line channel y_row c_row (length out) ≡ 0 = rw (taken, back, le-leb (length packets) (length out) room) in
        (rw (none, back), rw (none, back) (part_over_laid 0 (length packets) packets out (sym (length-take-le (length packets) out room))))

pub row_extracted : RowExtracted
unfolding RowExtracted
row_extracted code line carry y_active c_active y_laid c_laid y c y_packets c_packets made lawful channel out = (
  given_back code line carry y_active c_active y_laid c_laid y c y_packets c_packets made lawful channel,
  copied code line carry y_active c_active y_laid c_laid y c y_packets c_packets made lawful channel out,
)

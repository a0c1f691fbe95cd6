-- Building a row: "raster, line, carry and, per channel, A active words and up to T-A-12 words laid from the start of the blanking".
use Rattle.std.specs.Prelude.{Bool, ◌&&◌, List, [], ◌∷◌, ◌++◌, ℕ, ◌-◌, eqb, leb, length, take, replicate, Some, Result}
use Rattle.refusal.specs.declared.Refusal.{Refusal}
use Rattle.refusal.specs.Refusal.{result_of}
use Rattle.bits.specs.Choice.{if}
use Rattle.bits.specs.Words.{words10}
use Rattle.crc.specs.Crc.{crc_start, crc_words}
use Rattle.raster.specs.Lines.{line_refusal}
use Rattle.plan.specs.declared.Plan.{Plan}
use Rattle.plan.specs.Plan.{plan_of}
use Rattle.plan.specs.Refusal.{or_refusal}
use Rattle.stream.specs.Words.{y_blank, c_blank, trs, head_words, check_words}
use Rattle.row.specs.Before.{Carry, carried, carry_ok}

-- "Without a carry its CRC words are 200 200."
abbrev pub crc_for : Plan → Bool → ℕ → List ℕ
crc_for p known r =
    if known (check_words p (crc_words r (head_words p))) (take p.places.checks (0x200 ∷ 0x200 ∷ []))

-- "words laid from the start of the blanking; the rest is blanking"
abbrev pub blanking_for : Plan → ℕ → List ℕ → List ℕ
blanking_for p blank laid = laid ++ replicate (p.places.blanks - length laid) blank

-- "EAV 4, LN 2, CRC 2, blanking T-A-12, SAV 4, active A"
unfoldable pub stream_of : Plan → Bool → ℕ → ℕ → List ℕ → List ℕ → List ℕ
stream_of p known r blank active laid =
    head_words p ++ (crc_for p known r ++ (blanking_for p blank laid ++ (trs p.codes.sav ++ active)))

abbrev pub y_stream : Plan → Carry → List ℕ → List ℕ → List ℕ
y_stream p carry active laid = stream_of p (carried carry).known (carried carry).y y_blank active laid

abbrev pub c_stream : Plan → Carry → List ℕ → List ℕ → List ℕ
c_stream p carry active laid = stream_of p (carried carry).known (carried carry).c c_blank active laid

-- "2: .. in building, not A active words or over T-A-12 blanking words"
abbrev pub lengths_ok : Plan → List ℕ → List ℕ → Bool
lengths_ok p active laid = eqb (length active) p.places.count && leb (length laid) p.places.blanks

-- "1: .. row buffer too short .. for T"
abbrev pub room_ok : Plan → ℕ → ℕ → Bool
room_ok p y_room c_room = leb p.places.total y_room && leb p.places.total c_room

-- "Order where several apply: .., 4, 5, 2, 3, .., 1."
abbrev pub refusal_under : Plan → Carry → List ℕ → List ℕ → List ℕ → List ℕ → ℕ → ℕ → ℕ
refusal_under p carry y_active c_active y_laid c_laid y_room c_room =
    if (lengths_ok p y_active y_laid && lengths_ok p c_active c_laid)
    (if (words10 y_active && (words10 y_laid && (words10 c_active && (words10 c_laid && carry_ok carry))))
    (if (room_ok p y_room c_room) 0 1) 3) 2

unfoldable pub build_refusal : ℕ → ℕ → Carry → List ℕ → List ℕ → List ℕ → List ℕ → ℕ → ℕ → ℕ
build_refusal code line carry y_active c_active y_laid c_laid y_room c_room =
    or_refusal (line_refusal code line) (refusal_under (plan_of code line) carry y_active c_active y_laid c_laid y_room c_room)

-- "check, correction and building answer the next [carry]"
abbrev pub built_for : ℕ → List ℕ → List ℕ → Result Carry Refusal
built_for n y_active c_active = result_of n (Some (record { y = crc_words crc_start y_active; c = crc_words crc_start c_active }))

-- A row's flags: what is wrong with its two streams, joined.
use Rattle.std.specs.Prelude.{◌||◌, List, [], ◌∷◌, ℕ, zero, suc, None, Some, Result}
use Rattle.bits.specs.Choice.{if}
use Rattle.bits.specs.Bits.{number}
use Rattle.refusal.specs.declared.Refusal.{Refusal}
use Rattle.refusal.specs.Refusal.{result_of}
use Rattle.raster.specs.Lines.{line_refusal}
use Rattle.plan.specs.declared.Plan.{Plan}
use Rattle.plan.specs.Plan.{plan_of}
use Rattle.plan.specs.Refusal.{row_refusal, or_refusal}
use Rattle.stream.specs.declared.Faults.{Faults}
use Rattle.stream.specs.Words.{register_after}
use Rattle.stream.specs.Faults.{faults_of}
use Rattle.row.specs.declared.Judged.{Judged}
use Rattle.row.specs.Before.{Carry, carried, carry_ok}

-- "Flags, by bit: 0 EAV, 1 SAV, 2 line number, 3 Y CRC, 4 C CRC, 5 Y checksum, 6 C checksum, 7 cut packet, 8 reserved code"
-- "TRS and line number are compared in both channels"
unfoldable pub joined : Faults → Faults → ℕ
joined y c =
    number
    ((y.eav || c.eav)
    ∷ (y.sav || c.sav)
    ∷ (y.line || c.line)
    ∷ y.crc
    ∷ c.crc
    ∷ y.sum
    ∷ c.sum
    ∷ (y.cut || c.cut)
    ∷ (y.reserved || c.reserved)
    ∷ [])

unfoldable pub flags_of : Plan → Carry → List ℕ → List ℕ → ℕ
flags_of p carry y c =
    joined (faults_of p (carried carry).known (carried carry).y y) (faults_of p (carried carry).known (carried carry).c c)

-- "check, correction and building answer the next one"
abbrev pub carry_after : Plan → List ℕ → List ℕ → Carry
carry_after p y c = Some (record { y = register_after p y; c = register_after p c })

-- flags and next carry of a row; nothing to judge by where raster or line are not of the table
abbrev pub judged_by : ℕ → Plan → Carry → List ℕ → List ℕ → Judged
judged_by zero p carry y c = record { flags = flags_of p carry y c; carry = carry_after p y c }
judged_by (suc n) p carry y c = record { flags = 0; carry = None }

unfoldable pub judged : ℕ → ℕ → Carry → List ℕ → List ℕ → Judged
judged code line carry y c = judged_by (line_refusal code line) (plan_of code line) carry y c

-- "Order where several apply: .., 4, 5, 2, 3, .."
unfoldable pub check_refusal : ℕ → ℕ → Carry → List ℕ → List ℕ → ℕ
check_refusal code line carry y c = or_refusal (row_refusal code line y c) (if (carry_ok carry) 0 3)

unfoldable pub checked : ℕ → ℕ → Carry → List ℕ → List ℕ → Result Judged Refusal
checked code line carry y c = result_of (check_refusal code line carry y c) (judged code line carry y c)

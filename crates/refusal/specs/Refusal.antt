-- The numbers of the refusal table, and what a call answers that may refuse.
use Rattle.std.specs.Prelude.{ℕ, zero, suc, eqb, Result, Ok, Err}
use Rattle.bits.specs.Choice.{if}
use Rattle.refusal.specs.declared.Refusal.{Refusal}
use Rattle.refusal.specs.declared.Refusal.TheVariants.{NoRoom, WrongLength, TooHigh, NoRaster, NoLine, NoPacket, OutOfTurn, BadFile}

-- "| no. | given exactly when |"
abbrev pub number_of : Refusal → ℕ
number_of NoRoom = 1
number_of WrongLength = 2
number_of TooHigh = 3
number_of NoRaster = 4
number_of NoLine = 5
number_of NoPacket = 6
number_of OutOfTurn = 7
number_of BadFile = 9

-- the row with a number; the last for every number that is none of the table's, which no definition gives
unfoldable pub refusal_numbered : ℕ → Refusal
refusal_numbered n =
    if (eqb n 1) NoRoom
    (if (eqb n 2) WrongLength
    (if (eqb n 3) TooHigh
    (if (eqb n 4) NoRaster
    (if (eqb n 5) NoLine
    (if (eqb n 6) NoPacket
    (if (eqb n 7) OutOfTurn BadFile))))))

-- "Each call does its work or returns one number of the refusal table": what is answered where the number, "0: done", and the work are these
abbrev pub result_of : {A : Type 0} → ℕ → A → Result A Refusal
result_of zero work = Ok work
result_of (suc n) work = Err (refusal_numbered (suc n))

-- the number that an answer says
abbrev pub refusal_of : {A : Type 0} → Result A Refusal → ℕ
refusal_of (Ok work) = 0
refusal_of (Err refusal) = number_of refusal

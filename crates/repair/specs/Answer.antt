-- Correction of a row of two streams: the row, and the answer.
use Rattle.std.specs.Prelude.{Bool, List, ℕ, Result}
use Rattle.refusal.specs.declared.Refusal.{Refusal}
use Rattle.refusal.specs.Refusal.{result_of}
use Rattle.plan.specs.declared.Plan.{Plan}
use Rattle.plan.specs.Plan.{plan_of}
use Rattle.stream.specs.Words.{y_blank, c_blank}
use Rattle.row.specs.Before.{Carry, carried}
use Rattle.row.specs.Row.{check_refusal, carry_after}
use Rattle.repair.specs.Repair.{corrected_stream}

-- the rows after correction, where it is not refused
abbrev pub corrected_y : Plan → Carry → Bool → List ℕ → List ℕ
corrected_y p carry wipe y = corrected_stream p wipe y_blank (carried carry).known (carried carry).y y

abbrev pub corrected_c : Plan → Carry → Bool → List ℕ → List ℕ
corrected_c p carry wipe c = corrected_stream p wipe c_blank (carried carry).known (carried carry).c c

-- "check, correction and building answer the next [carry]"; a row is refused as where it is checked
unfoldable pub corrected : ℕ → ℕ → Carry → Bool → List ℕ → List ℕ → Result Carry Refusal
corrected code line carry wipe y c =
    result_of (check_refusal code line carry y c)
    (carry_after (plan_of code line) (corrected_y (plan_of code line) carry wipe y) (corrected_c (plan_of code line) carry wipe c))

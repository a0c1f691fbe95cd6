-- A line fits its box where its tag has at most 32 bytes.
use mathlib.Core.Path.{◌≡◌, refl}
use Prim.Native.Nat.{ℕ, ◌≤◌}
use native.Mathlib.Omega.{arith}
use lib.ListN.{length, length-append}
use Rattle.tally.specs.declared.Verdict.{Verdict}
use Rattle.tally.specs.declared.Verdict.TheVariants.{Refused, NoSignal, Fail, Short, Pass}
use Rattle.tally.specs.Tally.{label}
use Rattle.desk.specs.declared.Job.{Job}
use Rattle.desk.specs.declared.Outcome.{Outcome}
use Rattle.desk.specs.declared.Outcome.TheVariants.{Nothing, Done, BadFile}
use Rattle.label.specs.Label.{bad_file_label, decimal, job_label, line_end, label_of, room, tag_text}
use Rattle.label.proofs.Digits.{length_of_decimal_in}

length_of_label : (v : Verdict) → length (label v) ≤ 9
length_of_label Refused = omega arith
length_of_label NoSignal = omega arith
length_of_label Fail = omega arith
length_of_label Short = omega arith
length_of_label Pass = omega arith

pub length_of_job_label : (j : Job) → length (tag_text j.tag) ≤ 32 → length (job_label j) ≤ room
unfolding job_label
length_of_job_label j h =
    simp length-append
    (omega (
      arith,
      length_of_decimal_in 10 j.raster,
      length_of_decimal_in 10 j.counts.rows,
      length_of_decimal_in 10 j.counts.faults,
      length_of_label j.verdict,
    ))

pub length_of_bad_file_label : (n : ℕ) → length (bad_file_label n) ≤ room
unfolding bad_file_label
length_of_bad_file_label n = omega (arith, length-append (decimal n) line_end, length_of_decimal_in 10 n)

-- only a job's line has a tag
pub length_of_label_of : (o : Outcome) → ((j : Job) → o ≡ Done j → length (tag_text j.tag) ≤ 32) → length (label_of o) ≤ room
length_of_label_of Nothing h = omega arith
length_of_label_of (Done j) h = length_of_job_label j (h j refl)
length_of_label_of (BadFile n) h = length_of_bad_file_label n

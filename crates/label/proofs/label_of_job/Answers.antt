-- label_of_job: the parts of the line, one after the other.
use mathlib.Core.Path.{ap, ◌∙◌}
use mathlib.Core.List.{[], append_assoc}
use Rattle.label.specs.Label.{boxed, job_label}
use Rattle.label.proofs.label_of_job.Goals as goal

pub returns : goal.returns
unfolding job_label
returns c =
    let tag = c.write.ensures [] c.empty-line.ensures in
    let raster = c.write_decimal.ensures _ (c.write-2.ensures _ tag) in
    let rows = c.write_decimal-2.ensures _ (c.write-3.ensures _ raster) in
    let faults = c.write_decimal-3.ensures _ (c.write-4.ensures _ rows) in
    let verdict = c.write-6.ensures _ (c.write-5.ensures _ faults) in
    c.push.ensures _ verdict ∙ ap boxed (simp (append_assoc, c.tag_text.ensures, c.as_bytes.ensures.value, c.verdict_text.ensures))

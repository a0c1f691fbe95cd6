use Rattle.row.specs.Row.{flags_of}
use Rattle.row.proofs.Rows.{carried_y, carried_c}
use Rattle.row.proofs.flags.Goals as goal

pub returns : goal.returns
unfolding flags_of
returns c =
    let y = carried_y c.args.carry in
    let c' = carried_c c.args.carry in
    rw (
      c.join.ensures,
      c.faults_of-in_c.ensures,
      c.faults_of-in_y.ensures,
      c.carried-before.ensures,
      y.known,
      y.value,
      c'.known,
      c'.value,
    )

use borrow.Author.Rules.{rules}
use Rattle.refusal.proofs.Answers.{ok_not_err}
use Rattle.law_burst.proofs.TwoRows.{next_done, next_seen}
use Rattle.use_row.proofs.Cases.{is_ok_and}
use Rattle.use_row.proofs.TwoRows.{rows_coded, rows_halves}
use Rattle.use_row.proofs.shows.next_row.Goals as goal

pub returns-in_err-received : goal.returns-in_err-received
returns-in_err-received c = λ t.
    let ok = rows_coded _ _ _ _ _ _ _ _ _ t in
    let half = rows_halves _ _ _ _ _ _ _ _ _ t in
    absurd (ok_not_err (c.received.ensures ok half.0 half.1).0 c.in_err-received.was)

pub returns : goal.returns
returns c = λ t.
    let ok = rows_coded _ _ _ _ _ _ _ _ _ t in
    let half = rows_halves _ _ _ _ _ _ _ _ _ t in
    let sent = (c.received.ensures ok half.0 half.1).1 in
    let done = next_done _ _ _ _ _ _ _ _ _ t _ _ (search rules) (search rules) sent c.rows_checked.ensures in
    is_ok_and _ done (next_seen _ _ _ _ _ _ _ _ _ t _ _ (search rules) (search rules) sent c.rows_checked.ensures done)

use mathlib.Core.List.{◌++◌}
use borrow.Author.Rules.{rules}
use Rattle.law_burst.proofs.TwoRows.{rows_flagged}
use Rattle.use_row.proofs.TwoRows.{rows_resized}
use Rattle.use_row.proofs.shows.struck.Goals as goal

pub returns-in_err-second : goal.returns-in_err-second
returns-in_err-second c = λ _ u. absurd (c.in_err-second.ensures (rows_resized _ _ _ _ _ _ _ _ _ u (search rules) (search rules) (search rules)))

pub returns : goal.returns
returns c = λ t u before a m n z s.
    let seen = c.in_ok-first.ensures t in
    let again = c.in_ok-second.ensures (rows_resized _ _ _ _ _ _ _ _ _ u (search rules) (search rules) (search rules)) in
    rows_flagged _ _ _ _ _ _ _ _ _ _ t before a m n z s (seen before (a ++ (m ++ z)) s.of_one s.start)
    (again before (a ++ (n ++ z)) s.of_other s.start)

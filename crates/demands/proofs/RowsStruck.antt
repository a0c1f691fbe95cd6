-- Of two lines on the cable, a changed run is flagged by a check code of the second.
use mathlib.Core.Path.{refl, ap, ◌∙◌}
use mathlib.Core.List.{◌++◌}
use lib.ListN.{length}
use Rattle.law_burst.proofs.TwoRows.{next_done, next_seen, rows_flagged}
use Rattle.demands.specs.Demands.{flags_shown, RowsStruck}

pub rows_struck : RowsStruck
unfolding RowsStruck
rows_struck code line next carry history one other y_one c_one y_other c_other before a m n z t u sent sent_other s =
    let first = next_done code line next carry history one (length one) (length y_one) (length c_one) t y_one c_one refl refl sent refl in
    let second = next_done code line next carry history other (length other) (length y_other) (length c_other) u y_other c_other refl refl sent_other refl in
    rows_flagged code line next carry history one other (length one) (length y_one) (length c_one) t before a m n z s
    (ap flags_shown first
    ∙ next_seen code line next carry history one (length one) (length y_one) (length c_one) t y_one c_one refl refl sent refl first before (a ++ (m ++ z)) s.of_one s.start)
    (ap flags_shown second
    ∙ next_seen code line next carry history other (length other) (length y_other) (length c_other) u y_other c_other refl refl sent_other refl second before (a ++ (n ++ z)) s.of_other s.start)

-- The law of one happening's counts.
use mathlib.Core.Path.{◌≡◌, refl}
use Rattle.judging.specs.declared.Happening.{Happening}
use Rattle.judging.specs.declared.Happening.TheVariants.{Quiet, RowJudged, Unnumbered, DroppedEarly, DroppedLate, DroppedAstray}
use Rattle.judging.specs.Happening.{happenings}
use Rattle.tally.specs.declared.Counts.{Counts}
use Rattle.tally.specs.Tally.{counted, tallied}

-- one happening: nothing is counted where there is none
pub tallied-happenings : (h : Happening) (n : Counts) → tallied (happenings h) n ≡ counted h n
unfolding tallied
tallied-happenings Quiet n = refl
tallied-happenings (RowJudged line flags known) n = refl
tallied-happenings Unnumbered n = refl
tallied-happenings DroppedEarly n = refl
tallied-happenings DroppedLate n = refl
tallied-happenings DroppedAstray n = refl

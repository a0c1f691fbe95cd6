-- Where the parts of a row lie: they follow one another, and are small.
use Rattle.std.specs.Prelude.{◌≡◌, ◌+◌, ◌≤◌}
use Rattle.plan.specs.declared.Places.{Places}

pub record Fits (p : Places) : Type 0 where
  pub lines : p.lines ≡ 2
  pub crc : p.crc ≡ 6
  pub checks : p.checks ≡ 2
  pub blank : p.blank ≡ 8
  pub sav : 8 + p.blanks ≡ p.sav
  pub active : p.sav + 4 ≡ p.active
  pub total : p.active + p.count ≡ p.total
  pub total_high : p.total ≤ 4125
  pub blanks_high : p.blanks ≤ 2833
  pub count_low : 1280 ≤ p.count
  pub count_high : p.count ≤ 1920

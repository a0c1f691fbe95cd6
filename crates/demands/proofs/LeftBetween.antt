-- What any module leaves is not open, and in range.
use Rattle.law_module.proofs.Alone.{left_shut, left_in_range}
use Rattle.demands.specs.Demands.{LeftBetween}

pub left-between : LeftBetween
unfolding LeftBetween
left-between code feeds x h = (left_shut code feeds x h, left_in_range code feeds x h)

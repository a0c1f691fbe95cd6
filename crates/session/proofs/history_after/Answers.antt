use mathlib.Core.Path.{sym}
use native.Mathlib.Omega.{arith}
use Rattle.session.proofs.Feeding.{unscramble_next_last, unscramble_next_of_none}
use Rattle.session.proofs.history_after.Goals as goal

pub returns-in-0 : goal.returns-in-0
returns-in-0 c = sym (unscramble_next_of_none _ _ c.requires.0 c.in-0.is)

pub returns-in_default : goal.returns-in_default
returns-in_default c = sym (unscramble_next_last _ _ c.requires.1 (omega arith))

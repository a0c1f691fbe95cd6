use Rattle.refusal.specs.Refusal.{refusal_numbered}
use Rattle.compose.proofs.refusal_under.Goals as goal

pub returns-then-not-both_lengths_ok : goal.returns-then-not-both_lengths_ok
unfolding refusal_numbered
returns-then-not-both_lengths_ok c = rw (← c.both_lengths_ok.ensures, c.if-not-both_lengths_ok.true)

pub returns-then-not-numbers_ok : goal.returns-then-not-numbers_ok
unfolding refusal_numbered
returns-then-not-numbers_ok c =
    rw (← c.both_lengths_ok.ensures, c.if-not-both_lengths_ok.false, ← c.numbers_ok.ensures, c.if-not-numbers_ok.true)

pub returns-then-not-room_ok : goal.returns-then-not-room_ok
unfolding refusal_numbered
returns-then-not-room_ok c =
    rw (
      ← c.both_lengths_ok.ensures,
      c.if-not-both_lengths_ok.false,
      ← c.numbers_ok.ensures,
      c.if-not-numbers_ok.false,
      ← c.room_ok.ensures,
      c.if-not-room_ok.true,
    )

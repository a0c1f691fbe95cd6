use mathlib.Core.Path.{sym}
use native.Mathlib.Omega.{arith}
use Rattle.refusal.specs.Refusal.{refusal_numbered}
use Rattle.packet.specs.Build.{build_refusal}
use Rattle.packet.proofs.Refusals.{lawful, refusal_of_short, refusal_of_room}
use Rattle.packet.proofs.build_refusal.Goals as goal

pub returns-then-not-all_words : goal.returns-then-not-all_words
unfolding build_refusal refusal_numbered
returns-then-not-all_words c = rw (sym c.if-not-all_words.ensures)

pub returns-then-not-buildable : goal.returns-then-not-buildable
unfolding build_refusal refusal_numbered
returns-then-not-buildable c = rw (sym c.if-not-all_words.ensures, sym c.if-not-buildable.ensures)

pub returns-then-room-user : goal.returns-then-room-user
unfolding refusal_numbered
returns-then-room-user c =
    let at = c.args in
    let right = lawful at.did at.user.now (sym c.if-not-all_words.ensures) (sym c.if-not-buildable.ensures) in
    rw (refusal_of_short at.did at.user.now at.room right (omega arith))

pub returns : goal.returns
returns c =
    let at = c.args in
    let right = lawful at.did at.user.now (sym c.if-not-all_words.ensures) (sym c.if-not-buildable.ensures) in
    rw (refusal_of_room at.did at.user.now at.room right (omega arith))

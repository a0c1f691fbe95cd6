-- find_sync: the search ends in a word, or in none; what the answer says follows from the answer.
use mathlib.Core.Path.{◌≡◌, sym, ap, ◌∙◌}
use mathlib.Core.List.{List}
use Prim.Native.Nat.{ℕ, ◌+◌, ◌*◌}
use native.Mathlib.Omega.{arith}
use Rattle.std.specs.Prelude.{Option, None, Result}
use Rattle.bits.specs.Choice.{if}
use Rattle.bits.specs.Words.{words10}
use Rattle.refusal.specs.declared.Refusal.{Refusal}
use Rattle.align.specs.declared.SyncPlace.{SyncPlace}
use Rattle.align.specs.Sync.{first_sync, found_sync, sync_refusal, sync_place}
use Rattle.align.proofs.FirstSync.{found_refusal, found-place}
use Rattle.align.proofs.Search.{ends_stop, ends_end, sync_from_end, sync_from_none}
use Rattle.align.proofs.find_sync.Goals as goal

answered : (ws : List ℕ) (r : Result (Option SyncPlace) Refusal) → r ≡ found_sync ws
    → record { answer : r ≡ found_sync ws; means : (sync_refusal r ≡ if (words10 ws) 0 3) × (sync_place r ≡ if (words10 ws) (first_sync ws) None) }
answered ws r e = record { answer = e; means = (ap sync_refusal e ∙ found_refusal ws, ap sync_place e ∙ found-place ws) }

pub returns-then-not-all_words : goal.returns-then-not-all_words
unfolding found_sync
returns-then-not-all_words c = answered _ _ (rw (sym c.all_words.ensures, c.if-not-all_words.true))

pub returns-in-Break : goal.returns-in-Break
unfolding found_sync
returns-in-Break c =
    let at = c.loop-i in
    let bit = c.in-Break.bit in
    let place = sync_from_end _ (at.i * 10 + bit) (sym at.invariant ∙ ends_stop _ at.i at.last (omega arith) bit (sym c.in-Break.ensures.answer)) in
    answered _ _ (rw (c.place_before.ensures, sym c.all_words.ensures, c.if-not-all_words.false, place))

pub returns : goal.returns
unfolding found_sync
returns c =
    let at = c.loop-i in
    let place = sync_from_none _ (sym at.invariant ∙ ends_end _ at.i at.last (omega arith)) in
    answered _ _ (rw (sym c.all_words.ensures, c.if-not-all_words.false, place))

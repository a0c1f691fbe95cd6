-- No call of take is refused on the way through a file, lawful or not.
use mathlib.Core.Path.{◌≡◌, refl}
use mathlib.Core.Bool.{Bool, true, false}
use mathlib.Core.List.{List, [], ◌∷◌}
use Prim.Native.Nat.{ℕ}
use lib.Dec.{eqb}
use lib.ListN.{length}
use borrow.Author.Tests.{le-leb}
use Rattle.bits.specs.Choice.{if}
use Rattle.bits.proofs.Choice.{false_not_true}
use Rattle.session.specs.Session.{end_refusal}
use Rattle.law_module.proofs.Refusals.{end_answers}
use Rattle.reader.specs.Reader.{read_of}
use Rattle.desk.specs.Desk.{longest, turned_y, turned_c, words_at, take_refusal, Standing, next}
use Rattle.law_file.specs.Serving.{after}
use Rattle.law_file.specs.Promises.{between, Roomy, NeverRefused}
use Rattle.law_file.proofs.Open.{Opened, OpenAt, room_read, turned_open}

-- a standing where take is not refused: a session is open while words are read, and a row of any raster fits
record Serves (x : Standing) : Type 0 where
  opened : OpenAt x.desk
  room : Roomy x.y x.c

next_serves : (b : ℕ) (x : Standing) → Serves x → Serves (next b x)
unfolding turned_y turned_c
next_serves b x k =
    record {
      opened = turned_open x.desk x.y x.c k.opened b;
      room = room_read x.desk.session x.y x.c (read_of x.desk.reader b) k.room;
    }

after_serves : (bs : List ℕ) (x : Standing) → Serves x → Serves (after bs x)
unfolding after
after_serves [] x k = k
after_serves (b ∷ bs) x k = after_serves bs (next b x) (next_serves b x k)

serves_answers : (x : Standing) → Serves x → take_refusal x.desk x.y x.c ≡ 0
unfolding take_refusal
serves_answers x k =
    rw (le-leb longest (length x.y) k.room.0, le-leb longest (length x.c) k.room.1) (go (words_at x.desk.reader.stage) k.opened)
  where
    go : (t : Bool) → (t ≡ true → Opened x.desk.session) → if {A = ℕ} (if t (eqb (end_refusal x.desk.session) 0) true) 0 7 ≡ 0
    go true h = rw (end_answers x.desk.session (h refl).0 (h refl).1)
    go false h = refl

pub never_refused : NeverRefused
never_refused bs s y c room =
    let x = between s y c in
    serves_answers (after bs x) (after_serves bs x record { opened = λ w. absurd (false_not_true w); room = room })

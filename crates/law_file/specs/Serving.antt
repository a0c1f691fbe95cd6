-- A desk served with bytes, in lent buffers that nobody else writes in between.
use Rattle.std.specs.Prelude.{List, [], ◌∷◌, ◌++◌, ℕ, zero, suc, length, take, drop, Result, Ok, Err}
use Rattle.refusal.specs.declared.Refusal.{Refusal}
use Rattle.desk.specs.declared.Desk.{Desk}
use Rattle.desk.specs.declared.Outcome.{Outcome}
use Rattle.desk.specs.declared.Outcome.TheVariants.{Nothing, Done, BadFile}
use Rattle.desk.specs.declared.Taken.{Taken}
use Rattle.desk.specs.Desk.{nothing, Standing, standing, next, brought, taken, taken_y, taken_c, finished}
use Rattle.label.specs.declared.Label.{Label}
use Rattle.label.specs.Label.{label_of, boxed}

-- what is told of an outcome: of nothing, nothing
abbrev pub told : Outcome → List Outcome
told Nothing = []
told (Done j) = Done j ∷ []
told (BadFile n) = BadFile n ∷ []

-- ---- byte after byte

-- where the desk stands after bytes, and what it has told then
unfoldable pub after : List ℕ → Standing → Standing
after [] x = x
after (b ∷ bs) x = after bs (next b x)

unfoldable pub answers : List ℕ → Standing → List Outcome
answers [] x = []
answers (b ∷ bs) x = told (brought b x) ++ answers bs (next b x)

-- .. and at the end of the input
abbrev pub told_of : List ℕ → Standing → List Outcome
told_of bs x = answers bs x ++ told (finished (after bs x).desk)

-- ---- by calls of take

-- what a call tells and leaves: "A refusal returns its number with zeros .. and changes .. no session."
abbrev pub take_left : Desk → Result Taken Refusal → Taken
take_left d (Ok t) = t
take_left d (Err refusal) = record { desk = d; taken = 0; outcome = nothing }

abbrev pub after_take : List ℕ → Standing → Standing
after_take bs x = standing (take_left x.desk (taken x.desk bs x.y x.c)).desk (taken_y x.desk bs x.y x.c) (taken_c x.desk bs x.y x.c)

pub record Served : Type 0 where
  pub standing : Standing
  pub outcomes : List Outcome

abbrev pub served : Standing → List Outcome → Served
served x os = record { standing = x; outcomes = os }

abbrev pub also_told : List Outcome → Served → Served
also_told os s = served s.standing (os ++ s.outcomes)

-- a piece of the input, handed to take until all of it is taken: at most so many calls
unfoldable pub served_in : ℕ → List ℕ → Standing → Served
served_in zero bs x = served x []
served_in (suc k) [] x = served x []
served_in (suc k) (b ∷ bs) x =
    let t = take_left x.desk (taken x.desk (b ∷ bs) x.y x.c) in
    also_told (told t.outcome) (served_in k (drop t.taken (b ∷ bs)) (after_take (b ∷ bs) x))

-- piece after piece
unfoldable pub served_all : List (List ℕ) → Standing → Served
served_all [] x = served x []
served_all (p ∷ ps) x =
    let s = served_in (length p) p x in
    also_told s.outcomes (served_all ps s.standing)

-- .. then the end of the input
abbrev pub told_in_pieces : List (List ℕ) → Standing → List Outcome
told_in_pieces pieces x =
    let s = served_all pieces x in
    s.outcomes ++ told (finished s.standing.desk)

-- the text of a line; what is printed of an outcome
abbrev pub text_in : Label → List ℕ
text_in l = take l.size l.bytes

abbrev pub printed : Outcome → List ℕ
printed o = text_in (boxed (label_of o))

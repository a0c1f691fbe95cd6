-- Served by calls of take, in whatever pieces the bytes arrive, a desk tells what it tells byte after byte.
use mathlib.Core.Path.{◌≡◌, refl, ap, ap₂, sym, ◌∙◌}
use mathlib.Core.List.{List, [], ◌∷◌, ◌++◌, flat_map}
use Prim.Native.Nat.{ℕ, zero, suc, ◌+◌, ◌≤◌}
use native.Mathlib.Omega.{arith}
use lib.ListN.{length, drop, length-drop}
use Rattle.parts.specs.Parts.{end_to_end}
use Rattle.desk.specs.declared.Outcome.{Outcome}
use Rattle.desk.specs.declared.Outcome.TheVariants.{Nothing, Done, BadFile}
use Rattle.desk.specs.Desk.{Walk, walk, walked, walk_of, take_refusal, brought, taken, taken_y, taken_c, finished, Standing, next}
use Rattle.law_file.specs.Serving.{told, after, answers, Served, served, also_told, served_in, served_all}
use Rattle.law_file.specs.Promises.{between, ServedAlike, PiecesServed}
use Rattle.law_file.proofs.Cuts.{cut_anywhere}
use Rattle.law_file.proofs.FileRead.{file_read}
use Rattle.law_file.proofs.NeverRefused.{never_refused}

-- no call is refused, now or later
abbrev Calm : Standing → Type 0
Calm x = (bs : List ℕ) → take_refusal (after bs x).desk (after bs x).y (after bs x).c ≡ 0

-- ---- one call

-- a walk w over the bytes bs, begun at x after n bytes with the outcome o: what it leaves of them leads where all of them lead from x
record Walks (bs : List ℕ) (x : Standing) (n : ℕ) (o : Outcome) (w : Walk) : Type 0 where
  count : ℕ
  is_taken : w.taken ≡ n + count
  leads : after (drop count bs) w.at ≡ after bs x
  tells : told w.outcome ++ answers (drop count bs) w.at ≡ told o ++ answers bs x
  calm : Calm w.at

at_rest : (bs : List ℕ) (x : Standing) (n : ℕ) (o : Outcome) → Calm x → Walks bs x n o (walk x n o)
at_rest bs x n o h = record { count = 0; is_taken = omega arith; leads = refl; tells = refl; calm = h }

walks : (bs : List ℕ) (x : Standing) (n : ℕ) (o : Outcome) → Calm x → Walks bs x n o (walked bs (walk x n o))
unfolding walked after answers
walks [] x n o h = at_rest [] x n o h
walks (b ∷ bs) x n Nothing h =
    let rest = walks bs (next b x) (n + 1) (brought b x) (λ zs. h (b ∷ zs)) in
    record { count = suc rest.count; is_taken = omega (arith, rest.is_taken); leads = rest.leads; tells = rest.tells; calm = rest.calm }
walks (b ∷ bs) x n (Done j) h = at_rest (b ∷ bs) x n (Done j) h
walks (b ∷ bs) x n (BadFile e) h = at_rest (b ∷ bs) x n (BadFile e) h

-- ---- the calls for one piece

-- what a call does
abbrev call_of : List ℕ → Standing → Walk
call_of bs x = walk_of x.desk bs x.y x.c

module _ (b : ℕ) (bs : List ℕ) (x : Standing) (h : Calm x) where
  is_called : (k : ℕ)
      → served_in (suc k) (b ∷ bs) x
      ≡ also_told (told (call_of (b ∷ bs) x).outcome) (served_in k (drop (call_of (b ∷ bs) x).taken (b ∷ bs)) (call_of (b ∷ bs) x).at)
  unfolding served_in taken taken_y taken_c after
  is_called k = rw (h [])

  called_walks : Walks bs (next b x) 1 (brought b x) (call_of (b ∷ bs) x)
  unfolding walked after
  called_walks = walks bs (next b x) 1 (brought b x) (λ zs. h (b ∷ zs))

  -- the first byte is taken
  called_leaves : drop (call_of (b ∷ bs) x).taken (b ∷ bs) ≡ drop called_walks.count bs
  called_leaves = let e : (call_of (b ∷ bs) x).taken ≡ suc called_walks.count = omega (arith, called_walks.is_taken) in ap (λ (n : ℕ). drop n (b ∷ bs)) e

piece_served : (k : ℕ) (bs : List ℕ) (x : Standing) → length bs ≤ k → Calm x → served_in k bs x ≡ served (after bs x) (answers bs x)
unfolding served_in after answers
piece_served zero [] x l h = refl
piece_served zero (b ∷ bs) x l h = absurd (omega arith)
piece_served (suc k) [] x l h = refl
piece_served (suc k) (b ∷ bs) x l h =
    let w = called_walks b bs x h in
    let call = call_of (b ∷ bs) x in
    let rest = drop w.count bs in
    let end = call.at in
    is_called b bs x h k
    ∙ ap (λ (zs : List ℕ). also_told (told call.outcome) (served_in k zs end)) (called_leaves b bs x h)
    ∙ ap (also_told (told call.outcome)) (piece_served k rest end (omega (arith, length-drop w.count bs)) w.calm)
    ∙ ap₂ served w.leads w.tells

-- ---- piece after piece

all_served : (pieces : List (List ℕ)) (x : Standing) → Calm x → served_all pieces x ≡ served (after (end_to_end pieces) x) (answers (end_to_end pieces) x)
unfolding served_all flat_map after answers
all_served [] x h = refl
all_served (p ∷ ps) x h =
    let cuts = cut_anywhere p (end_to_end ps) x in
    ap (λ (s : Served). also_told s.outcomes (served_all ps s.standing)) (piece_served (length p) p x (omega arith) h)
    ∙ ap (also_told (answers p x)) (all_served ps (after p x) calm_after)
    ∙ sym (ap₂ served cuts.0 cuts.1)
  where
    calm_after : Calm (after p x)
    calm_after bs = rw (cut_anywhere p bs x).0 at (h (p ++ bs))

pub served_alike : ServedAlike
served_alike pieces s y c room = all_served pieces (between s y c) (λ bs. never_refused bs s y c room)

pub pieces_served : PiecesServed
pieces_served pieces s y c room =
    ap (λ (x : Served). x.outcomes ++ told (finished x.standing.desk)) (served_alike pieces s y c room)
    ∙ file_read (end_to_end pieces) s y c room

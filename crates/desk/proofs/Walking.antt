-- Laws of a walk over bytes: a byte by what it brings, a turn of the loop, its two ends, and how far it comes.
use mathlib.Core.Path.{◌≡◌, refl, sym, ap, ◌∙◌}
use mathlib.Core.Bool.{Bool, true, false}
use mathlib.Core.List.{List, [], ◌∷◌}
use Prim.Native.Nat.{ℕ, suc, ◌+◌, ◌≤◌, ◌<◌, min}
use native.Mathlib.Omega.{arith}
use native.Mathlib.Numerals.{add-one}
use lib.ListN.{length, get_or, drop, drop_of_length-le}
use lib.Seq.{drop-cons}
use Rattle.std.specs.Prelude.{Result, Ok}
use Rattle.bits.specs.Choice.{if}
use Rattle.refusal.specs.declared.Refusal.{Refusal}
use Rattle.refusal.proofs.Answers.{result_of_ok}
use Rattle.session.specs.declared.Session.{Session}
use Rattle.reader.specs.declared.Read.{Read}
use Rattle.reader.specs.declared.Reader.{Reader}
use Rattle.reader.specs.Reader.{read_of}
use Rattle.desk.specs.declared.Desk.{Desk}
use Rattle.desk.specs.declared.Outcome.{Outcome}
use Rattle.desk.specs.declared.Turn.{Turn}
use Rattle.desk.specs.declared.Taken.{Taken}
use Rattle.desk.specs.Desk.{desk, nothing, is_nothing, turn_read, y_read, c_read, turned, turned_y, turned_c, Standing, standing, Walk, walk, walked_one, walked, Ahead, walk_of, take_refusal, taken_at, taken}

-- a byte, by what was read
abbrev pub walk_by : Reader → Result Read Refusal → Session → List ℕ → List ℕ → ℕ → Walk
walk_by r read s y c k =
    let t = turn_read read (desk r s) y c in
    walk (standing t.desk (y_read read s y c) (c_read read s y c)) k t.outcome

pub by_read : (r : Reader) (s : Session) (b : ℕ) (y c : List ℕ) (k : ℕ) {read : Result Read Refusal} → read ≡ read_of r b
    → walked_one b (walk (standing (desk r s) y c) k nothing) ≡ walk_by r read s y c (k + 1)
unfolding turned turned_y turned_c
by_read r s b y c k e = rw e

pub walked_byte : (at : ℕ) (bs : List ℕ) (x : Standing) → at < length bs
    → walked (drop at bs) (walk x at nothing) ≡ walked (drop (at + 1) bs) (walked_one (get_or bs at 0) (walk x at nothing))
unfolding walked
walked_byte at bs x l = rw (drop-cons bs at 0, add-one)

-- an outcome with no job gives way to the next byte's
walked_any : (at : ℕ) (bs : List ℕ) (x : Standing) (o : Outcome) → at < length bs → is_nothing o ≡ true
    → walked (drop at bs) (walk x at o) ≡ walked (drop at bs) (walk x at nothing)
unfolding walked
walked_any at bs x o l n = rw (drop-cons bs at 0, n)

-- a turn of the loop: bytes that were taken ahead, after an outcome with no job, and one more
pub walked_step : {w : Walk} (at next : ℕ) (bs y c y₁ c₁ : List ℕ) (d d₁ : Desk) (o : Outcome) {t : Turn} {y₂ c₂ : List ℕ}
    → w ≡ walked (drop at bs) (walk (standing d y c) at o) → at < length bs → is_nothing o ≡ true
    → Ahead bs (standing d y c) at (standing d₁ y₁ c₁) next
    → t ≡ turned d₁ (get_or bs next 0) y₁ c₁ → y₂ ≡ turned_y d₁ (get_or bs next 0) y₁ c₁ → c₂ ≡ turned_c d₁ (get_or bs next 0) y₁ c₁
    → w ≡ walked (drop (next + 1) bs) (walk (standing t.desk y₂ c₂) (next + 1) t.outcome)
walked_step at next bs y c y₁ c₁ d d₁ o start l n ahead et ey ec =
    rw (et, ey, ec) (start ∙ walked_any at bs (standing d y c) o l n ∙ ahead.rest ∙ walked_byte next bs (standing d₁ y₁ c₁) ahead.within)

-- where the bytes end, and after the byte that ends a job or is refused
pub walked_end : (at : ℕ) (bs : List ℕ) (x : Walk) → length bs ≤ at → walked (drop at bs) x ≡ x
unfolding walked
walked_end at bs x l = rw (drop_of_length-le bs l)

pub walked_stopped : (bs : List ℕ) (x : Walk) → is_nothing x.outcome ≡ false → walked bs x ≡ x
unfolding walked
walked_stopped [] x e = refl
walked_stopped (b ∷ bs) x e = rw e

-- no more bytes are taken than there are, and one at least if there is one
abbrev Between : ℕ → Walk → ℕ → Type 0
Between low w high = (low ≤ w.taken) × (w.taken ≤ high)

one_more : (t : Bool) (w x : Walk) (n : ℕ) → Between (x.taken + 1) w (x.taken + 1 + n) → Between x.taken (if t w x) (x.taken + suc n)
one_more true w x n h = (omega arith, omega arith)
one_more false w x n h = (omega arith, omega arith)

walked_between : (bs : List ℕ) (x : Walk) → Between x.taken (walked bs x) (x.taken + length bs)
unfolding walked
walked_between [] x = (omega arith, omega arith)
walked_between (b ∷ bs) x = one_more (is_nothing x.outcome) (walked bs (walked_one b x)) x (length bs) (walked_between bs (walked_one b x))

walk_between : (bs : List ℕ) (x : Standing) → Between (min 1 (length bs)) (walked bs (walk x 0 nothing)) (length bs)
unfolding walked
walk_between [] x = (omega arith, omega arith)
walk_between (b ∷ bs) x = let rest = walked_between bs (walked_one b (walk x 0 nothing)) in (omega arith, omega arith)

pub taken_within : (d : Desk) (bs y c : List ℕ) {t : Taken} → Ok t ≡ taken d bs y c → (min 1 (length bs) ≤ t.taken) × (t.taken ≤ length bs)
unfolding taken
taken_within d bs y c e =
    let x = walk_of d bs y c in
    let same = ap (λ (t : Taken). t.taken) (result_of_ok (taken_at x) (take_refusal d y c) (sym e)).1 in
    let between = walk_between bs (standing d y c) in
    (omega arith, omega arith)

-- No call takes a session out of range.
use mathlib.Core.Path.{◌≡◌}
use mathlib.Core.Bool.{Bool, true, false}
use mathlib.Core.List.{List, [], ◌∷◌}
use Prim.Native.Nat.{ℕ, zero, suc}
use Rattle.std.specs.Prelude.{Result, Ok, Err}
use Rattle.std.specs.Result.{result_unwrap_or}
use Rattle.bits.specs.Choice.{if}
use Rattle.refusal.specs.declared.Refusal.{Refusal}
use Rattle.refusal.specs.Refusal.{result_of}
use Rattle.tally.specs.declared.Verdict.TheVariants.{Refused as NoVerdict}
use Rattle.tally.specs.Tally.{no_counts}
use Rattle.session.specs.declared.Session.{Session}
use Rattle.session.specs.declared.Ended.{Ended}
use Rattle.session.specs.Session.{closed, in_range, ended, session_left}
use Rattle.law_module.proofs.Ranges.{closed_in_range, begun_in_range, fed_in_range, ended_in_range}
use Rattle.reader.specs.declared.Read.{Read}
use Rattle.reader.specs.declared.Reader.{Reader}
use Rattle.reader.specs.declared.Piece.{Piece}
use Rattle.reader.specs.declared.Piece.TheVariants.{More, Chosen, Word}
use Rattle.reader.specs.Reader.{read_of}
use Rattle.desk.specs.declared.Desk.{Desk}
use Rattle.desk.specs.Desk.{nothing, is_nothing, session_after, end_of, turn_by, turn_read, turned, standing, Walk, walk, walked_one, walked, walk_of, take_refusal, taken_at, taken}
use Rattle.law_file.specs.Serving.{take_left}
use Rattle.demands.specs.Demands.{InRange}

-- ---- a desk's, byte after byte

piece_in_range : (p : Piece) (s : Session) (y c : List ℕ) → in_range s ≡ true → in_range (session_after p s y c) ≡ true
piece_in_range More s y c h = h
piece_in_range (Chosen code) s y c h = begun_in_range closed code closed_in_range
piece_in_range (Word w) s y c h = fed_in_range s (w ∷ []) y c h

-- also where the end of a session is refused
end_in_range : (s : Session) → in_range s ≡ true → in_range (end_of s).session ≡ true
end_in_range s h = go (ended s) (ended_in_range s h)
  where
    go : (r : Result Ended Refusal) → in_range (session_left s r) ≡ true
        → in_range (result_unwrap_or r (record { raster = 0; counts = no_counts; verdict = NoVerdict; session = s })).session ≡ true
    go (Ok e) k = k
    go (Err refusal) k = k

turn_in_range : (t : Bool) (before : Reader) (r : Read) (s : Session) → in_range s ≡ true → in_range (turn_by t before r s).desk.session ≡ true
turn_in_range true before r s h = end_in_range s h
turn_in_range false before r s h = h

read_in_range : (r : Result Read Refusal) (d : Desk) (y c : List ℕ) → in_range d.session ≡ true → in_range (turn_read r d y c).desk.session ≡ true
read_in_range (Ok r) d y c h = turn_in_range r.ends d.reader r _ (piece_in_range r.piece d.session y c h)
read_in_range (Err refusal) d y c h = closed_in_range

walk_in_range : (bs : List ℕ) (w : Walk) → in_range w.at.desk.session ≡ true → in_range (walked bs w).at.desk.session ≡ true
unfolding walked turned
walk_in_range [] w h = h
walk_in_range (b ∷ bs) w h =
    let d = w.at.desk in
    let one = read_in_range (read_of d.reader b) d w.at.y w.at.c h in
    go (is_nothing w.outcome) (walk_in_range bs (walked_one b w) one)
  where
    go : (t : Bool) → in_range (walked bs (walked_one b w)).at.desk.session ≡ true → in_range (if t (walked bs (walked_one b w)) w).at.desk.session ≡ true
    go true k = k
    go false k = h

take_in_range : (d : Desk) (bs y c : List ℕ) → in_range d.session ≡ true → in_range (take_left d (taken d bs y c)).desk.session ≡ true
unfolding taken
take_in_range d bs y c h = go (take_refusal d y c)
  where
    go : (n : ℕ) → in_range (take_left d (result_of n (taken_at (walk_of d bs y c)))).desk.session ≡ true
    go zero = walk_in_range bs (walk (standing d y c) 0 nothing) h
    go (suc n) = h

pub in_range_holds : InRange
in_range_holds = record { fresh = closed_in_range; begin = begun_in_range; feed = fed_in_range; end = ended_in_range; take = take_in_range }

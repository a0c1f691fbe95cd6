-- "Beyond what a result fills, a buffer keeps what it held.": beyond the longest row a desk writes nothing.
use mathlib.Core.Path.{◌≡◌, refl, ap, ◌∙◌}
use mathlib.Core.Bool.{Bool, true, false}
use mathlib.Core.List.{List, [], ◌∷◌}
use Prim.Native.Nat.{ℕ, zero, suc, ◌≤◌}
use native.Mathlib.Omega.{arith}
use Rattle.std.specs.Prelude.{Result, Ok, Err}
use lib.ListN.{drop}
use Rattle.bits.specs.Choice.{if}
use Rattle.refusal.specs.declared.Refusal.{Refusal}
use Rattle.raster.specs.Table.{raster_ok, total_of}
use Rattle.raster.proofs.Table.{looked_up_range, raster_given-none}
use Rattle.parts.specs.Parts.{unless_refused}
use Rattle.session.specs.declared.Session.{Session}
use Rattle.law_module.proofs.Beyond.{Kept, kept_feed}
use Rattle.reader.specs.declared.Piece.{Piece}
use Rattle.reader.specs.declared.Piece.TheVariants.{More, Chosen, Word}
use Rattle.reader.specs.declared.Read.{Read}
use Rattle.reader.specs.Reader.{read_of}
use Rattle.desk.specs.declared.Desk.{Desk}
use Rattle.desk.specs.Desk.{nothing, is_nothing, longest, y_after, c_after, y_read, c_read, turned_y, turned_c, standing, Walk, walk, walked_one, walked, walk_of, take_refusal, taken_y, taken_c}

-- no row is longer
total_high : (code : ℕ) → total_of code ≤ longest
total_high code = go (raster_ok code) refl
  where
    go : (t : Bool) → raster_ok code ≡ t → total_of code ≤ longest
    go true ok = (looked_up_range code ok).total_high
    go false bad = let none : total_of code ≡ 0 = ap (λ r. r.layout.total) (raster_given-none code bad) in omega arith

-- ---- a byte

kept_byte : (p : Piece) (s : Session) (y c : List ℕ) → Kept longest y c (y_after p s y c) (c_after p s y c)
kept_byte More s y c = (refl, refl)
kept_byte (Chosen code) s y c = (refl, refl)
kept_byte (Word w) s y c = kept_feed longest s (w ∷ []) y c (total_high s.raster)

kept_read : (read : Result Read Refusal) (s : Session) (y c : List ℕ) → Kept longest y c (y_read read s y c) (c_read read s y c)
kept_read (Ok x) s y c = kept_byte x.piece s y c
kept_read (Err refusal) s y c = (refl, refl)

-- ---- bytes

module _ (y c : List ℕ) where
  kept_walk : (bs : List ℕ) (w : Walk) → Kept longest y c w.at.y w.at.c → Kept longest y c (walked bs w).at.y (walked bs w).at.c
  unfolding walked turned_y turned_c
  kept_walk [] w e = e
  kept_walk (b ∷ bs) w e =
      let one = kept_read (read_of w.at.desk.reader b) w.at.desk.session w.at.y w.at.c in
      go (is_nothing w.outcome) (kept_walk bs (walked_one b w) (one.0 ∙ e.0, one.1 ∙ e.1))
    where
      go : (t : Bool) → Kept longest y c (walked bs (walked_one b w)).at.y (walked bs (walked_one b w)).at.c
          → Kept longest y c (if t (walked bs (walked_one b w)) w).at.y (if t (walked bs (walked_one b w)) w).at.c
      go true f = f
      go false f = e

pub take_beyond : (d : Desk) (bs y c : List ℕ) → Kept longest y c (taken_y d bs y c) (taken_c d bs y c)
unfolding taken_y taken_c
take_beyond d bs y c = go (take_refusal d y c)
  where
    go : (n : ℕ) → Kept longest y c (unless_refused n (walk_of d bs y c).at.y y) (unless_refused n (walk_of d bs y c).at.c c)
    go zero = kept_walk y c bs (walk (standing d y c) 0 nothing) (refl, refl)
    go (suc n) = (refl, refl)

module _ (d : Desk) (bs y c : List ℕ) where
  pub y_beyond : drop longest (taken_y d bs y c) ≡ drop longest y
  y_beyond = (take_beyond d bs y c).0

  pub c_beyond : drop longest (taken_c d bs y c) ≡ drop longest c
  c_beyond = (take_beyond d bs y c).1

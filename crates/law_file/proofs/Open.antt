-- While words are read a session is open: it was, or lawful options have just begun it.
use mathlib.Core.Path.{◌≡◌, refl, sym, ap, ◌∙◌}
use mathlib.Core.Bool.{Bool, true, false}
use mathlib.Core.List.{List, [], ◌∷◌}
use Prim.Native.Nat.{ℕ}
use native.Mathlib.Omega.{arith}
use lib.Dec.{ltb, eqb}
use Rattle.bits.specs.Choice.{if}
use Rattle.bits.proofs.Choice.{false_not_true}
use Rattle.std.specs.Prelude.{Result, Ok, Err}
use Rattle.refusal.specs.declared.Refusal.{Refusal}
use Rattle.raster.specs.Table.{raster_ok}
use Rattle.session.specs.declared.Session.{Session}
use Rattle.session.specs.Session.{closed, in_range, session_or}
use Rattle.law_module.specs.Runs.{bench, fed_all}
use Rattle.law_module.proofs.Ranges.{closed_in_range, begun_in_range, fed_in_range, fed_keeps}
use Rattle.law_module.proofs.Between.{begun_opens}
use Rattle.law_module.proofs.Feeds.{length-fed_all}
use Rattle.reader.specs.declared.Stage.{Stage}
use Rattle.reader.specs.declared.Stage.TheVariants.{TagCount, TagBytes, OptionsCount, RasterByte, WipeByte, WordCount, LowByte, HighByte, Stopped}
use Rattle.reader.specs.declared.Count.{Count}
use Rattle.reader.specs.declared.Tag.{Tag}
use Rattle.reader.specs.declared.Options.{Options}
use Rattle.reader.specs.declared.Reader.{Reader}
use Rattle.reader.specs.declared.Piece.{Piece}
use Rattle.reader.specs.declared.Piece.TheVariants.{More, Chosen, Word}
use Rattle.reader.specs.declared.Read.{Read}
use Rattle.reader.specs.Reader.{tag_size_ok, printable, options_size_ok, wipe_ok, word_of, word_ok, reader, counted, read_of, of_tag_count, of_tag_byte, of_options_count, of_wipe_byte, of_word_count, of_high_byte}
use Rattle.desk.specs.declared.Desk.{Desk}
use Rattle.desk.specs.Desk.{turned, session_after, y_after, c_after, y_read, c_read, words_at, turn_by, turn_read}
use Rattle.law_file.specs.Promises.{Roomy}

-- ---- the reader

-- a session is open after this piece, where `before` says that one was
abbrev left_open : Bool → Piece → Bool
left_open before More = before
left_open before (Chosen code) = raster_ok code
left_open before (Word w) = before

-- no words come next; or they do, no job has ended, and a session is open
data Goes (before : Bool) (r : Read) : Type 0 where
  no_words : words_at r.reader.stage ≡ false → Goes before r
  words : r.ends ≡ false → left_open before r.piece ≡ true → Goes before r

-- after a refusal none come
data Lasts (before : Bool) (r : Result Read Refusal) : Type 0 where
  reads : {read : Read} → r ≡ Ok read → Goes before read → Lasts before r
  refuses : {refusal : Refusal} → r ≡ Err refusal → Lasts before r

lasts_if : {before : Bool} (t : Bool) {r q : Result Read Refusal} → (t ≡ true → Lasts before r) → Lasts before q → Lasts before (if t r q)
lasts_if true h k = h refl
lasts_if false h k = k

stage_after_tag_byte : (t : Bool) (r q : Reader) → words_at r.stage ≡ false → words_at q.stage ≡ false → words_at (if t r q).stage ≡ false
stage_after_tag_byte true r q h k = h
stage_after_tag_byte false r q h k = k

module _ (n : Count) (low : ℕ) (t : Tag) (o : Options) (b : ℕ) where
  words_are_fed : (stage : Stage) → Lasts (words_at stage) (read_of (reader stage n low t o) b)
  unfolding read_of of_tag_count of_tag_byte of_options_count of_wipe_byte of_word_count of_high_byte
  words_are_fed TagCount =
      lasts_if (ltb n.seen 3) (λ e. reads refl (no_words refl)) (lasts_if (tag_size_ok (counted b n)) (λ e. reads refl (no_words refl)) (refuses refl))
  words_are_fed TagBytes = lasts_if (printable b) (λ e. reads refl (no_words (stage_after_tag_byte (ltb n.left 2) _ _ refl refl))) (refuses refl)
  words_are_fed OptionsCount =
      lasts_if (ltb n.seen 3) (λ e. reads refl (no_words refl)) (lasts_if (options_size_ok (counted b n)) (λ e. reads refl (no_words refl)) (refuses refl))
  words_are_fed RasterByte = reads refl (no_words refl)
  words_are_fed WipeByte = lasts_if (wipe_ok b) (λ e. lasts_if (raster_ok o.raster) (λ ok. reads refl (words refl ok)) (refuses refl)) (refuses refl)
  words_are_fed WordCount =
      lasts_if (ltb n.seen 3) (λ e. reads refl (words refl refl)) (lasts_if (eqb (counted b n) 0) (λ e. reads refl (no_words refl)) (reads refl (words refl refl)))
  words_are_fed LowByte = reads refl (words refl refl)
  words_are_fed HighByte =
      lasts_if (word_ok (word_of low b))
      (λ e. lasts_if (ltb n.left 2) (λ f. reads refl (no_words refl)) (reads refl (words refl refl)))
      (refuses refl)
  words_are_fed Stopped = reads refl (no_words refl)

-- ---- the session

abbrev pub Opened : Session → Type 0
Opened s = (s.running ≡ true) × (in_range s ≡ true)

module _ (s : Session) (y c : List ℕ) where
  session-left_open : (before : Bool) (p : Piece) → (before ≡ true → Opened s) → left_open before p ≡ true → Opened (session_after p s y c)
  session-left_open before More was e = was e
  session-left_open before (Chosen code) was e =
      (ap (λ a. (session_or closed a).running) (begun_opens closed code refl closed_in_range e), begun_in_range closed code closed_in_range)
  session-left_open before (Word w) was e =
      ((fed_keeps s (w ∷ []) y c).0 ∙ (was e).0, fed_in_range s (w ∷ []) y c (was e).1)

  pub room-left : (p : Piece) → Roomy y c → Roomy (y_after p s y c) (c_after p s y c)
  unfolding fed_all
  room-left More room = room
  room-left (Chosen code) room = room
  room-left (Word w) room = let same = length-fed_all ((w ∷ []) ∷ []) (bench s y c) in (omega arith, omega arith)

  pub room_read : (r : Result Read Refusal) → Roomy y c → Roomy (y_read r s y c) (c_read r s y c)
  room_read (Ok r) room = room-left r.piece room
  room_read (Err refusal) room = room

-- ---- the desk

-- while words are read
abbrev pub OpenAt : Desk → Type 0
OpenAt d = words_at d.reader.stage ≡ true → Opened d.session

module _ (d : Desk) (y c : List ℕ) (was : OpenAt d) where
  went_open : (r : Read) → Goes (words_at d.reader.stage) r → OpenAt (turn_by r.ends d.reader r (session_after r.piece d.session y c)).desk
  went_open r (no_words none) = go r.ends
    where
      go : (t : Bool) → OpenAt (turn_by t d.reader r (session_after r.piece d.session y c)).desk
      go true w = absurd (false_not_true (sym none ∙ w))
      go false w = absurd (false_not_true (sym none ∙ w))
  went_open r (words on e) = rw on (λ w. session-left_open d.session y c (words_at d.reader.stage) r.piece was e)

  brought_open : (r : Result Read Refusal) → Lasts (words_at d.reader.stage) r → OpenAt (turn_read r d y c).desk
  brought_open r (reads e goes) = rw e (went_open _ goes)
  brought_open r (refuses e) = rw e (λ w. absurd (false_not_true w))

  pub turned_open : (b : ℕ) → OpenAt (turned d b y c).desk
  unfolding turned
  turned_open b =
      let r = d.reader in
      brought_open (read_of r b) (words_are_fed r.count r.low r.tag r.options b r.stage)

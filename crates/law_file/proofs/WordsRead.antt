-- The words: their count, then each word, fed to the session by itself. With the last of them the job is done.
use mathlib.Core.Path.{◌≡◌, refl}
use mathlib.Core.Bool.{true}
use mathlib.Core.List.{List, [], ◌∷◌, map}
use Prim.Native.Nat.{ℕ, zero, suc, ◌-◌}
use native.Mathlib.Omega.{arith}
use lib.Dec.{eqb, eqb-suc-zero}
use borrow.Author.Tests.{le-ltb}
use Rattle.bits.specs.Choice.{if}
use Rattle.bits.specs.Words.{words10}
use Rattle.law_module.specs.Runs.{Bench, fed_once, fed_all}
use Rattle.reader.specs.declared.Stage.TheVariants.{WordCount, LowByte, HighByte}
use Rattle.reader.specs.declared.Tag.{Tag}
use Rattle.reader.specs.declared.Options.{Options}
use Rattle.reader.specs.declared.Piece.TheVariants.{More}
use Rattle.reader.specs.declared.Read.{Read}
use Rattle.reader.specs.Reader.{word_of, word_ok, count, reader, goes_on, brings, ends, of_word_count, of_high_byte, read_of, is_cut}
use Rattle.desk.specs.declared.Outcome.{Outcome}
use Rattle.std.specs.Prelude.{Result}
use Rattle.refusal.specs.declared.Refusal.{Refusal}
use Rattle.desk.specs.Desk.{done, end_of, job_of}
use Rattle.law_file.specs.File.{count_read, words_read}
use Rattle.law_file.specs.Serving.{told_of}
use Rattle.law_file.specs.Promises.{between}
use Rattle.law_file.proofs.Reading.{of_got, of_wrong, reads_then, reads_if}
use Rattle.law_file.proofs.Told.{Tells, at, told_after, byte_told, refused-told}
use Rattle.law_file.proofs.Counts.{count-told}

-- each word in a feed of its own
abbrev pub singly : List ℕ → List (List ℕ)
singly ws = map (λ w. w ∷ []) ws

-- what is told of a job whose words leave this bench, and of the bytes after it
abbrev pub told_done : Tag → Options → Bench → List ℕ → List Outcome
told_done t o x rest =
    done (job_of (reader WordCount (count 0 0) 0 t o) (end_of x.session)) ∷ told_of rest (between (end_of x.session).session x.y x.c)

abbrev pub Fed : List Outcome → Tag → Options → Bench → List ℕ → List ℕ → Type 0
Fed os t o x ws rest = (words10 ws ≡ true) × (os ≡ told_done t o (fed_all (singly ws) x) rest)

-- what the last byte of their count brings
abbrev counted_words : ℕ → Tag → Options → ℕ → Result Read Refusal
counted_words low t o n = if (eqb n 0) (ends More) (brings More (goes_on (reader WordCount (count 0 0) low t o) LowByte n))

abbrev pub Counted : List Outcome → ℕ → Tag → Options → Bench → ℕ → List ℕ → Type 0
Counted os low t o x n rest = (l : ℕ) × (os ≡ told_after (counted_words low t o n) (at WordCount (count l 3) low t o x.session x.y x.c) rest)

module _ {os : List Outcome} (t : Tag) (o : Options) where
  pub word_count-told : (low : ℕ) (x : Bench) (bs : List ℕ) → os ≡ told_of bs (at WordCount (count 0 0) low t o x.session x.y x.c)
      → Tells os (Counted os low t o x) (count_read bs)
  unfolding read_of is_cut of_word_count
  word_count-told low x bs e =
      count-told WordCount low t o x.session x.y x.c (counted_words low t o) (λ n b. refl) (λ seen. refl) bs (byte_told bs _ refl e)

  each_told : (n low : ℕ) (x : Bench) (bs : List ℕ) → os ≡ told_of bs (at LowByte (count (suc n) 0) low t o x.session x.y x.c)
      → Tells os (Fed os t o x) (words_read (suc n) bs)
  unfolding words_read read_of is_cut of_high_byte fed_all words10
  each_told zero low x bs e =
      reads_then (byte_told bs _ refl e) λ first p f.
      reads_then (byte_told p (at HighByte (count 1 0) first t o x.session x.y x.c) refl f) λ second q g.
      reads_if (word_ok (word_of first second)) (λ v. of_got (rw v, rw v at g)) (λ v. of_wrong (refused-told 3 x.y x.c q (rw v at g)))
  each_told (suc n) low x bs e =
      let left : suc (suc n) - 1 ≡ suc n = omega arith in
      reads_then (byte_told bs _ refl e) λ first p f.
      reads_then (byte_told p (at HighByte (count (suc (suc n)) 0) first t o x.session x.y x.c) refl f) λ second q g.
      let w : ℕ = word_of first second in
      reads_if (word_ok w)
      (λ v. reads_then (each_told n first (fed_once (w ∷ []) x) q (rw (v, le-ltb (suc (suc n)) 2 (omega arith), left) at g))
      λ ws rest k. of_got (rw v k.0, k.1))
      (λ v. of_wrong (refused-told 3 x.y x.c q (rw v at g)))

  pub words_told : (n low : ℕ) (x : Bench) (bs : List ℕ) → Counted os low t o x n bs → Tells os (Fed os t o x) (words_read n bs)
  unfolding words_read fed_all words10
  words_told zero low x bs e = of_got (refl, e.1)
  words_told (suc n) low x bs e = each_told n low x bs (rw (eqb-suc-zero n) at e.1)

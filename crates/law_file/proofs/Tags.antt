-- The tag: its count, then its bytes.
use mathlib.Core.Path.{◌≡◌, refl, sym, ap, ap₂, ◌∙◌}
use mathlib.Core.Bool.{true, false, not}
use mathlib.Core.List.{List, [], ◌∷◌, ◌++◌}
use Prim.Native.Nat.{ℕ, zero, suc, ◌+◌, ◌-◌, ◌≤◌, ◌<◌}
use native.Mathlib.Omega.{arith}
use lib.Dec.{leb, eqb-suc-zero}
use lib.ListN.{length, replicate, length-append}
use lib.Seq.{append_snoc, set-append_seam}
use borrow.Author.Tests.{lt-ltb, le-ltb, leb-true}
use Rattle.bits.specs.Choice.{if}
use Rattle.bits.proofs.Choice.{false_not_true, and-true}
use Rattle.std.specs.Prelude.{Err}
use Rattle.refusal.specs.declared.Refusal.TheVariants.{BadFile}
use Rattle.session.specs.declared.Session.{Session}
use Rattle.reader.specs.declared.Stage.TheVariants.{TagCount, TagBytes, OptionsCount}
use Rattle.reader.specs.declared.Options.{Options}
use Rattle.reader.specs.declared.Piece.TheVariants.{More}
use Rattle.reader.specs.Reader.{tag_size_ok, printable, count, options, no_tag, fresh, goes_on, brings, of_tag_count, tag_with, tagged, of_tag_byte, read_of, is_cut}
use Rattle.desk.specs.declared.Outcome.{Outcome}
use Rattle.law_file.specs.File.{byte_read, tag_of, tag_bytes_read, tag_read}
use Rattle.law_file.specs.Serving.{told_of}
use Rattle.law_file.specs.Promises.{between}
use Rattle.law_file.proofs.Reading.{of_got, of_wrong, reads_then, reads_if}
use Rattle.law_file.proofs.Told.{Tells, at, AfterByte, byte_told, refused-told}
use Rattle.law_file.proofs.Counts.{count-told}

tag_with_one_more : (b : ℕ) (bytes : List ℕ) → length bytes < 32 → tag_with b (tag_of bytes) ≡ tag_of (bytes ++ (b ∷ []))
unfolding tag_with
tag_with_one_more b bytes h =
    let more = bytes ++ (b ∷ []) in
    let k : ℕ = 32 - length more in
    let longer : length more ≡ length bytes + 1 = length-append bytes (b ∷ []) in
    let zeros : 32 - length bytes ≡ suc k = omega arith in
    rw (lt-ltb (length bytes) 32 h)
    (ap₂ (λ (xs : List ℕ) (n : ℕ). record { bytes = xs; size = n })
    (rw zeros (set-append_seam bytes 0 (replicate k 0) b ∙ sym (append_snoc bytes b (replicate k 0)))) (sym longer))

module _ (low : ℕ) (o : Options) (s : Session) (y c : List ℕ) where
  tag_bytes_told : {os : List Outcome} (n : ℕ) (first bs : List ℕ) → length first + suc n ≤ 32
      → os ≡ told_of bs (at TagBytes (count (suc n) 0) low (tag_of first) o s y c)
      → Tells os (λ tag rest. os ≡ told_of rest (at OptionsCount (count 0 0) low (tag_of (first ++ tag)) o s y c)) (tag_bytes_read (suc n) bs)
  unfolding tag_bytes_read read_of is_cut of_tag_byte tagged
  tag_bytes_told zero first bs h e =
      reads_then (byte_told bs _ refl e) λ b p f.
      reads_if (printable b) (λ t. of_got (rw (t, tag_with_one_more b first (omega arith)) at f)) (λ t. of_wrong (refused-told 9 y c p (rw t at f)))
  tag_bytes_told (suc n) first bs h e =
      let left : suc (suc n) - 1 ≡ suc n = omega arith in
      let not_last = le-ltb (suc (suc n)) 2 (omega arith) in
      reads_then (byte_told bs _ refl e) λ b p f.
      let more = first ++ (b ∷ []) in
      let fits : length more + suc n ≤ 32 = omega (arith, length-append first (b ∷ [])) in
      let held = tag_with_one_more b first (omega arith) in
      reads_if (printable b)
      (λ t. reads_then (tag_bytes_told n more p fits (rw (t, not_last, left, held) at f)) λ tag rest g. of_got (rw append_snoc at g))
      (λ t. of_wrong (refused-told 9 y c p (rw t at f)))

module _ {os : List Outcome} (s : Session) (y c : List ℕ) where
  sized_told : (n : ℕ) (bs : List ℕ) → tag_size_ok n ≡ true → os ≡ told_of bs (at TagBytes (count n 0) 0 no_tag (options 0 false) s y c)
      → Tells os (λ tag rest. os ≡ told_of rest (at OptionsCount (count 0 0) 0 (tag_of tag) (options 0 false) s y c)) (tag_bytes_read n bs)
  sized_told zero bs t e = absurd (false_not_true t)
  sized_told (suc n) bs t e =
      let most = leb-true (suc n) 32 (and-true (leb 1 (suc n)) (leb (suc n) 32) t).1 in
      tag_bytes_told 0 (options 0 false) s y c n [] bs (omega arith) e

  pub tag_told : (bs : List ℕ) → Tells os (AfterByte os (between s y c)) (byte_read bs)
      → Tells os (λ tag rest. os ≡ told_of rest (at OptionsCount (count 0 0) 0 (tag_of tag) (options 0 false) s y c)) (tag_read bs)
  unfolding tag_read read_of of_tag_count
  tag_told bs first =
      reads_then
      (count-told TagCount 0 no_tag (options 0 false) s y c (λ n. if (tag_size_ok n) (brings More (goes_on fresh TagBytes n)) (Err BadFile)) (λ n b. refl)
      (λ seen. ap not (eqb-suc-zero seen)) bs first)
      λ n p e. reads_if (tag_size_ok n) (λ t. sized_told n p t (rw t at e.1)) (λ t. of_wrong (refused-told 9 y c p (rw t at e.1)))

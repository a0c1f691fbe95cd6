-- "Jobs follow one another": a job takes a byte at least, so that a bound of as many jobs as there are bytes, or more, bounds nothing.
use mathlib.Core.Path.{◌≡◌, refl, ap}
use mathlib.Core.List.{List, [], ◌∷◌}
use Prim.Native.Nat.{ℕ, zero, suc, ◌≤◌}
use native.Mathlib.Omega.{arith}
use lib.ListN.{length}
use Rattle.reader.specs.Reader.{tag_size_ok, printable, options_size_ok, wipe_ok, word_of, word_ok}
use Rattle.raster.specs.Table.{raster_ok}
use Rattle.desk.specs.declared.Job.{Job}
use Rattle.law_file.specs.File.{Got, got, cut, wrong, byte_read, count_read, tag_bytes_read, tag_read, options_of, options_read, words_read, job_read, Contents, contents_by, followed_by, read_in, contents_of}
use Rattle.law_file.proofs.Reading.{Reads, of_got, of_cut, of_wrong, reads_then, reads_if}

-- ---- what is read leaves at most n bytes

abbrev pub Leaves : {A : Type 0} → ℕ → Got A → Type 0
Leaves {A} n = Reads (λ (v : A) rest. length rest ≤ n) (Unit {0}) (λ m. Unit {0})

module _ (n : ℕ) where
  byte_leaves : (bs : List ℕ) → length bs ≤ n → Leaves n (byte_read bs)
  byte_leaves [] h = of_cut tt
  byte_leaves (b ∷ bs) h = of_got {rest = bs} (omega arith)

  -- the first byte is the one that counts
  count_leaves : (bs : List ℕ) → Leaves n (byte_read bs) → Leaves n (count_read bs)
  unfolding count_read
  count_leaves bs first =
      reads_then first λ a p h. reads_then (byte_leaves p h) λ b q k. reads_then (byte_leaves q k) λ c r l. reads_then (byte_leaves r l) λ d s m. of_got m

  tag_bytes_leaves : (k : ℕ) (bs : List ℕ) → length bs ≤ n → Leaves n (tag_bytes_read k bs)
  unfolding tag_bytes_read
  tag_bytes_leaves zero bs h = of_got h
  tag_bytes_leaves (suc k) bs h =
      reads_then (byte_leaves bs h) λ b p l.
      reads_if (printable b) (λ t. reads_then (tag_bytes_leaves k p l) λ tag rest m. of_got m) (λ t. of_wrong tt)

  options_leaves : (bs : List ℕ) → length bs ≤ n → Leaves n (options_read bs)
  unfolding options_read options_of
  options_leaves bs h =
      reads_then (count_leaves bs (byte_leaves bs h)) λ k p l.
      reads_if (options_size_ok k)
      (λ t. reads_then (byte_leaves p l) λ raster q m. reads_then (byte_leaves q m) λ wipe r o.
      reads_if (wipe_ok wipe) (λ u. reads_if (raster_ok raster) (λ v. of_got o) (λ v. of_wrong tt)) (λ u. of_wrong tt))
      (λ t. of_wrong tt)

  words_leaves : (k : ℕ) (bs : List ℕ) → length bs ≤ n → Leaves n (words_read k bs)
  unfolding words_read
  words_leaves zero bs h = of_got h
  words_leaves (suc k) bs h =
      reads_then (byte_leaves bs h) λ low p l. reads_then (byte_leaves p l) λ high q m.
      reads_if (word_ok (word_of low high)) (λ t. reads_then (words_leaves k q m) λ ws rest o. of_got o) (λ t. of_wrong tt)

  job_leaves : (bs : List ℕ) → Leaves n (byte_read bs) → Leaves n (job_read bs)
  unfolding job_read tag_read
  job_leaves bs first =
      reads_then
      (reads_then (count_leaves bs first) λ k p h. reads_if (tag_size_ok k) (λ t. tag_bytes_leaves k p h) (λ t. of_wrong tt)) λ tag p h.
      reads_then (options_leaves p h) λ o q l. reads_then (count_leaves q (byte_leaves q l)) λ k r m. reads_then (words_leaves k r m) λ ws rest e. of_got e

-- a job takes a byte at least
pub job_leaves_fewer : (b : ℕ) (bs : List ℕ) → Leaves (length bs) (job_read (b ∷ bs))
job_leaves_fewer b bs = job_leaves (length bs) (b ∷ bs) (of_got {rest = bs} (omega arith))

-- ---- bounds that are large enough

module _ (n : ℕ) (others same : List ℕ → Contents) (agree : (rest : List ℕ) → length rest ≤ n → others rest ≡ same rest) where
  contents_agree : (g : Got Job) → Leaves n g → contents_by g others ≡ contents_by g same
  contents_agree (got j rest) (of_got h) = ap (followed_by j) (agree rest h)
  contents_agree cut (of_cut u) = refl
  contents_agree (wrong m) (of_wrong u) = refl

read_in_bounds : (k m : ℕ) (bs : List ℕ) → length bs ≤ k → length bs ≤ m → read_in k bs ≡ read_in m bs
unfolding read_in
read_in_bounds zero zero bs h l = refl
read_in_bounds zero (suc m) [] h l = refl
read_in_bounds zero (suc m) (b ∷ bs) h l = absurd (omega arith)
read_in_bounds (suc k) zero [] h l = refl
read_in_bounds (suc k) zero (b ∷ bs) h l = absurd (omega arith)
read_in_bounds (suc k) (suc m) [] h l = refl
read_in_bounds (suc k) (suc m) (b ∷ bs) h l =
    contents_agree (length bs) (read_in k) (read_in m) (λ rest r. read_in_bounds k m rest (omega arith) (omega arith)) (job_read (b ∷ bs)) (job_leaves_fewer b bs)

pub read_in_enough : (k : ℕ) (bs : List ℕ) → length bs ≤ k → read_in k bs ≡ contents_of bs
read_in_enough k bs h = read_in_bounds k (length bs) bs h (omega arith)

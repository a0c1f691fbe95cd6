-- Every line that is printed of a file fits its box: a tag that was read has at most 32 bytes.
use mathlib.Core.Path.{◌≡◌, refl, ap, ap₂, ◌∙◌}
use mathlib.Core.List.{List, [], ◌∷◌, ◌++◌, flat_map}
use Prim.Native.Nat.{ℕ, zero, suc, ◌-◌, ◌≤◌}
use native.Mathlib.Omega.{arith}
use lib.Dec.{leb}
use lib.ListN.{length, replicate}
use lib.Seq.{take-append_seam}
use borrow.Author.Tests.{leb-true}
use Rattle.bits.proofs.Choice.{and-true}
use Rattle.parts.specs.Parts.{end_to_end}
use Rattle.reader.specs.Reader.{tag_size_ok, printable}
use Rattle.desk.specs.declared.Job.{Job}
use Rattle.desk.specs.Desk.{done, bad_file}
use Rattle.label.specs.Label.{label_of, tag_text}
use Rattle.label.proofs.Boxing.{text_of_boxed}
use Rattle.label.proofs.Lengths.{length_of_job_label, length_of_bad_file_label}
use Rattle.law_file.specs.File.{Got, got, cut, wrong, byte_read, count_read, tag_bytes_read, tag_read, options_read, words_read, tag_of, job_read, contents_by, read_in, Contents, outcomes_in, outcomes_of, bench_of}
use Rattle.law_file.specs.Serving.{printed}
use Rattle.law_file.specs.Promises.{BenchPrints}
use Rattle.law_file.proofs.Reading.{Reads, of_got, of_cut, of_wrong, reads_then, reads_if}
use Rattle.law_file.proofs.Pieces.{pieces_served}

-- ---- what is read is such

abbrev Such : {A : Type 0} → (A → Type 0) → Got A → Type 0
Such P = Reads (λ v rest. P v) (Unit {0}) (λ n. Unit {0})

such_any : {A : Type 0} (g : Got A) → Such (λ v. Unit {0}) g
such_any (got v rest) = of_got tt
such_any cut = of_cut tt
such_any (wrong n) = of_wrong tt

tag_bytes_short : (n most : ℕ) (bs : List ℕ) → n ≤ most → Such (λ t. length t ≤ most) (tag_bytes_read n bs)
unfolding tag_bytes_read
tag_bytes_short zero most bs h = of_got {v = []} (omega arith)
tag_bytes_short (suc n) zero bs h = absurd (omega arith)
tag_bytes_short (suc n) (suc most) bs h =
    reads_then (such_any (byte_read bs)) λ b p u.
    reads_if (printable b) (λ t. reads_then (tag_bytes_short n most p (omega arith)) λ tag rest l. of_got {v = b ∷ tag} (omega arith)) (λ t. of_wrong tt)

tag_short : (bs : List ℕ) → Such (λ t. length t ≤ 32) (tag_read bs)
unfolding tag_read
tag_short bs =
    reads_then (such_any (count_read bs)) λ n p u.
    reads_if (tag_size_ok n) (λ t. tag_bytes_short n 32 p (leb-true n 32 (and-true (leb 1 n) (leb n 32) t).1)) (λ t. of_wrong tt)

abbrev ShortTag : Job → Type 0
ShortTag j = length (tag_text j.tag) ≤ 32

tag_of-short : (t : List ℕ) → length t ≤ 32 → length (tag_text (tag_of t)) ≤ 32
tag_of-short t h = rw (take-append_seam t (replicate (32 - length t) 0)) h

job_short : (bs : List ℕ) → Such ShortTag (job_read bs)
unfolding job_read
job_short bs =
    reads_then (tag_short bs) λ tag p h. reads_then (such_any (options_read p)) λ o q u. reads_then (such_any (count_read q)) λ n r v.
    reads_then (such_any (words_read n r)) λ ws rest w. of_got (tag_of-short tag h)

-- ---- what is printed

job_line_whole : (j : Job) → ShortTag j → printed (done j) ≡ label_of (done j)
job_line_whole j h = text_of_boxed (label_of (done j)) (length_of_job_label j h)

bad_file_whole : (n : ℕ) → flat_map printed (bad_file n ∷ []) ≡ flat_map label_of (bad_file n ∷ [])
unfolding flat_map
bad_file_whole n = ap (λ (bs : List ℕ). bs ++ []) (text_of_boxed (label_of (bad_file n)) (length_of_bad_file_label n))

abbrev Whole : Contents → Type 0
Whole x = flat_map printed (outcomes_in x) ≡ flat_map label_of (outcomes_in x)

job_whole : (g : Got Job) → Such ShortTag g → (others : List ℕ → Contents) → ((rest : List ℕ) → Whole (others rest)) → Whole (contents_by g others)
unfolding flat_map
job_whole (got j rest) (of_got h) others w = ap₂ (λ (line more : List ℕ). line ++ more) (job_line_whole j h) (w rest)
job_whole cut (of_cut u) others w = bad_file_whole 9
job_whole (wrong n) (of_wrong u) others w = bad_file_whole n

contents_whole : (k : ℕ) (bs : List ℕ) → Whole (read_in k bs)
unfolding read_in flat_map
contents_whole zero bs = refl
contents_whole (suc k) [] = refl
contents_whole (suc k) (b ∷ bs) = job_whole (job_read (b ∷ bs)) (job_short (b ∷ bs)) (read_in k) (contents_whole k)

lines_whole : (bs : List ℕ) → flat_map printed (outcomes_of bs) ≡ bench_of bs
unfolding outcomes_of
lines_whole bs = contents_whole (length bs) bs

pub bench_prints : BenchPrints
bench_prints pieces s y c room = ap (flat_map printed) (pieces_served pieces s y c room) ∙ lines_whole (end_to_end pieces)

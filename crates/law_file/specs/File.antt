-- What a bench file means: its outcomes and what is printed, from its bytes alone.
use mathlib.Core.List.{List, [], ◌∷◌, ◌++◌, map, flat_map}
use Rattle.std.specs.Prelude.{ℕ, zero, suc, ◌+◌, ◌-◌, ◌*◌, eqb, length, replicate}
use Rattle.bits.specs.Choice.{if}
use Rattle.raster.specs.Table.{raster_ok}
use Rattle.law_module.specs.Module.{Answer, module_of}
use Rattle.reader.specs.declared.Tag.{Tag}
use Rattle.reader.specs.declared.Options.{Options}
use Rattle.reader.specs.Reader.{tag_size_ok, printable, options_size_ok, wipe_ok, word_of, word_ok, options}
use Rattle.desk.specs.declared.Job.{Job}
use Rattle.desk.specs.declared.Outcome.{Outcome}
use Rattle.desk.specs.Desk.{done, bad_file}
use Rattle.label.specs.Label.{label_of}

-- What is read at the start of some bytes: a thing, and the bytes after it; or it is cut short; or refused, with a number.
pub data Got (A : Type 0) : Type 0 where
  got : A → List ℕ → Got A
  cut : Got A
  wrong : ℕ → Got A

-- and then another thing: "the fault met first in reading"
abbrev pub then : {A B : Type 0} → Got A → (A → List ℕ → Got B) → Got B
then (got x rest) f = f x rest
then cut f = cut
then (wrong n) f = wrong n

abbrev pub byte_read : List ℕ → Got ℕ
byte_read [] = cut
byte_read (b ∷ rest) = got b rest

-- "32 bits little-endian"
abbrev pub little : ℕ → ℕ → ℕ → ℕ → ℕ
little a b c d = a + (b + (c + d * 256) * 256) * 256

unfoldable pub count_read : List ℕ → Got ℕ
count_read bs =
    then (byte_read bs) (λ a p. then (byte_read p) (λ b q. then (byte_read q) (λ c r. then (byte_read r) (λ d s. got (little a b c d) s))))

-- "9: tag not of 1 to 32 bytes or not printable ASCII without spaces .. or cut short"
unfoldable pub tag_bytes_read : ℕ → List ℕ → Got (List ℕ)
tag_bytes_read zero bs = got [] bs
tag_bytes_read (suc n) bs =
    then (byte_read bs) (λ b p. if (printable b) (then (tag_bytes_read n p) (λ tag rest. got (b ∷ tag) rest)) (wrong 9))

unfoldable pub tag_read : List ℕ → Got (List ℕ)
tag_read bs = then (count_read bs) (λ n p. if (tag_size_ok n) (tag_bytes_read n p) (wrong 9))

-- "9: .. options not two bytes or wipe not 0 or 1, or cut short"; "4: raster not 0..11"; "Order where several apply: 7, 9, 4"
unfoldable pub options_of : ℕ → ℕ → List ℕ → Got Options
options_of raster wipe rest = if (wipe_ok wipe) (if (raster_ok raster) (got (options raster (eqb wipe 1)) rest) (wrong 4)) (wrong 9)

unfoldable pub options_read : List ℕ → Got Options
options_read bs =
    then (count_read bs) (λ n p. if (options_size_ok n) (then (byte_read p) (λ raster q. then (byte_read q) (λ wipe r. options_of raster wipe r))) (wrong 9))

-- "words 16 bits little-endian"; "3: a word .. above 3FF"; of words the unit is the word, so a fault of one is met before those after it
unfoldable pub words_read : ℕ → List ℕ → Got (List ℕ)
words_read zero bs = got [] bs
words_read (suc n) bs =
    then (byte_read bs) (λ low p. then (byte_read p) (λ high q.
    if (word_ok (word_of low high)) (then (words_read n q) (λ ws rest. got (word_of low high ∷ ws) rest)) (wrong 3)))

-- a tag as it is held: its bytes, then zeros up to 32
abbrev pub tag_of : List ℕ → Tag
tag_of bytes = record { bytes = bytes ++ replicate (32 - length bytes) 0; size = length bytes }

-- a job with the module's own answer
abbrev pub job_by : List ℕ → Options → Answer → Job
job_by tag o a = record { tag = tag_of tag; raster = a.raster; wipe = o.wipe; counts = a.counts; verdict = a.verdict }

-- "Each: tag, options (raster, wipe), words; every section after its count"
unfoldable pub job_read : List ℕ → Got Job
job_read bs =
    then (tag_read bs) (λ tag p. then (options_read p) (λ o q. then (count_read q) (λ n r. then (words_read n r) (λ ws rest.
    got (job_by tag o (module_of o.raster ws)) rest))))

-- How a file ends: after a whole job or with no job; inside a job; where it is refused.
pub data Ending : Type 0 where
  whole : Ending
  cut_short : Ending
  refused_by : ℕ → Ending

pub record Contents : Type 0 where
  pub jobs : List Job
  pub ending : Ending

abbrev pub contents : List Job → Ending → Contents
contents js e = record { jobs = js; ending = e }

abbrev pub followed_by : Job → Contents → Contents
followed_by j x = contents (j ∷ x.jobs) x.ending

-- what is read first, and what the bytes after it hold
abbrev pub contents_by : Got Job → (List ℕ → Contents) → Contents
contents_by (got j rest) others = followed_by j (others rest)
contents_by cut others = contents [] cut_short
contents_by (wrong n) others = contents [] (refused_by n)

-- "Jobs follow one another": at most so many
unfoldable pub read_in : ℕ → List ℕ → Contents
read_in zero bs = contents [] whole
read_in (suc k) [] = contents [] whole
read_in (suc k) (b ∷ bs) = contents_by (job_read (b ∷ bs)) (λ rest. read_in k rest)

-- no file has more jobs than bytes
abbrev pub contents_of : List ℕ → Contents
contents_of bs = read_in (length bs) bs

-- "on a refusal `bad file` and its number, and stops"; being cut short is refusal 9
abbrev pub last_outcomes : Ending → List Outcome
last_outcomes whole = []
last_outcomes cut_short = bad_file 9 ∷ []
last_outcomes (refused_by n) = bad_file n ∷ []

abbrev pub outcomes_in : Contents → List Outcome
outcomes_in x = map (λ j. done j) x.jobs ++ last_outcomes x.ending

unfoldable pub outcomes_of : List ℕ → List Outcome
outcomes_of bs = outcomes_in (contents_of bs)

-- "prints a line per job; on a refusal `bad file` and its number"
abbrev pub bench_of : List ℕ → List ℕ
bench_of bs = flat_map label_of (outcomes_of bs)

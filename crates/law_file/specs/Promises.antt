-- What is promised of a bench file. proofs/ proves each.
use Rattle.std.specs.Prelude.{◌≡◌, ℕ, ◌≤◌, length}
use mathlib.Core.List.{List, [], ◌∷◌, ◌++◌, flat_map}
use Rattle.parts.specs.Parts.{end_to_end}
use Rattle.session.specs.declared.Session.{Session}
use Rattle.reader.specs.Reader.{fresh}
use Rattle.desk.specs.Desk.{desk, Standing, standing, longest, take_refusal}
use Rattle.law_file.specs.File.{whole, refused_by, contents_of, outcomes_of, bench_of}
use Rattle.law_file.specs.Serving.{after, answers, told_of, served, served_all, told_in_pieces, printed}

-- a desk between jobs, whatever session and buffers the job before left
abbrev pub between : Session → List ℕ → List ℕ → Standing
between s y c = standing (desk fresh s) y c

-- buffers that hold any raster's row
abbrev pub Roomy : List ℕ → List ℕ → Type 0
Roomy y c = (longest ≤ length y) × (longest ≤ length c)

-- The outcomes are those of the file's bytes.
abbrev pub FileRead : Type 0
FileRead = (bs : List ℕ) (s : Session) (y c : List ℕ) → Roomy y c → told_of bs (between s y c) ≡ outcomes_of bs

-- Where a desk stands and what it has told is a function of the bytes so far: cutting them anywhere changes nothing.
abbrev pub CutAnywhere : Type 0
CutAnywhere = (xs ys : List ℕ) (x : Standing)
    → (after (xs ++ ys) x ≡ after ys (after xs x)) × (answers (xs ++ ys) x ≡ answers xs x ++ answers ys (after xs x))

-- No call is refused on the way.
abbrev pub NeverRefused : Type 0
NeverRefused = (bs : List ℕ) (s : Session) (y c : List ℕ) → Roomy y c
    → take_refusal (after bs (between s y c)).desk (after bs (between s y c)).y (after bs (between s y c)).c ≡ 0

-- Calls of take, in whatever pieces the bytes arrive, come to the same: where the desk stands, what the buffers hold, what was told.
abbrev pub ServedAlike : Type 0
ServedAlike = (pieces : List (List ℕ)) (s : Session) (y c : List ℕ) → Roomy y c
    → served_all pieces (between s y c) ≡ served (after (end_to_end pieces) (between s y c)) (answers (end_to_end pieces) (between s y c))

-- .. so with the end of the input the outcomes are those of the file's bytes,
abbrev pub PiecesServed : Type 0
PiecesServed = (pieces : List (List ℕ)) (s : Session) (y c : List ℕ) → Roomy y c
    → told_in_pieces pieces (between s y c) ≡ outcomes_of (end_to_end pieces)

-- and what is printed, line by line, is `bench_of`: every line fits into its box.
abbrev pub BenchPrints : Type 0
BenchPrints = (pieces : List (List ℕ)) (s : Session) (y c : List ℕ) → Roomy y c
    → flat_map printed (told_in_pieces pieces (between s y c)) ≡ bench_of (end_to_end pieces)

-- Of a file read to its end with no refusal, the output of it followed by another file is its output followed by the other's.
abbrev pub FilesAppend : Type 0
FilesAppend = (f g : List ℕ) → (contents_of f).ending ≡ whole → bench_of (f ++ g) ≡ bench_of f ++ bench_of g

-- Where it is refused for anything but being cut short, the output is its own alone.
abbrev pub RefusedAlone : Type 0
RefusedAlone = (f g : List ℕ) (n : ℕ) → (contents_of f).ending ≡ refused_by n → bench_of (f ++ g) ≡ bench_of f

-- A job's line depends on that job's bytes alone: what is printed of whole jobs between others is what is printed of them alone.
abbrev pub JobAlone : Type 0
JobAlone = (before job behind : List ℕ) → (contents_of before).ending ≡ whole → (contents_of job).ending ≡ whole
    → bench_of (before ++ (job ++ behind)) ≡ bench_of before ++ (bench_of job ++ bench_of behind)

-- "Empty input prints nothing."
abbrev pub EmptyPrintsNothing : Type 0
EmptyPrintsNothing = bench_of [] ≡ []

-- "This input: `03000000 413137 02000000 0100 00000000 03000000 423032 02000000 0700 00000000`"
abbrev pub example : List ℕ
example =
    0x03 ∷ 0x00 ∷ 0x00 ∷ 0x00 ∷ 0x41 ∷ 0x31 ∷ 0x37 ∷ 0x02 ∷ 0x00 ∷ 0x00 ∷ 0x00 ∷ 0x01 ∷ 0x00 ∷ 0x00 ∷ 0x00 ∷ 0x00 ∷ 0x00
    ∷ 0x03 ∷ 0x00 ∷ 0x00 ∷ 0x00 ∷ 0x42 ∷ 0x30 ∷ 0x32 ∷ 0x02 ∷ 0x00 ∷ 0x00 ∷ 0x00 ∷ 0x07 ∷ 0x00 ∷ 0x00 ∷ 0x00 ∷ 0x00 ∷ 0x00 ∷ []

-- "prints exactly": three letters of a tag, ` raster `, a digit, ` rows 0 faults 0 NO SIGNAL` and the end of a line
abbrev pub example_line : ℕ → ℕ → ℕ → ℕ → List ℕ
example_line a b c d =
    a ∷ b ∷ c ∷ 0x20 ∷ 0x72 ∷ 0x61 ∷ 0x73 ∷ 0x74 ∷ 0x65 ∷ 0x72 ∷ 0x20 ∷ d
    ∷ 0x20 ∷ 0x72 ∷ 0x6f ∷ 0x77 ∷ 0x73 ∷ 0x20 ∷ 0x30 ∷ 0x20 ∷ 0x66 ∷ 0x61 ∷ 0x75 ∷ 0x6c ∷ 0x74 ∷ 0x73 ∷ 0x20 ∷ 0x30
    ∷ 0x20 ∷ 0x4e ∷ 0x4f ∷ 0x20 ∷ 0x53 ∷ 0x49 ∷ 0x47 ∷ 0x4e ∷ 0x41 ∷ 0x4c ∷ 0x0a ∷ []

-- `A17 raster 1 rows 0 faults 0 NO SIGNAL` and `B02 raster 7 rows 0 faults 0 NO SIGNAL`
abbrev pub ExamplePrinted : Type 0
ExamplePrinted = bench_of example ≡ example_line 0x41 0x31 0x37 0x31 ++ example_line 0x42 0x30 0x32 0x37

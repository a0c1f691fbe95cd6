-- The line that is printed of an outcome: "prints a line per job; on a refusal `bad file` and its number". Bytes are ASCII.
use Rattle.std.specs.Prelude.{List, [], ◌∷◌, ◌++◌, ℕ, zero, suc, ◌+◌, ◌/◌, ◌%◌, min, ltb, length, take, replicate}
use Rattle.bits.specs.Choice.{if}
use Rattle.tally.specs.Tally.{label}
use Rattle.reader.specs.declared.Tag.{Tag}
use Rattle.desk.specs.declared.Job.{Job}
use Rattle.desk.specs.declared.Outcome.{Outcome}
use Rattle.desk.specs.declared.Outcome.TheVariants.{Nothing, Done, BadFile}
use Rattle.label.specs.declared.Label.{Label}

abbrev pub digit : ℕ → ℕ
digit n = 0x30 + n

-- a number in decimal, with no zeros in front, if so many digits hold it
unfoldable pub decimal_in : ℕ → ℕ → List ℕ
decimal_in zero n = []
decimal_in (suc k) n = if (ltb n 10) (digit n ∷ []) (decimal_in k (n / 10) ++ (digit (n % 10) ∷ []))

-- ten digits hold every number below 2^32
abbrev pub decimal : ℕ → List ℕ
decimal n = decimal_in 10 n

-- " raster ", " rows ", " faults ", " ", the end of a line
abbrev pub raster_is : List ℕ
raster_is = 0x20 ∷ 0x72 ∷ 0x61 ∷ 0x73 ∷ 0x74 ∷ 0x65 ∷ 0x72 ∷ 0x20 ∷ []

abbrev pub rows_are : List ℕ
rows_are = 0x20 ∷ 0x72 ∷ 0x6f ∷ 0x77 ∷ 0x73 ∷ 0x20 ∷ []

abbrev pub faults_are : List ℕ
faults_are = 0x20 ∷ 0x66 ∷ 0x61 ∷ 0x75 ∷ 0x6c ∷ 0x74 ∷ 0x73 ∷ 0x20 ∷ []

abbrev pub space : List ℕ
space = 0x20 ∷ []

abbrev pub line_end : List ℕ
line_end = 0x0a ∷ []

-- "bad file "
abbrev pub bad_file_is : List ℕ
bad_file_is = 0x62 ∷ 0x61 ∷ 0x64 ∷ 0x20 ∷ 0x66 ∷ 0x69 ∷ 0x6c ∷ 0x65 ∷ 0x20 ∷ []

-- the bytes of a tag
abbrev pub tag_text : Tag → List ℕ
tag_text t = take t.size t.bytes

-- "A17 raster 1 rows 0 faults 0 NO SIGNAL"
unfoldable pub job_label : Job → List ℕ
job_label j =
    tag_text j.tag
    ++ (raster_is ++ (decimal j.raster
    ++ (rows_are ++ (decimal j.counts.rows
    ++ (faults_are ++ (decimal j.counts.faults
    ++ (space ++ (label j.verdict
    ++ line_end))))))))

-- "`bad file` and its number"
unfoldable pub bad_file_label : ℕ → List ℕ
bad_file_label n = bad_file_is ++ (decimal n ++ line_end)

-- nothing is printed of nothing
abbrev pub label_of : Outcome → List ℕ
label_of Nothing = []
label_of (Done j) = job_label j
label_of (BadFile n) = bad_file_label n

-- the room of a line
abbrev pub room : ℕ
room = 96

-- a text in a line's room: from the start, with zeros after it; what does not fit is left out
unfoldable pub boxed : List ℕ → Label
boxed text = record { bytes = take room (text ++ replicate room 0); size = min (length text) room }

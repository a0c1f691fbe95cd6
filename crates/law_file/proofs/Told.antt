-- What a desk tells of bytes, against what is read of them: a byte at a time.
use mathlib.Core.Path.{◌≡◌, refl, ap, ◌∙◌}
use mathlib.Core.Bool.{true}
use mathlib.Core.List.{List, [], ◌∷◌, ◌++◌, append_assoc}
use Prim.Native.Nat.{ℕ}
use Rattle.std.specs.Prelude.{Result}
use Rattle.refusal.specs.declared.Refusal.{Refusal}
use Rattle.session.specs.declared.Session.{Session}
use Rattle.session.specs.Session.{closed}
use Rattle.reader.specs.declared.Stage.{Stage}
use Rattle.reader.specs.declared.Count.{Count}
use Rattle.reader.specs.declared.Tag.{Tag}
use Rattle.reader.specs.declared.Options.{Options}
use Rattle.reader.specs.declared.Read.{Read}
use Rattle.reader.specs.Reader.{reader, stopped, read_of, is_cut}
use Rattle.desk.specs.declared.Outcome.{Outcome}
use Rattle.desk.specs.Desk.{desk, bad_file, y_read, c_read, turn_read, turned, turned_y, turned_c, finished, Standing, standing, next}
use Rattle.law_file.specs.File.{Got, byte_read}
use Rattle.law_file.specs.Serving.{told, after, answers, told_of}
use Rattle.law_file.proofs.Reading.{Reads, of_got, of_cut}

-- these outcomes are those of a reading: "cut short" is 9
abbrev pub Tells : {A : Type 0} → List Outcome → (A → List ℕ → Type 0) → Got A → Type 0
Tells os At = Reads At (os ≡ bad_file 9 ∷ []) (λ n. os ≡ bad_file n ∷ [])

-- a desk inside a job
abbrev pub at : Stage → Count → ℕ → Tag → Options → Session → List ℕ → List ℕ → Standing
at stage n low t o s y c = standing (desk (reader stage n low t o) s) y c

-- ---- a byte

-- what is told of a byte by what it brought, and of the bytes after it
abbrev pub told_after : Result Read Refusal → Standing → List ℕ → List Outcome
told_after r x rest =
    let turn = turn_read r x.desk x.y x.c in
    told turn.outcome
    ++ told_of rest (standing turn.desk (y_read r x.desk.session x.y x.c) (c_read r x.desk.session x.y x.c))

abbrev pub AfterByte : List Outcome → Standing → ℕ → List ℕ → Type 0
AfterByte os x b rest = os ≡ told_after (read_of x.desk.reader b) x rest

pub told_of_byte : (b : ℕ) (bs : List ℕ) (x : Standing) → told_of (b ∷ bs) x ≡ told_after (read_of x.desk.reader b) x bs
unfolding answers after turned turned_y turned_c
told_of_byte b bs x = append_assoc (told (turned x.desk b x.y x.c).outcome) (answers bs (next b x)) (told (finished (after bs (next b x)).desk))

-- inside a job the input must not end
pub byte_told : {os : List Outcome} (bs : List ℕ) (x : Standing) → is_cut x.desk.reader ≡ true → os ≡ told_of bs x
    → Tells os (AfterByte os x) (byte_read bs)
unfolding answers after finished
byte_told [] x h e = of_cut (e ∙ rw h)
byte_told (b ∷ bs) x h e = of_got (e ∙ told_of_byte b bs x)

-- ---- "on a refusal .. stops"

stopped_silent : (bs : List ℕ) (s : Session) (y c : List ℕ) → told_of bs (standing (desk stopped s) y c) ≡ []
unfolding answers after turned turned_y turned_c read_of finished is_cut
stopped_silent [] s y c = refl
stopped_silent (b ∷ bs) s y c = stopped_silent bs s y c

pub refused-told : {os : List Outcome} (n : ℕ) (y c rest : List ℕ) → os ≡ bad_file n ∷ told_of rest (standing (desk stopped closed) y c) → os ≡ bad_file n ∷ []
refused-told n y c rest e = e ∙ ap (λ os. bad_file n ∷ os) (stopped_silent rest closed y c)

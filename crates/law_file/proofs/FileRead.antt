-- The outcomes that a desk tells of a file are those of its bytes.
use mathlib.Core.Path.{◌≡◌, refl, ap, ◌∙◌}
use mathlib.Core.List.{List, [], ◌∷◌}
use Prim.Native.Nat.{ℕ, zero, suc, ◌≤◌}
use native.Mathlib.Omega.{arith}
use lib.ListN.{length}
use Rattle.session.specs.declared.Session.{Session}
use Rattle.reader.specs.Reader.{is_cut}
use Rattle.desk.specs.declared.Job.{Job}
use Rattle.desk.specs.Desk.{done, finished}
use Rattle.law_file.specs.File.{Got, got, cut, wrong, job_read, contents_by, read_in, outcomes_in, outcomes_of}
use Rattle.law_file.specs.Serving.{after, answers, told_of}
use Rattle.law_file.specs.Promises.{between, Roomy, FileRead}
use Rattle.law_file.proofs.Reading.{of_got, of_cut, of_wrong}
use Rattle.law_file.proofs.Fuel.{Leaves, job_leaves_fewer}
use Rattle.law_file.proofs.Told.{Tells, told_of_byte}
use Rattle.law_file.proofs.JobsRead.{JobDone, job_told}

-- jobs that are not more than k
read_in_told : (k : ℕ) (bs : List ℕ) (s : Session) (y c : List ℕ) → length bs ≤ k → Roomy y c → told_of bs (between s y c) ≡ outcomes_in (read_in k bs)
unfolding read_in answers after finished is_cut
read_in_told zero [] s y c h room = refl
read_in_told zero (b ∷ bs) s y c h room = absurd (omega arith)
read_in_told (suc k) [] s y c h room = refl
read_in_told (suc k) (b ∷ bs) s y c h room =
    go (job_read (b ∷ bs)) (job_leaves_fewer b bs) (job_told (b ∷ bs) s y c room (of_got (told_of_byte b bs (between s y c)))) (read_in_told k)
  where
    go : (g : Got Job) → Leaves (length bs) g → Tells (told_of (b ∷ bs) (between s y c)) (JobDone (told_of (b ∷ bs) (between s y c))) g
        → ((rest : List ℕ) (t : Session) (v w : List ℕ) → length rest ≤ k → Roomy v w → told_of rest (between t v w) ≡ outcomes_in (read_in k rest))
        → told_of (b ∷ bs) (between s y c) ≡ outcomes_in (contents_by g (read_in k))
    go (got j rest) (of_got l) (of_got d) others =
        d.2 ∙ ap (λ os. done j ∷ os) (others rest d.0.session d.0.y d.0.c (omega arith) d.1)
    go cut (of_cut l) (of_cut d) others = d
    go (wrong n) (of_wrong l) (of_wrong d) others = d

pub file_read : FileRead
unfolding outcomes_of
file_read bs s y c room = read_in_told (length bs) bs s y c (omega arith) room

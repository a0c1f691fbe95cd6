-- Files one after another: a whole one is read as it is alone, then the next; of a refused one the next changes nothing.
use mathlib.Core.Path.{◌≡◌, refl, ap, sym, ◌∙◌}
use mathlib.Core.List.{List, [], ◌∷◌, ◌++◌, append_assoc, flat_map}
use Prim.Native.Nat.{ℕ, zero, suc, ◌+◌, ◌≤◌}
use native.Mathlib.Omega.{arith}
use lib.ListN.{length, length-append}
use Rattle.desk.specs.declared.Job.{Job}
use Rattle.desk.specs.Desk.{done}
use Rattle.label.specs.Label.{label_of}
use Rattle.law_file.specs.File.{Got, got, cut, wrong, job_read, Ending, whole, cut_short, refused_by, Contents, contents, followed_by, contents_by, read_in, contents_of, outcomes_in, outcomes_of, bench_of}
use Rattle.law_file.specs.Promises.{FilesAppend, RefusedAlone, JobAlone}
use Rattle.law_file.proofs.Reading.{of_got, of_cut, of_wrong}
use Rattle.law_file.proofs.Fuel.{Leaves, job_leaves_fewer, read_in_enough}
use Rattle.law_file.proofs.Ahead.{Ahead, job_read_steady}

-- ---- contents

-- what bytes hold that go on with g, where alone they hold the jobs js and end so; cut short, they may hold anything
abbrev Kept : Ending → List Job → List ℕ → Contents → Type 0
Kept whole js g x = x ≡ contents (js ++ (contents_of g).jobs) (contents_of g).ending
Kept cut_short js g x = Unit
Kept (refused_by n) js g x = x ≡ contents js (refused_by n)

followed_kept : (j : Job) (e : Ending) (js : List Job) (g : List ℕ) (x : Contents) → Kept e js g x → Kept e (j ∷ js) g (followed_by j x)
followed_kept j whole js g x p = ap (followed_by j) p
followed_kept j cut_short js g x p = tt
followed_kept j (refused_by n) js g x p = ap (followed_by j) p

-- bytes with the contents x, and with g behind them y
abbrev KeptWith : List ℕ → Contents → Contents → Type 0
KeptWith g x y = Kept x.ending x.jobs g y

module _ (k n : ℕ) (f g : List ℕ) (l : length f + length g ≤ n)
    (others : (rest : List ℕ) → length rest ≤ length f → KeptWith g (read_in k rest) (contents_of (rest ++ g))) where
  job_kept : (x y : Got Job) → Ahead g x y → Leaves (length f) x → KeptWith g (contents_by x (read_in k)) (contents_by y (read_in n))
  job_kept (got j rest) y a (of_got h) =
      rw (a, read_in_enough n (rest ++ g) (rw length-append (omega arith)))
      (followed_kept j (read_in k rest).ending (read_in k rest).jobs g (contents_of (rest ++ g)) (others rest h))
  job_kept cut y a (of_cut h) = tt
  job_kept (wrong m) y a (of_wrong h) = rw a

contents_kept : (k : ℕ) (f g : List ℕ) → length f ≤ k → KeptWith g (read_in k f) (contents_of (f ++ g))
unfolding read_in
contents_kept zero [] g h = refl
contents_kept zero (b ∷ f) g h = absurd (omega arith)
contents_kept (suc k) [] g h = refl
contents_kept (suc k) (b ∷ f) g h =
    job_kept k (length (f ++ g)) f g (rw length-append (omega arith)) (λ rest r. contents_kept k rest g (omega arith))
    (job_read (b ∷ f)) (job_read (b ∷ (f ++ g))) (job_read_steady (b ∷ f) g) (job_leaves_fewer b f)

-- ---- what is printed

abbrev lines_in : Contents → List ℕ
lines_in x = flat_map label_of (outcomes_in x)

lines_of_append : (js : List Job) (x : Contents) → lines_in (contents (js ++ x.jobs) x.ending) ≡ lines_in (contents js whole) ++ lines_in x
unfolding flat_map
lines_of_append [] x = refl
lines_of_append (j ∷ js) x =
    ap (λ (bs : List ℕ). label_of (done j) ++ bs) (lines_of_append js x)
    ∙ sym (append_assoc (label_of (done j)) (lines_in (contents js whole)) (lines_in x))

bench_kept : (f g : List ℕ) (e : Ending) → (contents_of f).ending ≡ e → Kept e (contents_of f).jobs g (contents_of (f ++ g))
bench_kept f g e is = rw is at (contents_kept (length f) f g (omega arith))

bench-ends : (f : List ℕ) (e : Ending) → (contents_of f).ending ≡ e → bench_of f ≡ lines_in (contents (contents_of f).jobs e)
unfolding outcomes_of
bench-ends f e is = ap (λ (end : Ending). lines_in (contents (contents_of f).jobs end)) is

pub files_append : FilesAppend
unfolding outcomes_of
files_append f g w =
    ap lines_in (bench_kept f g whole w)
    ∙ lines_of_append (contents_of f).jobs (contents_of g)
    ∙ ap (λ (bs : List ℕ). bs ++ bench_of g) (sym (bench-ends f whole w))

pub refused_alone : RefusedAlone
unfolding outcomes_of
refused_alone f g n e = ap lines_in (bench_kept f g (refused_by n) e) ∙ sym (bench-ends f (refused_by n) e)

pub job_alone : JobAlone
job_alone before job behind b j = files_append before (job ++ behind) b ∙ ap (λ (bs : List ℕ). bench_of before ++ bs) (files_append job behind j)

-- Each outcome of a file is a job that is done, or `bad file` with 9, 4 or 3.
use mathlib.Core.Path.{◌≡◌, refl, ap₂, ◌∙◌}
use mathlib.Core.Bool.{Bool, true, false, not, ◌||◌}
use mathlib.Core.List.{List, [], ◌∷◌, map}
use Prim.Native.Nat.{ℕ, zero, suc}
use lib.ListN.{length}
use Rattle.parts.specs.Parts.{any}
use Rattle.parts.proofs.Comparing.{any_of_append}
use Rattle.desk.specs.declared.Job.{Job}
use Rattle.desk.specs.declared.Outcome.TheVariants.{BadFile}
use Rattle.desk.specs.declared.Outcome.{Outcome}
use Rattle.desk.specs.Desk.{done}
use Rattle.law_file.specs.File.{Got, got, wrong, then, byte_read, count_read, tag_bytes_read, tag_read, options_of, options_read, words_read, job_read, Ending, whole, cut_short, refused_by, Contents, contents_by, read_in, contents_of, last_outcomes, outcomes_of}
use Rattle.law_file.proofs.Reading.{Reads, of_got, of_cut, of_wrong, reads_then, reads_if}
use Rattle.demands.specs.Demands.{outcome_ok, EachOutcome}

-- ---- a reading that is wrong with such a number, if it is wrong

abbrev Fair : {A : Type 0} → Got A → Type 0
Fair g = Reads (λ x rest. Unit) Unit (λ n. outcome_ok (BadFile n) ≡ true) g

fair_got : {A : Type 0} (x : A) (rest : List ℕ) → Fair (got x rest)
fair_got x rest = of_got tt

fair_wrong : {A : Type 0} (n : ℕ) → outcome_ok (BadFile n) ≡ true → Fair {A = A} (wrong n)
fair_wrong n p = of_wrong p

fair_then : {A B : Type 0} (g : Got A) (f : A → List ℕ → Got B) → Fair g → ((x : A) (rest : List ℕ) → Fair (f x rest)) → Fair (then g f)
fair_then g f p q = reads_then p (λ x rest t. q x rest)

fair_byte : (bs : List ℕ) → Fair (byte_read bs)
fair_byte [] = of_cut tt
fair_byte (b ∷ bs) = of_got tt

ruleset fair = (fair_got, fair_wrong, fair_then, fair_byte, reads_if)

fair_count : (bs : List ℕ) → Fair (count_read bs)
unfolding count_read
fair_count bs = search fair depth 12

fair_tag_bytes : (n : ℕ) (bs : List ℕ) → Fair (tag_bytes_read n bs)
unfolding tag_bytes_read any
fair_tag_bytes zero bs = of_got tt
fair_tag_bytes (suc n) bs = search (fair, fair_tag_bytes n) depth 12

fair_words : (n : ℕ) (bs : List ℕ) → Fair (words_read n bs)
unfolding words_read any
fair_words zero bs = of_got tt
fair_words (suc n) bs = search (fair, fair_words n) depth 12

fair_job : (bs : List ℕ) → Fair (job_read bs)
unfolding job_read tag_read options_read options_of any
fair_job bs = search (fair, fair_count, fair_tag_bytes, fair_words) depth 20

-- ---- the file

abbrev FairEnd : Ending → Type 0
FairEnd whole = Unit
FairEnd cut_short = Unit
FairEnd (refused_by n) = outcome_ok (BadFile n) ≡ true

fair_contents : {g : Got Job} (others : List ℕ → Contents) → Fair g → ((rest : List ℕ) → FairEnd (others rest).ending) → FairEnd (contents_by g others).ending
fair_contents others (of_got {v} {rest} t) more = more rest
fair_contents others (of_cut t) more = tt
fair_contents others (of_wrong p) more = p

fair_file : (k : ℕ) (bs : List ℕ) → FairEnd (read_in k bs).ending
unfolding read_in
fair_file zero bs = tt
fair_file (suc k) [] = tt
fair_file (suc k) (b ∷ bs) = fair_contents (λ rest. read_in k rest) (fair_job (b ∷ bs)) (λ rest. fair_file k rest)

-- ---- its outcomes

abbrev unfair : Outcome → Bool
unfair o = not (outcome_ok o)

fair_jobs : (js : List Job) → any unfair (map (λ j. done j) js) ≡ false
unfolding any
fair_jobs [] = refl
fair_jobs (j ∷ js) = fair_jobs js

fair_last : (e : Ending) → FairEnd e → any unfair (last_outcomes e) ≡ false
unfolding any
fair_last whole p = refl
fair_last cut_short p = refl
fair_last (refused_by n) p = rw p

pub each_outcome : EachOutcome
unfolding EachOutcome outcomes_of
each_outcome bs =
    let x = contents_of bs in
    any_of_append unfair (map (λ j. done j) x.jobs) (last_outcomes x.ending)
    ∙ ap₂ (λ (a b : Bool). a || b) (fair_jobs x.jobs) (fair_last x.ending (fair_file (length bs) bs))

-- A job: tag, options and words; it is done with the module's own answer.
use mathlib.Core.Path.{◌≡◌, refl, ap, ◌∙◌}
use mathlib.Core.Bool.{true, false}
use mathlib.Core.List.{List, [], ◌∷◌, flat_map}
use Prim.Native.Nat.{ℕ}
use native.Mathlib.Omega.{arith}
use Rattle.bits.specs.Words.{words10}
use Rattle.bits.proofs.Words.{words10_nil, words10_cons, words10_head, words10_tail}
use Rattle.raster.specs.Table.{raster_ok}
use Rattle.raster.proofs.Table.{looked_up_range}
use Rattle.session.specs.declared.Session.{Session}
use Rattle.session.specs.declared.Ended.{Ended}
use Rattle.session.specs.Session.{closed, begun, ended, session_or}
use Rattle.law_module.specs.Module.{Answer, module_of}
use Rattle.law_module.specs.Runs.{Bench, bench, fed_all}
use Rattle.law_module.proofs.Ranges.{closed_in_range}
use Rattle.law_module.proofs.Feeds.{length-fed_all}
use Rattle.law_module.proofs.Cuts.{lawful}
use Rattle.law_module.proofs.Own.{own, taken_by_words, answer_is_the_modules_own}
use Rattle.reader.specs.declared.Stage.TheVariants.{WordCount}
use Rattle.reader.specs.Reader.{count, options, reader}
use Rattle.desk.specs.declared.Job.{Job}
use Rattle.desk.specs.declared.Outcome.{Outcome}
use Rattle.desk.specs.Desk.{done, end_of, job_of}
use Rattle.law_file.specs.File.{byte_read, tag_of, job_read}
use Rattle.law_file.specs.Serving.{told_of}
use Rattle.law_file.specs.Promises.{between, Roomy}
use Rattle.law_file.proofs.Reading.{of_got, reads_then}
use Rattle.law_file.proofs.Told.{Tells, AfterByte}
use Rattle.law_file.proofs.Tags.{tag_told}
use Rattle.law_file.proofs.OptionsRead.{options-told}
use Rattle.law_file.proofs.WordsRead.{singly, word_count-told, words_told}

lawful_singly : (ws : List ℕ) → words10 ws ≡ true → flat_map lawful (singly ws) ≡ ws
unfolding flat_map
lawful_singly [] h = refl
lawful_singly (w ∷ ws) h =
    rw (words10_cons w [] (words10_head w ws h) (words10_nil [] refl)) (ap (λ vs. w ∷ vs) (lawful_singly ws (words10_tail w ws h)))

-- what is told of a module at its end
abbrev told_own : Answer → Ended
told_own a = record { raster = a.raster; counts = a.counts; verdict = a.verdict; session = closed }

end_of_own : (s : Session) (code : ℕ) (ws : List ℕ) → ended s ≡ own code ws → end_of s ≡ told_own (module_of code ws)
end_of_own s code ws e = rw e

module _ (y c : List ℕ) (room : Roomy y c) where
  -- fed word by word, a session ends with the module's own answer
  ends_with_own : (code : ℕ) (ws : List ℕ) → raster_ok code ≡ true → words10 ws ≡ true
      → end_of (fed_all (singly ws) (bench (session_or closed (begun closed code)) y c)).session ≡ told_own (module_of code ws)
  ends_with_own code ws ok h =
      let most = (looked_up_range code ok).total_high in
      end_of_own (fed_all (singly ws) (bench (session_or closed (begun closed code)) y c)).session code ws
      (answer_is_the_modules_own code (singly ws) y c ok (omega arith) (omega arith)
      ∙ ap (own code)
      (taken_by_words code ok (singly ws) (bench closed y c) refl closed_in_range (omega arith) (omega arith) ∙ lawful_singly ws h))

-- a desk after a job
abbrev pub JobDone : List Outcome → Job → List ℕ → Type 0
JobDone os j rest = (x : Bench) × Roomy x.y x.c × (os ≡ done j ∷ told_of rest (between x.session x.y x.c))

pub job_told : {os : List Outcome} (bs : List ℕ) (s : Session) (y c : List ℕ) → Roomy y c → Tells os (AfterByte os (between s y c)) (byte_read bs)
    → Tells os (JobDone os) (job_read bs)
unfolding job_read
job_told bs s y c room first =
    reads_then (tag_told s y c bs first) λ tag p e.
    reads_then (options-told 0 (tag_of tag) (options 0 false) s y c p e) λ o q f.
    let x : Bench = bench (session_or closed (begun closed o.raster)) y c in
    reads_then (word_count-told (tag_of tag) o 0 x q f.1) λ n r g.
    reads_then (words_told (tag_of tag) o n 0 x r g) λ ws rest h.
    let z : Bench = fed_all (singly ws) x in
    let same = length-fed_all (singly ws) x in
    of_got (
      bench (end_of z.session).session z.y z.c,
      (omega arith, omega arith),
      h.1 ∙ ap (λ e. done (job_of (reader WordCount (count 0 0) 0 (tag_of tag) o) e) ∷ told_of rest (between (end_of z.session).session z.y z.c))
          (ends_with_own y c room o.raster ws f.0 h.0),
    )

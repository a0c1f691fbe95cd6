-- Demand 3 (README) at the verdict: a changed run fails the module.
use mathlib.Core.Path.{◌≡◌, sym, ap, ◌∙◌}
use mathlib.Core.List.{◌++◌}
use borrow.Author.Tests.{ne_eqb}
use Rattle.raster.specs.Table.{meant, total_of}
use Rattle.raster.proofs.Table.{meant_ok}
use Rattle.cable.specs.Words.{start_history}
use Rattle.cable.proofs.Words.{unscrambled_words_bits}
use Rattle.law_module.specs.Module.{listed, begun_run, after_bits, bits_of, module_of}
use Rattle.law_struck.specs.Struck.{StruckFails}
use Rattle.law_struck.proofs.NoFault.{faults_none}
use Rattle.law_struck.proofs.Stretches.{data_of}
use Rattle.law_struck.proofs.Changed.{struck, seen_changed}

pub struck_fails : StruckFails
unfolding StruckFails module_of
struck_fails code ws vs before one two after a m n z ok rows sent changed equal short differ start end =
    let raster = meant code in
    let right = meant_ok code ok in
    let bs = data_of (a ++ (n ++ z)) in
    let of_vs : bits_of vs ≡ bs = unscrambled_words_bits vs start_history ∙ ap data_of changed in
    let stream : data_of (a ++ (m ++ z)) ≡ before ++ (one ++ (two ++ after)) =
    ap data_of (sym sent) ∙ sym (unscrambled_words_bits ws start_history) ∙ rows.stream in
    let seen = seen_changed raster right before one two after a m n z stream rows.long_one rows.long_two rows.opens equal start in
    let faulty : (after_bits raster bs).state.counts.faults ≡ 0 → ⊥ =
    λ none.
    struck raster right before one two after a m n z stream rows.long_one rows.long_two rows.opens equal start
    rows.judged_one rows.judged_two rows.right short differ end (faults_none listed raster (total_of raster) bs begun_run none) in
    rw (of_vs, seen, ne_eqb (after_bits raster bs).state.counts.faults 0 faulty)

-- A line is read of the words that are built of it, and of no others.
use mathlib.Core.Path.{◌≡◌, sym, ap, ap₂, ◌∙◌}
use mathlib.Core.Bool.{true}
use Prim.Native.Nat.{ℕ}
use Rattle.std.specs.Prelude.{Some, Ok}
use Rattle.refusal.proofs.Answers.{result_of_ok}
use Rattle.bits.specs.Choice.{unless_zero}
use Rattle.bits.proofs.Choice.{if_zero}
use Rattle.raster.specs.Table.{raster_ok}
use Rattle.raster.proofs.Lines.{line_refusal_ok}
use Rattle.timing.specs.declared.LineWords.{LineWords}
use Rattle.timing.specs.Line.{line_from, read_refusal, line_read, line_words}
use Rattle.timing.proofs.Line.{line_words_made, line_words_ok, line_build_of_read, line_read_of_build}
use Rattle.demands.specs.Demands.{LineReadBack}

module _ (code line ln0 ln1 : ℕ) where
  raster_of_read : line_read code ln0 ln1 ≡ Ok (Some line) → raster_ok code ≡ true
  unfolding line_read
  raster_of_read e = (if_zero (raster_ok code) _ 3 (result_of_ok (unless_zero (line_from code ln0 ln1)) (read_refusal code ln0 ln1) e).0).0

  built : line_read code ln0 ln1 ≡ Ok (Some line) → line_words code line ≡ Ok (record { ln0 = ln0; ln1 = ln1 })
  built e =
      let w = line_build_of_read code ln0 ln1 line e in
      let ok = raster_of_read e in
      line_words_made code line (rw (ok, w.2))
      ∙ ap₂ (λ (a b : ℕ). Ok (record { ln0 = a; ln1 = b })) (sym w.0) (sym w.1)

  read : line_words code line ≡ Ok (record { ln0 = ln0; ln1 = ln1 }) → line_read code ln0 ln1 ≡ Ok (Some line)
  read e =
      let w = line_words_ok code line e in
      let ok = line_refusal_ok code line w.0 in
      ap₂ (line_read code) (ap (λ (r : LineWords). r.ln0) w.1) (ap (λ (r : LineWords). r.ln1) w.1) ∙ line_read_of_build code line ok.0 ok.1

pub line_read_back : LineReadBack
unfolding LineReadBack
line_read_back code line ln0 ln1 = (built code line ln0 ln1, read code line ln0 ln1)

use mathlib.Core.Path.{sym, ap, ◌∙◌}
use borrow.Author.Tests.{eq-eqb, eqb-true}
use Rattle.bits.proofs.Choice.{false_not_true, and-true, some_unless_zero}
use Rattle.raster.proofs.Lines.{line_ok_range, line_refusal_ok, ok_line_refusal}
use Rattle.timing.specs.declared.LineWords.{LineWords}
use Rattle.timing.specs.Line.{line_in}
use Rattle.timing.proofs.Line.{line_words_ok, line_words_err, line_from_exact, line_from_other}
use Rattle.timing.proofs.line_from.Goals as goal

pub returns-in-Ok : goal.returns-in-Ok
returns-in-Ok c =
    let at = c.args in
    let line = line_in at.ln0 at.ln1 in
    let built = line_words_ok at.raster line (sym c.in-Ok.ensures) in
    let on = line_refusal_ok at.raster line built.0 in
    let same = and-true _ _ (sym c.if-eq.ensures) in
    let e0 = sym (eqb-true _ _ same.0) ∙ ap (λ (w : LineWords). w.ln0) built.1 in
    let e1 = sym (eqb-true _ _ same.1) ∙ ap (λ (w : LineWords). w.ln1) built.1 in
    rw (line_from_exact at.raster at.ln0 at.ln1 on.1 e0 e1, some_unless_zero line (line_ok_range at.raster line on.0 on.1).0)

pub returns-in_default : goal.returns-in_default
returns-in_default c =
    let at = c.args in
    let built = (line_words_ok at.raster (line_in at.ln0 at.ln1) (sym c.in-Ok.ensures)).1 in
    let other = line_from_other at.raster at.ln0 at.ln1 (λ n.
    let e0 = eq-eqb c.in-Ok.built.ln0 at.ln0 (ap (λ (w : LineWords). w.ln0) built ∙ sym n.1) in
    let e1 = eq-eqb c.in-Ok.built.ln1 at.ln1 (ap (λ (w : LineWords). w.ln1) built ∙ sym n.2) in
    false_not_true (c.if-eq.ensures ∙ rw (e0, e1))) in
    rw other

pub returns-in_default-2 : goal.returns-in_default-2
returns-in_default-2 c =
    let at = c.args in
    let line = line_in at.ln0 at.ln1 in
    let bad = line_words_err at.raster line (sym c.line_words.ensures ∙ c.in_default.is) in
    let other = line_from_other at.raster at.ln0 at.ln1 (λ n. bad (ok_line_refusal at.raster line c.requires n.0)) in
    rw other

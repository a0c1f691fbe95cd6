use Rattle.law_row.proofs.CorrectedRow.{correction_clear, correction_first, correction_kept, correction_number, correction_seen, correction_unwiped, correction_wiped}
use Rattle.use_row.proofs.Cases.{if_ok, if_refused, is_ok_and}
use Rattle.use_row.proofs.shows.corrected_and_checked.Goals as goal

pub returns : goal.returns
returns c =
    let at = c.args in
    let k = c.check-before.ensures in
    let d = c.correct-corrected.ensures in
    let s = c.check-after.ensures in
    let y = at.y.now in
    let x = at.c.now in
    let done = c.correct-corrected.result in
    record {
      number = correction_number at.raster at.line at.carry at.wiping y x d.answer;
      clear = if_ok done (λ left ok.
          let seen = correction_seen at.raster at.line at.carry at.wiping y x k d.answer d.luma d.chroma s ok in
          is_ok_and _ seen (correction_clear at.raster at.line at.carry at.wiping y x k d.answer d.luma d.chroma s ok seen));
      kept = λ plain. if_ok done (λ left ok.
          let first = correction_first at.raster at.line at.carry at.wiping y x k d.answer d.luma d.chroma s ok in
          let seen = correction_seen at.raster at.line at.carry at.wiping y x k d.answer d.luma d.chroma s ok in
          is_ok_and _ first
          (is_ok_and _ seen (correction_unwiped at.raster at.line at.carry at.wiping y x k d.answer d.luma d.chroma s ok seen first plain)));
      wiped = if_ok done (λ left ok.
          let seen = correction_seen at.raster at.line at.carry at.wiping y x k d.answer d.luma d.chroma s ok in
          is_ok_and _ seen (correction_wiped at.raster at.line at.carry at.wiping y x k d.answer d.luma d.chroma s ok seen));
      refused = if_refused done (λ why. correction_kept at.raster at.line at.carry at.wiping y x k d.answer d.luma d.chroma s);
    }

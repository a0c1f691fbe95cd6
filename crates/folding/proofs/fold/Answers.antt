-- `fold`: what is left, with the words that were taken out xor-ed in, brings the register where all the words do.
use Rattle.std.proofs.Common.{◌≡◌, ◌+◌, ◌-◌, ◌≤◌, ◌++◌, append_assoc, length, take, replicate, arith, rules, refl, sym, ap, ap₂, ◌∙◌}
use Rattle.std.proofs.Math.ListN.{length-take, length-append, take-append-drop}
use Rattle.std.specs.Slice.Iter.{chunks_rest}
use Rattle.std.proofs.lemmas.List.{nil_from_length}
use Rattle.crc.specs.Crc.{crc_words}
use Rattle.parts.proofs.Laid.{length-laid}
use Rattle.folding.specs.Folding.{loaded}
use Rattle.folding.proofs.Folding.{moved_down, block_crc, loaded_zeros, length_loaded, laid_last}
use Rattle.folding.proofs.fold.Goals as goal

pub returns-then-n-lt-BACK : goal.returns-then-n-lt-BACK
returns-then-n-lt-BACK c =
    let words = c.args.words.now in
    (ap length c.lay.ensures ∙ length-laid (304 - length words) words (replicate 304 0), ap (crc_words 0) c.lay.ensures ∙ laid_last 304 words (omega arith))

pub loop-block-init : goal.loop-block-init
loop-block-init c =
    let words = c.args.words.now in
    let front : chunks_rest c.into_iter-block-iterator.result ≡ take (length words - 304) words = search rules in (
      search rules,
      refl,
      ap (crc_words 0) (loaded_zeros _ ∙ ap₂ (λ l v. l ++ v) front c.split_at.ensures.back ∙ take-append-drop (length words - 304) words),
    )

pub loop-block-preserved : goal.loop-block-preserved
loop-block-preserved c =
    let at = c.loop-block in
    let block = c.in-Some.block.now in
    let s = c.fold_block.new.s in
    let left = chunks_rest c.next.new.self in
    let back = c.split_at.result.1.now in
    let rest : chunks_rest at.block-iterator ≡ block ++ left = search rules in
    let small : length block ≤ 512 = search rules in
    let room : length block + 304 ≤ length s = omega arith in (
      search rules,
      omega arith,
      ap (λ l. crc_words 0 (loaded l (left ++ back))) (ap (take 304) c.copy_within.ensures.after ∙ moved_down s (length block) room)
          ∙ sym (block_crc block (left ++ back) s room (omega (arith, length-append left back)) c.fold_block.ensures.1)
          ∙ ap₂ (λ l v. crc_words 0 (loaded l v)) c.fold_block.ensures.0 (sym (ap (λ v. v ++ back) rest ∙ append_assoc block left back)) ∙ at.invariant.2,
    )

pub slice_bounds-finish-end : goal.slice_bounds-finish-end
slice_bounds-finish-end c = simp length-take (omega arith)

pub finish-requires : goal.finish-requires
finish-requires c = (omega arith, simp length-take (omega arith), refl)

pub returns : goal.returns
returns c =
    let at = c.loop-block in
    let back = c.split_at.result.1.now in
    let none : length (chunks_rest at.block-iterator) ≡ 0 = search rules in
    let out = take 304 at.s in (
      ap length c.finish.ensures ∙ length_loaded out back ∙ omega arith,
      ap (crc_words 0) (c.finish.ensures ∙ ap (λ v. loaded out (v ++ back)) (sym (nil_from_length (chunks_rest at.block-iterator) none))) ∙ at.invariant.2,
    )

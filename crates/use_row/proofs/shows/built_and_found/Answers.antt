use mathlib.Core.Path.{sym, ap, ◌∙◌}
use mathlib.Core.List.{List}
use Prim.Native.Nat.{ℕ}
use Rattle.std.specs.Prelude.{Result}
use Rattle.std.specs.Result.{result_unwrap_or}
use Rattle.std.proofs.lemmas.Result.{err_from_is_err_and}
use Rattle.refusal.specs.declared.Refusal.{Refusal}
use Rattle.refusal.proofs.Answers.{result_of_ok}
use Rattle.parts.specs.Parts.{laid, part}
use Rattle.law_row.proofs.FoundPacket.{sought_found, sought_kept, sought_number, sought_refused}
use Rattle.use_row.proofs.shows.built_and_found.Goals as goal

pub returns-in_err-find_refusal-clause-number : goal.returns-in_err-find_refusal-clause-number
returns-in_err-find_refusal-clause-number c =
    let at = c.args in
    let p = err_from_is_err_and c.from_residual.result c.from_residual.ensures.1 in
    rw (p.1, p.2)
    (sought_refused at.raster at.line at.did at.sdid at.user.now at.packet.now at.y.now at.c.now _ c.find_refusal.ensures c.in_err-find_refusal.was)

pub returns-in_err-built-clause-number : goal.returns-in_err-built-clause-number
returns-in_err-built-clause-number c =
    let at = c.args in
    let p = err_from_is_err_and c.from_residual-in_err-built.result c.from_residual-in_err-built.ensures.1 in
    rw (p.1, p.2)
    (sought_number at.raster at.line at.did at.sdid at.user.now at.packet.now at.y.now at.c.now c.in_err-built.ensures.answer
    (result_of_ok _ _ (sym c.in_ok-find_refusal.ensures)).0)

-- no words are laid
pub returns-in_err-built-clause-refused : goal.returns-in_err-built-clause-refused
unfolding laid
returns-in_err-built-clause-refused c = λ _.
    let at = c.args in
    let none = c.unwrap_or.ensures ∙ ap (λ (r : Result ℕ Refusal). result_unwrap_or r 0) c.in_err-built.was in (
      sought_kept at.raster at.line at.did at.sdid at.user.now at.packet.now at.y.now at.c.now c.build-built.ensures.answer c.build-built.ensures.buffer
          c.in_err-built.was,
      c.lay.ensures ∙ ap (λ (ws : List ℕ). laid at.at ws at.y.now) (c.part-whole.ensures ∙ ap (λ (n : ℕ). part 0 n c.build-built.new.out) none),
    )

pub returns-clause-number : goal.returns-clause-number
returns-clause-number c =
    let at = c.args in
    sought_number at.raster at.line at.did at.sdid at.user.now at.packet.now at.y.now at.c.now c.in_ok-built.ensures.answer
    (result_of_ok _ _ (sym c.in_ok-find_refusal.ensures)).0

pub returns-clause-found : goal.returns-clause-found
returns-clause-found c =
    let at = c.args in
    let words = c.unwrap_or.ensures ∙ ap (λ (r : Result ℕ Refusal). result_unwrap_or r 0) c.in_ok-built.was in
    sought_found at.raster at.line at.did at.sdid at.user.now at.packet.now at.y.now at.c.now c.build-built.ensures.answer at.at c.build-built.ensures.buffer
    (c.part-whole.ensures ∙ ap (λ (n : ℕ). part 0 n c.build-built.new.out) words) c.lay.ensures c.find-part.ensures c.same.ensures c.ranges.did.fits
    c.ranges.sdid.fits (result_of_ok _ _ (sym c.in_ok-find_refusal.ensures)).0 c.in_ok-built.was

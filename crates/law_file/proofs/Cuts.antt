-- Cutting the bytes anywhere changes nothing of where a desk stands nor of what it has told.
use mathlib.Core.Path.{refl, ap, sym, ◌∙◌}
use mathlib.Core.List.{List, [], ◌∷◌, ◌++◌, append_assoc}
use Rattle.desk.specs.declared.Outcome.{Outcome}
use Rattle.desk.specs.Desk.{turned, next}
use Rattle.law_file.specs.Serving.{told, after, answers}
use Rattle.law_file.specs.Promises.{CutAnywhere}

pub cut_anywhere : CutAnywhere
unfolding after answers
cut_anywhere [] ys x = (refl, refl)
cut_anywhere (b ∷ xs) ys x =
    let rest = cut_anywhere xs ys (next b x) in
    let first : List Outcome = told (turned x.desk b x.y x.c).outcome in
    (rest.0, ap (λ (os : List Outcome). first ++ os) rest.1 ∙ sym (append_assoc first (answers xs (next b x)) (answers ys (after xs (next b x)))))

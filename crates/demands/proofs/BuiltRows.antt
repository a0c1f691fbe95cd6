-- A row that is built, as it lies in its buffers.
use mathlib.Core.Path.{◌≡◌, sym, ap, ◌∙◌}
use mathlib.Core.List.{List}
use Prim.Native.Nat.{ℕ}
use lib.ListN.{length}
use Rattle.parts.specs.Parts.{laid_unless, part}
use Rattle.plan.specs.Plan.{plan_of}
use Rattle.row.specs.Before.{Carry}
use Rattle.compose.specs.Compose.{y_stream, c_stream, build_refusal}
use Rattle.law_row.proofs.BuiltRow.{built_y, built_c}
use Rattle.law_burst.specs.TwoRows.{total}
use Rattle.demands.specs.Demands.{built_row}

module _
    (code line : ℕ)
    (carry : Carry)
    (y_active c_active y_laid c_laid y c : List ℕ)
    (made : build_refusal code line carry y_active c_active y_laid c_laid (length y) (length c) ≡ 0)
  where
    abbrev in_y : List ℕ
    in_y = y_stream (plan_of code line) carry y_active y_laid

    abbrev in_c : List ℕ
    in_c = c_stream (plan_of code line) carry c_active c_laid

    pub built_row_y : built_row code line in_y y ≡ in_y
    built_row_y =
        ap (λ (n : ℕ). part 0 (total code line) (laid_unless n in_y y)) (sym made)
        ∙ built_y code line carry y_active c_active y_laid c_laid y c made

    pub built_row_c : built_row code line in_c c ≡ in_c
    built_row_c =
        ap (λ (n : ℕ). part 0 (total code line) (laid_unless n in_c c)) (sym made)
        ∙ built_c code line carry y_active c_active y_laid c_laid y c made

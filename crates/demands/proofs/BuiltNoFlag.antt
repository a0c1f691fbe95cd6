-- A row that is built of lawful words and whole packets shows no flag.
use mathlib.Core.Path.{refl, sym, ap}
use Prim.Native.Nat.{ℕ}
use Rattle.parts.specs.Parts.{laid_unless}
use Rattle.plan.specs.Plan.{plan_of}
use Rattle.compose.specs.Compose.{built_for, y_stream, c_stream}
use Rattle.law_row.proofs.BuiltRow.{row_clean}
use Rattle.demands.specs.Demands.{BuiltNoFlag}

pub built_no_flag : BuiltNoFlag
unfolding BuiltNoFlag
built_no_flag code line carry y_active c_active y_laid c_laid y c y_packets c_packets ok lawful =
    let p = plan_of code line in
    let b = sym (ap (λ (n : ℕ). built_for n y_active c_active) ok) in
    let u = sym (ap (λ (n : ℕ). laid_unless n (y_stream p carry y_active y_laid) y) ok) in
    let v = sym (ap (λ (n : ℕ). laid_unless n (c_stream p carry c_active c_laid) c) ok) in
    row_clean code line carry y_active c_active y_laid c_laid y c b u v refl refl refl refl refl y_packets c_packets lawful

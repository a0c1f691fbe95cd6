-- A module begun in a fresh session: in range, with the raster's T.
use mathlib.Core.Path.{◌≡◌, refl, ap, ◌∙◌}
use mathlib.Core.Bool.{true}
use Prim.Native.Nat.{ℕ}
use Rattle.std.specs.Prelude.{Result, Ok}
use Rattle.refusal.specs.declared.Refusal.{Refusal}
use Rattle.raster.specs.Table.{raster_ok}
use Rattle.session.specs.declared.Session.{Session}
use Rattle.session.specs.Session.{closed, in_range, begun_as, begun}
use Rattle.law_module.proofs.Ranges.{closed_in_range, begun_in_range}
use Rattle.law_module.proofs.Between.{begun_opens}

module _ (code : ℕ) (ok : raster_ok code ≡ true) where
  fresh_opens : begun closed code ≡ Ok (begun_as code)
  fresh_opens = begun_opens closed code refl closed_in_range ok

  pub opened_in_range : in_range (begun_as code) ≡ true
  opened_in_range = rw fresh_opens at (begun_in_range closed code closed_in_range)

  -- what begin answers of a fresh session
  pub opened : {s : Session} {g : Result Session Refusal} → s ≡ closed → g ≡ begun s code → g ≡ Ok (begun_as code)
  opened es eg = eg ∙ ap (λ (s : Session). begun s code) es ∙ fresh_opens

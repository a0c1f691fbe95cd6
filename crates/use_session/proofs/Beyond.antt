-- Beyond the raster's T a feed leaves both buffers.
use mathlib.Core.Path.{◌≡◌}
use mathlib.Core.List.{List}
use Prim.Native.Nat.{ℕ}
use lib.ListN.{drop}
use native.Mathlib.Omega.{arith}
use Rattle.raster.specs.Table.{total_of}
use Rattle.session.specs.declared.Session.{Session}
use Rattle.session.specs.Session.{fed_y, fed_c}
use Rattle.law_module.proofs.Beyond.{kept_feed}

module _ (s : Session) (ws y c : List ℕ) where
  pub y_beyond : drop (total_of s.raster) (fed_y s ws y c) ≡ drop (total_of s.raster) y
  y_beyond = (kept_feed (total_of s.raster) s ws y c (omega arith)).0

  pub c_beyond : drop (total_of s.raster) (fed_c s ws y c) ≡ drop (total_of s.raster) c
  c_beyond = (kept_feed (total_of s.raster) s ws y c (omega arith)).1

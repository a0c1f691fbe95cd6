-- Laws of a take that is refused.
use mathlib.Core.Path.{◌≡◌, refl, sym}
use Prim.Native.Nat.{ℕ, zero, suc}
use lib.Dec.{eqb}
use Rattle.std.specs.Prelude.{is_ok}
use Rattle.std.proofs.Math.Dec.{eqb-suc-zero}
use Rattle.refusal.specs.Refusal.{result_of}
use Rattle.session.specs.declared.Session.{Session}
use Rattle.session.specs.Session.{end_refusal, ended, ended_as}

pub end_is_ok : (s : Session) → is_ok (ended s) ≡ eqb (end_refusal s) 0
unfolding ended
end_is_ok s = go (end_refusal s)
  where
    go : (n : ℕ) → is_ok (result_of n (ended_as s)) ≡ eqb n 0
    go zero = refl
    go (suc n) = sym (eqb-suc-zero n)

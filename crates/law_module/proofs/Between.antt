-- Between two modules: what a session that is not open passes on is nothing.
use mathlib.Core.Path.{◌≡◌, refl, sym, ap, ◌∙◌}
use mathlib.Core.Bool.{Bool, true, false}
use Prim.Native.Nat.{ℕ}
use Rattle.std.specs.Prelude.{Ok}
use Rattle.refusal.proofs.Answers.{result_of_ok}
use Rattle.raster.specs.Table.{raster_ok}
use Rattle.session.specs.declared.Session.{Session}
use Rattle.session.specs.declared.Ended.{Ended}
use Rattle.session.specs.Session.{closed, in_range, begun_as, begun, end_refusal, ended_as, ended, session_left}
use Rattle.law_module.proofs.Refusals.{begin_answers, end_answers, left_at_end}

pub begun_opens : (s : Session) (code : ℕ) → s.running ≡ false → in_range s ≡ true → raster_ok code ≡ true
    → begun s code ≡ Ok (begun_as code)
unfolding begun
begun_opens s code shut h ok = rw (begin_answers s code shut h ok)

-- the raster alone decides what begin answers
pub begun_by_raster_alone : (s t : Session) (code : ℕ) → s.running ≡ false → in_range s ≡ true → t.running ≡ false → in_range t ≡ true → raster_ok code ≡ true
    → begun s code ≡ begun t code
begun_by_raster_alone s t code s_shut s_in t_shut t_in ok = begun_opens s code s_shut s_in ok ∙ sym (begun_opens t code t_shut t_in ok)

-- "one closed session, the same after every module"
pub ended-closed : (s : Session) {e : Ended} → ended s ≡ Ok e → e.session ≡ closed
unfolding ended
ended-closed s h = ap (λ (e : Ended). e.session) (result_of_ok (ended_as s) (end_refusal s) h).1

-- .. and where none was open, none is open after end either
pub ended_shut : (s : Session) → in_range s ≡ true → (session_left s (ended s)).running ≡ false
unfolding ended
ended_shut s h = go s.running refl
  where
    go : (t : Bool) → s.running ≡ t → (session_left s (ended s)).running ≡ false
    go true e = rw (end_answers s e h)
    go false e = left_at_end (λ z. z.running ≡ false) s e refl

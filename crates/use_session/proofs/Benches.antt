-- A call's equations as one of the bench: session and buffers together. Where the call is refused, the session is the one before.
use mathlib.Core.Path.{◌≡◌, refl, ap, ◌∙◌}
use mathlib.Core.List.{List, [], ◌∷◌}
use Prim.Native.Nat.{ℕ}
use Rattle.std.specs.Prelude.{Result, Ok, Err, MatchResult}
use Rattle.std.specs.Result.{result_unwrap_or}
use Rattle.refusal.specs.declared.Refusal.{Refusal}
use Rattle.session.specs.declared.Session.{Session}
use Rattle.session.specs.declared.Ended.{Ended}
use Rattle.session.specs.Session.{begun, fed, fed_y, fed_c, ended, session_or, session_left}
use Rattle.law_module.specs.Runs.{Bench, bench, fed_once, fed_all, started, answered, left}

or_before : (s : Session) (r : Result Session Refusal) → result_unwrap_or r s ≡ session_or s r
or_before s (Ok after) = refl
or_before s (Err refusal) = refl

left_after : (s : Session) (r : Result Ended Refusal) {t : Session} → MatchResult r (λ e. t ≡ e.session) (λ _. t ≡ s) → t ≡ session_left s r
left_after s (Ok e) h = h
left_after s (Err refusal) h = h

module _ (s : Session) (y c : List ℕ) {t : Session} {r : Result Session Refusal} (et : t ≡ result_unwrap_or r s) where
  pub bench-begun : (code : ℕ) → r ≡ begun s code → bench t y c ≡ started code (bench s y c)
  bench-begun code e = rw (et, or_before s r, e)

  pub bench-fed : (ws : List ℕ) {z d : List ℕ} → r ≡ fed s ws y c → z ≡ fed_y s ws y c → d ≡ fed_c s ws y c
      → bench t z d ≡ fed_once ws (bench s y c)
  bench-fed ws e ey ec = rw (et, or_before s r, e, ey, ec)

-- end, after one feed
module _ (code : ℕ) (ws : List ℕ) (x : Bench) {s : Session} {y c : List ℕ} (fed_on : bench s y c ≡ fed_once ws (started code x))
    {r : Result Ended Refusal} (er : r ≡ ended s) where
  pub bench-answered : r ≡ answered code (ws ∷ []) x
  unfolding fed_all
  bench-answered = er ∙ ap (λ (z : Bench). ended z.session) fed_on

  pub bench-left : {t : Session} → MatchResult r (λ e. t ≡ e.session) (λ _. t ≡ s) → bench t y c ≡ left code (ws ∷ []) x
  unfolding fed_all
  bench-left h = rw (left_after s r h, er) (ap (λ (z : Bench). bench (session_left z.session (ended z.session)) z.y z.c) fed_on)

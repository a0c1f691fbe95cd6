-- Laws of the bits after the last row: fewer than four pairs.
use mathlib.Core.Path.{◌≡◌, refl, sym, ap, ap₂, ◌∙◌}
use mathlib.Core.Bool.{Bool, true, false}
use mathlib.Core.List.{List, [], ◌∷◌, ◌++◌, append_assoc, append-nil}
use mathlib.Core.Logic.{◌⊎◌, inl, inr}
use Prim.Native.Nat.{ℕ, ◌+◌, ◌/◌, ◌%◌, ◌≤◌, ◌<◌}
use native.Mathlib.Omega.{arith}
use native.Mathlib.Decide.{dec_le}
use lib.ListN.{length, drop, length-append}
use lib.Seq.{drop-append-le, drop-append_seam}
use borrow.Author.Tests.{ne_eqb, le-leb, lt-leb, le-ltb}
use Rattle.raster.specs.Layout.{sync_of, hd_unit}
use Rattle.align.specs.Search.{slid}
use Rattle.recogniser.specs.declared.Event.TheVariants.{Within, Pair}
use Rattle.recogniser.specs.Sight.{is_sync, ahead_after, window_after}
use Rattle.recogniser.specs.Event.{event_of, looked}
use Rattle.recogniser.proofs.Windows.{last_of, slid_last_of, is_sync-ends}
use Rattle.judging.specs.declared.Track.{Track}
use Rattle.judging.specs.Happening.{happened}
use Rattle.tally.specs.declared.Counts.{Counts}
use Rattle.tally.specs.Tally.{tallied}
use Rattle.stepper.specs.Step.{Run, stepped, steps}
use Rattle.law_module.specs.Module.{listed}
use Rattle.law_clean.specs.Signal.{OnlyAtStart}
use Rattle.law_clean.proofs.Sliding.{slides}
use Rattle.law_clean.proofs.Quiet.{standing, step_with}

-- the last sixty bits are those that came, whatever happened
pub steps_last : (code total : ℕ) (bs : List Bool) (x : Run) → (steps listed code total bs x).state.sight.window.last
    ≡ slides x.state.sight.window.last bs
unfolding steps stepped looked window_after
steps_last code total [] x = refl
steps_last code total (b ∷ bs) x = steps_last code total bs (stepped listed code total b x)

-- counts and seen, all that end looks at
pub record Told (n : Counts) (x : Run) : Type 0 where
  pub counts : x.state.counts ≡ n
  pub seen : x.state.sight.window.seen ≡ true

module _ (code total : ℕ) (some : 1 ≤ total) (t : Track) (n : Counts) (y c : List ℕ) (p rows q : List Bool)
    (long : 60 ≤ length rows) (short : length q < 80) (only : OnlyAtStart rows q)
  where
    -- after these bits of q
    abbrev last_after : List Bool → ℕ
    last_after q1 = last_of (p ++ (rows ++ q1))

    slid-last_after : (q1 : List Bool) (b : Bool) → slid (last_after q1) b ≡ last_after (q1 ++ (b ∷ []))
    slid-last_after q1 b =
        slid_last_of (p ++ (rows ++ q1)) b
        ∙ ap last_of (append_assoc p (rows ++ q1) (b ∷ []) ∙ ap (λ (l : List Bool). p ++ l) (append_assoc rows q1 (b ∷ [])))

    -- a sync ends only sixty bits after the start of q
    sync_place : (q1 q2 : List Bool) → q ≡ q1 ++ q2 → 1 ≤ length q1 → is_sync (last_after q1) ≡ true → length q1 ≡ 60
    sync_place q1 q2 split one is =
        let s = is_sync-ends (p ++ (rows ++ q1)) is in
        let lengths = ap length s.split in
        let l1 = length-append p (rows ++ q1) in
        let l2 = length-append rows q1 in
        let l3 = length-append s.pre (sync_of hd_unit) in
        let u = drop (length p) s.pre in
        let here : rows ++ q1 ≡ u ++ sync_of hd_unit =
        sym (drop-append_seam p (rows ++ q1)) ∙ ap (drop (length p)) s.split ∙ drop-append-le (length p) s.pre (sync_of hd_unit) (omega arith) in
        let all : rows ++ q ≡ u ++ (sync_of hd_unit ++ q2) =
        ap (λ (l : List Bool). rows ++ l) split ∙ sym (append_assoc rows q1 q2) ∙ ap (λ (l : List Bool). l ++ q2) here
        ∙ append_assoc u (sync_of hd_unit) q2 in
        let at = only u q2 all (omega (arith, ap length split, length-append q1 q2)) in
        omega (arith, ap length here, l2, length-append u (sync_of hd_unit), at)

    -- after j bits of q
    abbrev in_tail : ℕ → ℕ → ℕ → Run
    in_tail last ahead j = standing true last ahead (total + j / 20) (j % 20) t n y c

    -- an XYZ pair of which not all bits come
    abbrev Waiting : ℕ → ℕ → Type 0
    Waiting ahead j = (ahead ≡ 0) ⊎ ((60 ≤ j) × (ahead + j ≡ 80))

    waiting_after : (ahead j : ℕ) (sync : Bool) → (sync ≡ true → j + 1 ≡ 60) → j < 79 → Waiting ahead j → Waiting (ahead_after ahead sync) (j + 1)
    waiting_after ahead j true at low w = let e = at refl in inr (omega arith, omega arith)
    waiting_after ahead j false at low (inl z) = inl (omega arith)
    waiting_after ahead j false at low (inr w) = inr (omega arith, omega arith)

    one_bit : (last ahead j : ℕ) (b : Bool) (next : ℕ) (sync : Bool) → slid last b ≡ next → is_sync next ≡ sync → (sync ≡ true → j + 1 ≡ 60) → j < 79
        → (ahead ≡ 1 → ⊥) → stepped listed code total b (in_tail last ahead j) ≡ in_tail next (ahead_after ahead sync) (j + 1)
    unfolding event_of happened listed tallied
    one_bit last ahead j b next sync e is at low far = go (dec_le 19 (j % 20))
      where
        go : Dec (19 ≤ j % 20) → stepped listed code total b (in_tail last ahead j) ≡ in_tail next (ahead_after ahead sync) (j + 1)
        go (yes l) =
            let pairs : total + j / 20 + 1 ≡ total + (j + 1) / 20 = omega arith in
            let bit : 0 ≡ (j + 1) % 20 = omega arith in
            step_with code total true last ahead (total + j / 20) (j % 20) t n y c b next Pair sync e
            (rw (ne_eqb (total + j / 20) 0 (λ z. omega arith), ne_eqb ahead 1 far, le-leb 19 (j % 20) l, lt-leb (total + 3) (total + j / 20) (omega arith)))
            is
            ∙ rw (le-ltb (total + j / 20) total (omega arith)) (ap₂ (λ (k m : ℕ). standing true next (ahead_after ahead sync) k m t n y c) pairs bit)
        go (no g) =
            let pairs : total + j / 20 ≡ total + (j + 1) / 20 = omega arith in
            let bit : j % 20 + 1 ≡ (j + 1) % 20 = omega arith in
            step_with code total true last ahead (total + j / 20) (j % 20) t n y c b next Within sync e
            (rw (ne_eqb (total + j / 20) 0 (λ z. omega arith), ne_eqb ahead 1 far, lt-leb 19 (j % 20) (omega arith), none sync is at)) is
            ∙ ap₂ (λ (k m : ℕ). standing true next (ahead_after ahead sync) k m t n y c) pairs bit
          where
            none : (s : Bool) → is_sync next ≡ s → (s ≡ true → j + 1 ≡ 60) → is_sync next ≡ false
            none true e at = let z = at refl in absurd (g (omega arith))
            none false e at = e

    tail_from : (q2 q1 : List Bool) (ahead j : ℕ) → q ≡ q1 ++ q2 → length q1 ≡ j → Waiting ahead j
        → Told n (steps listed code total q2 (in_tail (last_after q1) ahead j))
    unfolding steps
    tail_from [] q1 ahead j split at w = record { counts = refl; seen = refl }
    tail_from (b ∷ q2) q1 ahead j split at w =
        let next = last_after (q1 ++ (b ∷ [])) in
        let split' : q ≡ (q1 ++ (b ∷ [])) ++ q2 = split ∙ sym (append_assoc q1 (b ∷ []) q2) in
        let long' : length (q1 ++ (b ∷ [])) ≡ j + 1 = length-append q1 (b ∷ []) ∙ ap (λ (m : ℕ). m + 1) at in
        let low : j < 79 = omega (arith, ap length split, length-append q1 (b ∷ q2)) in
        let place : is_sync next ≡ true → j + 1 ≡ 60 = λ s. sym long' ∙ sync_place (q1 ++ (b ∷ [])) q2 split' (omega arith) s in
        rw (one_bit (last_after q1) ahead j b next (is_sync next) (slid-last_after q1 b) refl place low (λ o. omega arith))
        (tail_from q2 (q1 ++ (b ∷ [])) (ahead_after ahead (is_sync next)) (j + 1) split' long' (waiting_after ahead j (is_sync next) place low w))

    -- from a row whose T pairs have ended
    pub tail : (x : Run) (last : ℕ) → x ≡ standing true last 0 total 0 t n y c → last ≡ last_of (p ++ rows) → Told n (steps listed code total q x)
    tail x last same e =
        let pairs : total ≡ total + 0 / 20 = omega arith in
        let l : last ≡ last_after [] = e ∙ ap (λ (bs : List Bool). last_of (p ++ bs)) (sym (append-nil rows)) in
        rw (same ∙ ap₂ (λ (l k : ℕ). standing true l 0 k 0 t n y c) l pairs) (tail_from q [] 0 0 refl refl (inl refl))

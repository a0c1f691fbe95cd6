-- Where a one and then forty zeros can stand in a built row: at the ends of its two syncs.
use mathlib.Core.Path.{◌≡◌, refl, sym, ap, ap₂, subst, ◌∙◌}
use mathlib.Core.Bool.{Bool, true, false}
use mathlib.Core.List.{List, [], ◌∷◌, ◌++◌, append_assoc, append-nil}
use mathlib.Core.Logic.{◌⊎◌, inl, inr}
use Prim.Native.Nat.{ℕ, ◌+◌, ◌≤◌, ◌<◌}
use native.Mathlib.Omega.{arith}
use lib.ListN.{length, take, drop, replicate, length-append}
use Rattle.bits.specs.Bits.{bits, number, word_bits}
use Rattle.bits.specs.Words.{words10}
use Rattle.bits.proofs.Bits.{number-bits}
use Rattle.bits.proofs.Words.{words10_head, words10_tail}
use Rattle.cable.specs.Channels.{paired}
use Rattle.align.specs.Search.{slid}
use Rattle.parts.specs.Parts.{end_to_end}
use Rattle.plan.specs.Plan.{plan_of}
use Rattle.stream.specs.Words.{y_blank, c_blank, trs}
use Rattle.row.specs.Before.{Carry, carried}
use Rattle.recogniser.specs.Sight.{is_eav}
use Rattle.law_clean.specs.Signal.{Content, row_bits}
use Rattle.law_clean.proofs.Sliding.{slides, Edge, NoEdge, no_edge_after, slides_value, slides_small, sync_after, pair_bits, length_pair_bits, slides_pair, pair_last, pair_seen}
use Rattle.law_clean.proofs.Spaced.{Spaced, spaced_after}
use Rattle.law_clean.proofs.Spaced.Spaced.{word}
use Rattle.law_clean.proofs.Stretch.{spaced_no_edge}
use Rattle.law_clean.proofs.Built.{middle, codes}
use Rattle.law_clean.proofs.Verdicts.{LawfulRow}
use Rattle.law_clean.proofs.Rests.{rest_y, rest_c, ys_parts, cs_parts}
use Rattle.law_clean.proofs.Start.{sync, almost, almost_no_edge, code_front}

abbrev pub edge : List Bool
edge = true ∷ replicate 40 false

-- a pair whose Y word is not an EAV's
abbrev pub NotEav : List Bool → Type 0
NotEav v = (20 ≤ length v) × (is_eav (number (take 10 (drop 10 v))) ≡ false)

edge_after : (l : ℕ) → l < 0x1000000000000000 → Edge (slides l edge)
unfolding number
edge_after l small = subst Edge (sym (slides_value edge l 19 refl)) (omega arith, omega arith)

-- ---- what follows an edge

module _ (P : List Bool → Type 0) where
  abbrev pub Followed : ℕ → List Bool → Type 0
  Followed l [] = Unit {0}
  Followed l (b ∷ bs) = (Edge (slid l b) → P bs) × Followed (slid l b) bs

  followed_quiet : (xs bs : List Bool) (l : ℕ) → NoEdge l xs → Followed (slides l xs) bs → Followed l (xs ++ bs)
  followed_quiet [] bs l none h = h
  followed_quiet (x ∷ xs) bs l none h = (λ e. absurd (none.0 e), followed_quiet xs bs (slid l x) none.1 h)

  followed_rest : (xs bs : List Bool) (l : ℕ) → Followed l (xs ++ bs) → Followed (slides l xs) bs
  followed_rest [] bs l h = h
  followed_rest (x ∷ xs) bs l h = followed_rest xs bs (slid l x) h.1

  pub followed_at : (pre v : List Bool) (l : ℕ) → l < 0x1000000000000000 → Followed l (pre ++ (edge ++ v)) → P v
  followed_at pre v l small h =
      let m = slides l pre in
      (followed_rest (true ∷ replicate 39 false) (false ∷ v) m (followed_rest pre (edge ++ v) l h)).0 (edge_after m (slides_small pre l small))

  -- a timing code
  followed_code : (e : ℕ) (cs ys : List ℕ) (l : ℕ) → l < 0x1000000000000000 → e < 1024
      → P (pair_bits e e ++ word_bits (paired cs ys)) → Followed (pair_last 0xfffff e e) (word_bits (paired cs ys))
      → Followed l (word_bits (paired (trs e ++ cs) (trs e ++ ys)))
  followed_code e cs ys l small low is rest =
      let bs = word_bits (paired cs ys) in
      rw (code_front e cs ys)
      (followed_quiet almost (false ∷ (pair_bits e e ++ bs)) l (almost_no_edge l) (
        λ f. is,
        subst (λ (n : ℕ). Followed n (pair_bits e e ++ bs)) (sym (sync_after l small))
            (followed_quiet (pair_bits e e) bs 0xfffff (no_edge_after e e)
            (subst (λ (n : ℕ). Followed n bs) (sym (slides_pair 0xfffff e e low low)) rest)),
      ))

  -- a stretch without one
  followed_stretch : (vs ws cs ys : List ℕ) (c l : ℕ) → Spaced (c ∷ vs) → length vs ≡ length ws → words10 vs ≡ true → words10 ws ≡ true
      → l < 0x1000000000000000 → ((c ≡ 0 → ⊥) → 0x10000000000 ≤ l)
      → ((m : ℕ) → m < 0x1000000000000000 → Followed m (word_bits (paired cs ys)))
      → Followed l (word_bits (paired (vs ++ cs) (ws ++ ys)))
  unfolding word_bits paired
  followed_stretch [] [] cs ys c l spaced long tens tens_w small led rest = rest l small
  followed_stretch [] (w ∷ ws) cs ys c l spaced long tens tens_w small led rest = absurd (omega arith)
  followed_stretch (v ∷ vs) [] cs ys c l spaced long tens tens_w small led rest = absurd (omega arith)
  followed_stretch (v ∷ vs) (w ∷ ws) cs ys c l spaced long tens tens_w small led rest =
      let a = spaced_after c v vs spaced in
      let hv = words10_head v vs tens in
      let hw = words10_head w ws tens_w in
      let seen = pair_seen l v w small (omega arith) (omega arith) in
      let bs = word_bits (paired (vs ++ cs) (ws ++ ys)) in
      subst (Followed l) (append_assoc (bits 10 v) (bits 10 w) bs)
      (followed_quiet (pair_bits v w) bs l (spaced_no_edge l c v w led a.0)
      (subst (λ (n : ℕ). Followed n bs) (sym (slides_pair l v w (omega arith) (omega arith)))
      (followed_stretch vs ws cs ys v (pair_last l v w) a.1 (omega arith) (words10_tail v vs tens) (words10_tail w ws tens_w)
      seen.small seen.led rest)))

  -- .. to the end
  followed_last : (vs ws : List ℕ) (c l : ℕ) → Spaced (c ∷ vs) → length vs ≡ length ws → words10 vs ≡ true → words10 ws ≡ true
      → l < 0x1000000000000000 → ((c ≡ 0 → ⊥) → 0x10000000000 ≤ l) → Followed l (word_bits (paired vs ws))
  unfolding word_bits paired
  followed_last vs ws c l spaced long tens tens_w small led =
      subst (Followed l) (ap₂ (λ (a b : List ℕ). word_bits (paired a b)) (append-nil vs) (append-nil ws))
      (followed_stretch vs ws [] [] c l spaced long tens tens_w small led (λ m low. tt))

-- ---- the edges of a row

not_eav : (v : ℕ) (bs : List Bool) → v < 1024 → is_eav v ≡ false → NotEav (pair_bits v v ++ bs)
unfolding bits
not_eav v bs low other =
    let e : number (bits 10 v) ≡ v = number-bits 10 v ∙ omega arith in
    (omega (arith, length-append (pair_bits v v) bs, length_pair_bits v v), ap is_eav e ∙ other)

-- its EAV's, or one before a pair that is not an EAV's
abbrev pub OwnOrOther : List Bool → List Bool → Type 0
OwnOrOther row v = (60 + length v ≡ length row) ⊎ NotEav v

module _ (code line : ℕ) (carry : Carry) (k : Content) where
  abbrev eav : ℕ
  eav = (plan_of code line).codes.eav

  row_parts : row_bits (plan_of code line) carry k ≡ word_bits (paired (trs eav ++ rest_c code line carry k) (trs eav ++ rest_y code line carry k))
  row_parts = ap₂ (λ (cs ys : List ℕ). word_bits (paired cs ys)) (cs_parts code line carry k) (ys_parts code line carry k)

  -- what follows its sync
  abbrev pub after_sync : List Bool
  after_sync = pair_bits eav eav ++ word_bits (paired (rest_c code line carry k) (rest_y code line carry k))

  pub row_front : row_bits (plan_of code line) carry k ≡ sync ++ after_sync
  row_front = row_parts ∙ code_front eav (rest_c code line carry k) (rest_y code line carry k)

  pub row_edges : LawfulRow code line carry k → Followed (OwnOrOther (row_bits (plan_of code line) carry k)) 0 (row_bits (plan_of code line) carry k)
  row_edges row =
      let p = plan_of code line in
      let is = codes code line row.ok in
      let sav = p.codes.sav in
      let ya = k.y.active in
      let ca = k.c.active in
      let my = middle p (carried carry).known (carried carry).y y_blank (end_to_end k.y.packets) in
      let mc = middle p (carried carry).known (carried carry).c c_blank (end_to_end k.c.packets) in
      let P = OwnOrOther (row_bits p carry k) in
      let after_eav = pair_seen 0xfffff eav eav (omega arith) is.eav_low is.eav_low in
      let after_sav = pair_seen 0xfffff sav sav (omega arith) is.sav_low is.sav_low in
      let first : 60 + length after_sync ≡ length (row_bits p carry k) = sym (length-append sync after_sync) ∙ ap length (sym row_front) in
      let active =
      followed_last P ca ya sav (pair_last 0xfffff sav sav) (word is.sav_some row.c.spaced_active) (row.c.long ∙ sym row.y.long)
      row.c.tens_active row.y.tens_active after_sav.small after_sav.led in
      let rest =
      followed_stretch P mc my (trs sav ++ ca) (trs sav ++ ya) eav (pair_last 0xfffff eav eav) (word is.eav_some row.c.spaced_middle)
      (omega (arith, row.c.long_middle, row.y.long_middle)) row.c.tens_middle row.y.tens_middle after_eav.small after_eav.led
      (λ m small. followed_code P sav ca ya m small is.sav_low (inr (not_eav sav (word_bits (paired ca ya)) is.sav_low is.sav_not)) active) in
      subst (Followed P 0) (sym row_parts)
      (followed_code P eav (rest_c code line carry k) (rest_y code line carry k) 0 (omega arith) is.eav_low (inl first) rest)

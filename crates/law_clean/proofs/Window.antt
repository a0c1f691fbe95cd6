-- A capture of a running signal passes, wherever it starts and ends.
use mathlib.Core.Path.{◌≡◌, refl, sym, ap, ap₂, subst, ◌∙◌}
use mathlib.Core.Bool.{Bool, true, Bool-discrete}
use mathlib.Core.List.{List, [], ◌∷◌, ◌++◌, append_assoc, reverse_aux, List-discrete}
use mathlib.Core.Logic.{◌⊎◌, inl, inr}
use Prim.Native.Nat.{ℕ, zero, suc, ◌+◌, ◌-◌, ◌*◌, ◌≤◌, ◌<◌, min}
use native.Mathlib.Omega.{arith}
use native.Mathlib.Decide.{dec_le}
use lib.ListN.{length, take, drop, replicate, length-append, length-take, length-drop, take-append-drop}
use lib.Seq.{take-append-le, take_at}
use borrow.Author.Tests.{le-ltb}
use Rattle.bits.specs.Bits.{word_bits}
use Rattle.bits.proofs.Choice.{and-true}
use Rattle.bits.proofs.Bits.{length-word_bits}
use Rattle.raster.specs.Table.{raster_given, entry_of, rows_of}
use Rattle.raster.specs.Lines.{line_refusal}
use Rattle.raster.proofs.Table.{looked_up_range}
use Rattle.raster.proofs.Lines.{line_refusal_ok}
use Rattle.cable.specs.Bits.{scrambled, unscrambled, past}
use Rattle.cable.specs.Words.{start_history, unscramble_words}
use Rattle.cable.proofs.Bits.{unscrambled_of_append, unscrambled_of_scrambled, unscrambled_from_eleventh}
use Rattle.cable.proofs.Words.{length_unscramble, unscrambled_words_bits}
use Rattle.plan.specs.Plan.{plan_of}
use Rattle.row.specs.Before.{Carry, carry_ok}
use Rattle.judging.specs.Happening.{line_after}
use Rattle.judging.proofs.Lines.{line_after_ok}
use Rattle.tally.specs.declared.Verdict.TheVariants.{Pass}
use Rattle.tally.specs.Tally.{ceiling}
use Rattle.law_module.specs.Module.{answer_in, after_bits, bits_of, module_of}
use Rattle.law_clean.specs.Signal.{Content, lawful_row, row_bits, carry_from, signal_bits, lawful, NoEav, WindowCapture, WindowPasses}
use Rattle.law_clean.proofs.Verdicts.{LawfulRow}
use Rattle.law_clean.proofs.Sequence.{carry_from_ok, lawful_row_holds, total_low}
use Rattle.law_clean.proofs.Start.{sync}
use Rattle.law_clean.proofs.Edges.{edge, NotEav, OwnOrOther, Followed, followed_at, after_sync, row_front, row_edges}
use Rattle.law_clean.proofs.Clean.{signal_zero, lawful_zero}
use Rattle.law_clean.proofs.Within.{front_split, front_rest, row_length, length_row, Fine, within_fine}

-- ---- bits before a row

-- fewer than a sync has
few_no_eav : (p : List Bool) → length p < 60 → NoEav p
few_no_eav p few u v same = absurd (omega (arith, ap length same, length-append u (sync ++ v)))

-- strange bits, and then the rest of a row: they end with the row's bits before it, so that it is whole; or no row opens
abbrev Begun : List Bool → List Bool → List Bool → Type 0
Begun strange before rest = (strange ≡ take (length strange - length before) strange ++ before) ⊎ NoEav (strange ++ rest)

module _ (code line : ℕ) (carry : Carry) (k : Content) (row : LawfulRow code line carry k)
    (strange before rest : List Bool) (few : length strange ≤ 10) (split : row_bits (plan_of code line) carry k ≡ before ++ rest)
  where
    abbrev whole : List Bool
    whole = row_bits (plan_of code line) carry k

    -- a sync ends where one ends in the row: it is that of its EAV, or no EAV follows
    sync_place : (u v : List Bool) → strange ++ rest ≡ u ++ (sync ++ v) → (length u + length before ≡ length strange) ⊎ NotEav v
    sync_place u v same =
        go
        (followed_at (OwnOrOther whole) (before ++ x) v 0 (omega arith) (subst (Followed (OwnOrOther whole) 0) at (row_edges code line carry k row)))
      where
        ones : List Bool
        ones = u ++ replicate 19 true

        x : List Bool
        x = drop (length strange) ones

        shifted : strange ++ rest ≡ ones ++ (edge ++ v)
        shifted = same ∙ sym (append_assoc u (replicate 19 true) (edge ++ v))

        at : whole ≡ (before ++ x) ++ (edge ++ v)
        at =
            split
            ∙ ap (λ (l : List Bool). before ++ l)
            (front_rest strange rest ones (edge ++ v) shifted (omega (arith, length-append u (replicate 19 true))))
            ∙ sym (append_assoc before x (edge ++ v))

        go : OwnOrOther whole v → (length u + length before ≡ length strange) ⊎ NotEav v
        go (inr other) = inr other
        go (inl e) =
            inl
            (omega (arith, ap length same, length-append strange rest, length-append u (sync ++ v), ap length split, length-append before rest))

    before_row : Begun strange before rest
    before_row = go (List-discrete Bool-discrete strange (take (length strange - length before) strange ++ before))
      where
        -- they are from a sync, as the row's are
        missing : (u v : List Bool) → strange ++ rest ≡ u ++ (sync ++ v) → length u + length before ≡ length strange
            → strange ≡ take (length strange - length before) strange ++ before
        missing u v same long =
            let n = length before in
            let x = drop (length u) strange in
            let fits : length u ≤ length strange = omega arith in
            let is : strange ≡ u ++ x = front_split u (sync ++ v) strange rest (sym same) fits in
            let here : sync ++ v ≡ x ++ rest = front_rest u (sync ++ v) strange rest (sym same) fits in
            let own : sync ++ after_sync code line carry k ≡ before ++ rest = sym (row_front code line carry k) ∙ split in
            let e : x ≡ before =
            sym (take_at x rest n (omega (arith, length-drop (length u) strange)))
            ∙ ap (take n) (sym here)
            ∙ take-append-le n sync v (omega arith)
            ∙ sym (take-append-le n sync (after_sync code line carry k) (omega arith))
            ∙ ap (take n) own
            ∙ take_at before rest n refl in
            let f : u ≡ take (length strange - length before) strange =
            sym (take_at u x (length strange - length before) (omega arith)) ∙ ap (take (length strange - length before)) (sym is) in
            is ∙ ap₂ (λ (a b : List Bool). a ++ b) f e

        go : Dec (strange ≡ take (length strange - length before) strange ++ before) → Begun strange before rest
        go (yes e) = inl e
        go (no g) = inr (λ u v same. other u v same (sync_place u v same))
          where
            other : (u v : List Bool) → strange ++ rest ≡ u ++ (sync ++ v) → (length u + length before ≡ length strange) ⊎ NotEav v → NotEav v
            other u v same (inl long) = absurd (g (missing u v same long))
            other u v same (inr is) = is

-- ---- the row in which the capture starts

module _ (code line : ℕ) (carry : Carry) (k : Content) (ks : List Content) (rows : ℕ) (strange bs before after : List Bool)
    (few : length strange ≤ 10)
    (row : LawfulRow code line carry k)
    (registers : carry_ok carry ≡ true)
    (right : lawful code line (k ∷ ks) ≡ true)
    (same : signal_bits code line carry (k ∷ ks) ≡ before ++ (bs ++ after))
    (long : (rows + 3) * row_length code ≤ length bs)
    (low : length before < row_length code)
  where
    abbrev here : List Bool
    here = row_bits (plan_of code line) carry k

    abbrev later : List Bool
    later = signal_bits code (line_after code line) (carry_from k) ks

    -- what was captured of it, and what follows
    abbrev rest : List Bool
    rest = drop (length before) here

    abbrev onward : List Bool
    onward = drop (length rest) bs

    split : here ≡ before ++ rest
    unfolding signal_bits
    split = front_split before (bs ++ after) here later (sym same) (omega (arith, length_row code line carry k row))

    joined : rest ++ later ≡ bs ++ after
    unfolding signal_bits
    joined = sym (front_rest before (bs ++ after) here later (sym same) (omega (arith, length_row code line carry k row)))

    short : length rest ≤ row_length code
    short = omega (arith, length-drop (length before) here, length_row code line carry k row)

    captured : bs ≡ rest ++ onward
    captured = front_split rest later bs after joined (omega (arith, short))

    follows : later ≡ onward ++ after
    follows = front_rest rest later bs after joined (omega (arith, short))

    long_onward : (rows + 2) * row_length code ≤ length onward
    long_onward = omega (arith, length-drop (length rest) bs, short)

    start_fine : Fine rows (after_bits code (strange ++ bs))
    unfolding signal_bits lawful
    start_fine = go (before_row code line carry k row strange before rest few split)
      where
        go : Begun strange before rest → Fine rows (after_bits code (strange ++ bs))
        go (inl e) =
            let s = take (length strange - length before) strange in
            let all : strange ++ bs ≡ s ++ (here ++ onward) =
            ap₂ (λ (a b : List Bool). a ++ b) e captured
            ∙ append_assoc s before (rest ++ onward)
            ∙ ap (λ (l : List Bool). s ++ l) (sym (append_assoc before rest onward) ∙ ap (λ (l : List Bool). l ++ onward) (sym split)) in
            subst (λ (b : List Bool). Fine rows (after_bits code b)) (sym all)
            (within_fine code line carry s row.ok registers (few_no_eav s (omega (arith, length-take (length strange - length before) strange)))
            (k ∷ ks) rows (here ++ onward) after right (ap (λ (l : List Bool). here ++ l) follows ∙ sym (append_assoc here onward after))
            (omega (arith, length-append here onward, long_onward)))
        go (inr none) =
            subst (λ (b : List Bool). Fine rows (after_bits code b)) (append_assoc strange rest onward ∙ ap (λ (b : List Bool). strange ++ b) (sym captured))
            (within_fine code (line_after code line) (carry_from k) (strange ++ rest) (line_after_ok code line row.ok) (carry_from_ok k) none ks rows
            onward after (and-true (lawful_row (plan_of code line) k) _ right).1 follows long_onward)

window_fine : (ks : List Content) (code line : ℕ) (carry : Carry) (rows : ℕ) (strange bs before after : List Bool) → length strange ≤ 10
    → line_refusal code line ≡ 0 → carry_ok carry ≡ true → lawful code line ks ≡ true → signal_bits code line carry ks ≡ before ++ (bs ++ after)
    → (rows + 3) * row_length code ≤ length bs → Fine rows (after_bits code (strange ++ bs))
unfolding signal_bits lawful
window_fine [] code line carry rows strange bs before after few ok registers right same long =
    absurd (omega (arith, ap length same, length-append before (bs ++ after), length-append bs after, total_low code line ok))
window_fine (k ∷ ks) code line carry rows strange bs before after few ok registers right same long =
    let g = and-true (lawful_row (plan_of code line) k) _ right in
    let row = lawful_row_holds code line carry k ok registers g.0 in
    let here = row_bits (plan_of code line) carry k in
    let l = line_after code line in
    go (dec_le (row_length code) (length before))
    (λ h.
    window_fine ks code l (carry_from k) rows strange bs (drop (length here) before) after few (line_after_ok code line ok) (carry_from_ok k) g.1
    (front_rest here (signal_bits code l (carry_from k) ks) before (bs ++ after) same (omega (arith, length_row code line carry k row))) long)
    (λ low. start_fine code line carry k ks rows strange bs before after few row registers right same long low)
  where
    go : Dec (row_length code ≤ length before) → (row_length code ≤ length before → Fine rows (after_bits code (strange ++ bs)))
        → (length before < row_length code → Fine rows (after_bits code (strange ++ bs))) → Fine rows (after_bits code (strange ++ bs))
    go (yes h) past start = past h
    go (no g) past start = start (omega arith)

-- ---- the bits that were captured

record Among (all bs : List Bool) : Type 0 where
  before : List Bool
  after : List Bool
  split : all ≡ before ++ (bs ++ after)

-- from the eleventh on, they are the signal's
from_eleventh : (signal earlier before after : List Bool) (ws : List ℕ) → scrambled earlier signal ≡ before ++ (word_bits ws ++ after)
    → Among signal (drop 10 (bits_of ws))
from_eleventh signal earlier before after ws cut =
    let w = word_bits ws in
    let p = reverse_aux before earlier in
    let first = unscrambled earlier before in
    let seen = unscrambled p w in
    let later = unscrambled (reverse_aux w p) after in
    let same : drop 10 seen ≡ drop 10 (bits_of ws) =
    unscrambled_from_eleventh p (past start_history) w ∙ ap (drop 10) (sym (unscrambled_words_bits ws start_history)) in
    record {
      before = first ++ take 10 seen;
      after = later;
      split =
          sym (unscrambled_of_scrambled earlier signal)
          ∙ ap (unscrambled earlier) cut
          ∙ unscrambled_of_append before (w ++ after) earlier
          ∙ ap (λ (l : List Bool). first ++ l)
          (unscrambled_of_append w after p
          ∙ ap (λ (l : List Bool). l ++ later) (sym (take-append-drop 10 seen) ∙ ap (λ (l : List Bool). take 10 seen ++ l) same))
          ∙ simp append_assoc;
    }

-- ---- the theorem

module _ (line : ℕ) (carry : Carry) (ks : List Content) (ws : List ℕ) (earlier before after : List Bool) (rows : ℕ) where
  -- with the code that is meant
  code_passes : (code : ℕ) → WindowCapture code line carry ks ws earlier before after rows
      → let answer = answer_in code (after_bits code (bits_of ws)) in
      (answer.verdict ≡ Pass) × (answer.counts.faults ≡ 0) × (min rows ceiling ≤ answer.counts.rows)
  code_passes code capture =
      let bs = bits_of ws in
      let long = length-word_bits (unscramble_words start_history ws) in
      let same = length_unscramble start_history ws in
      let a = from_eleventh (signal_bits code line carry ks) earlier before after ws capture.cut in
      let fine =
      subst (λ (b : List Bool). Fine rows (after_bits code b)) (take-append-drop 10 bs)
      (window_fine ks code line carry rows (take 10 bs) (drop 10 bs) a.before a.after (omega (arith, length-take 10 bs))
      capture.line_ok capture.carry_is_ok capture.right a.split (omega (arith, length-drop 10 bs, capture.long))) in
      let r = looked_up_range code (line_refusal_ok code line capture.line_ok).0 in
      let counted = (after_bits code bs).state.counts.rows in
      let enough : rows_of code ≤ counted = omega (arith, fine.enough, capture.count, r.rows_high) in
      (rw (fine.seen, fine.faults, le-ltb counted (rows_of code) enough), fine.faults, fine.enough)

  capture_zero : WindowCapture 0 line carry ks ws earlier before after rows → WindowCapture 7 line carry ks ws earlier before after rows
  unfolding raster_given entry_of
  capture_zero capture =
      record {
        line_ok = capture.line_ok;
        carry_is_ok = capture.carry_is_ok;
        right = sym (lawful_zero ks line) ∙ capture.right;
        cut = ap (scrambled earlier) (sym (signal_zero ks line carry)) ∙ capture.cut;
        count = capture.count;
        long = capture.long;
      }

pub window_passes : WindowPasses
unfolding WindowPasses module_of
window_passes zero line carry ks ws earlier before after rows capture =
    code_passes line carry ks ws earlier before after rows 7 (capture_zero line carry ks ws earlier before after rows capture)
window_passes (suc n) line carry ks ws earlier before after rows capture = code_passes line carry ks ws earlier before after rows (suc n) capture

-- Pairs of unscrambled words: the last sixty bits after them, and what is left to do.
use mathlib.Core.Path.{◌≡◌, refl, sym, ap, ap₂, ◌∙◌}
use mathlib.Core.Bool.{Bool, true, false}
use mathlib.Core.List.{List, [], ◌∷◌, ◌++◌, append-nil, append_assoc}
use Prim.Native.Nat.{ℕ, zero, suc, ◌+◌, ◌-◌, ◌*◌, ◌/◌, ◌%◌, ◌^◌, ◌≤◌, ◌<◌}
use native.Mathlib.Omega.{arith}
use native.Mathlib.Decide.{dec_le}
use lib.Dec.{ltb}
use lib.ListN.{length, get_or, set, take, drop, length-take, length-drop, length-append}
use lib.Pow.{shr-shr}
use lib.Seq.{take-add, take-suc, drop-cons, get_or-drop}
use borrow.Author.Tests.{ltb-true, ltb-false}
use Rattle.bits.specs.Bits.{bits, number, word_bits}
use Rattle.bits.specs.Words.{words10}
use Rattle.bits.proofs.Bits.{number-bits, number_append, length-bits, length-word_bits, word_bits_append}
use Rattle.bits.proofs.Words.{words10_at}
use Rattle.recogniser.specs.declared.Place.{Place}
use Rattle.recogniser.specs.Event.{nowhere, place}
use Rattle.laying.specs.Laying.{laid_by}
use Rattle.stepper.specs.declared.State.{State}
use Rattle.stepper.specs.Step.{Run, run, steps}
use Rattle.taking.specs.Hurry.{Calm, CalmFor, gone_on, last_after, slides, standing}
use Rattle.stepper.proofs.Stepping.{steps_of_append}
use Rattle.taking.proofs.Sliding.{slides_of_append, slides_low, slides_value}
use Rattle.taking.proofs.Straddling.{next_word, second_word}
use Rattle.taking.proofs.Pairs.{pair_from, slid_twenty, pass_twenty, lay_twenty}

-- a state as it stands
standing_self : (s : State) → s.sight.window.ahead ≡ 0 → standing s s.sight.window.last s.sight.place ≡ s
standing_self s e =
    ap
    (λ (n : ℕ).
    record {
      sight = record {
        window = record { last = s.sight.window.last; ahead = n; seen = s.sight.window.seen };
        place = s.sight.place;
      };
      track = s.track;
      counts = s.counts;
    })
    (sym e)

pub of_standing : (s : State) (code total l : ℕ) (ws y c : List ℕ) {r : Run} → s.sight.window.ahead ≡ 0 → s.sight.window.last ≡ l
    → gone_on code total ws (run (standing s l s.sight.place) y c) ≡ r → gone_on code total ws (run s y c) ≡ r
of_standing s code total l ws y c e f p =
    ap (λ (s : State). gone_on code total ws (run s y c)) (sym (standing_self s e))
    ∙ ap (λ (m : ℕ). gone_on code total ws (run (standing s m s.sight.place) y c)) f
    ∙ p

module _ (ws : List ℕ) (tens : words10 ws ≡ true) where
  -- the pair of words at a place: its bits and their number
  abbrev pub pair_at : ℕ → ℕ
  pair_at i = get_or ws i 0 + get_or ws (i + 1) 0 * 1024

  abbrev pair_bits : ℕ → List Bool
  pair_bits i = bits 10 (get_or ws i 0) ++ bits 10 (get_or ws (i + 1) 0)

  long : (i : ℕ) → length (pair_bits i) ≡ 20
  long i =
      omega (arith, length-append (bits 10 (get_or ws i 0)) (bits 10 (get_or ws (i + 1) 0)), length-bits 10 (get_or ws i 0), length-bits 10 (get_or ws (i + 1) 0))

  number_is : (i : ℕ) → i + 1 < length ws → number (pair_bits i) ≡ pair_at i
  number_is i fits =
      let a = get_or ws i 0 in
      let b = get_or ws (i + 1) 0 in
      let la = words10_at ws i tens (omega arith) in
      let lb = words10_at ws (i + 1) tens fits in
      omega (
        arith,
        number_append (bits 10 a) (bits 10 b),
        length-bits 10 a,
        number-bits 10 a,
        number-bits 10 b,
        ap (λ (n : ℕ). number (bits 10 b) * 2 ^ n) (length-bits 10 a),
        la,
        lb,
      )

  -- what is left to do after the pair
  gone_two : (code total i : ℕ) (x : Run) {j : ℕ} → i + 1 + 1 ≡ j → i + 1 < length ws
      → gone_on code total (drop i ws) x ≡ gone_on code total (drop j ws) (steps laid_by code total (pair_bits i) x)
  unfolding word_bits
  gone_two code total i x two fits =
      let a = get_or ws i 0 in
      let b = get_or ws (i + 1) 0 in
      let f : suc (i + 1) ≡ i + 1 + 1 = omega arith in
      let g : suc i ≡ i + 1 = omega arith in
      let e : drop i ws ≡ a ∷ b ∷ drop (i + 1 + 1) ws = drop-cons ws i 0 (omega arith) ∙ ap (λ (n : ℕ). a ∷ drop n ws) g ∙ ap (λ (v : List ℕ). a ∷ v) (drop-cons ws (i + 1) 0 fits ∙ ap (λ (n : ℕ). b ∷ drop n ws) f) in
      rw (← two, e)
      (steps_of_append laid_by code total (bits 10 a) (bits 10 b ++ word_bits (drop (i + 1 + 1) ws)) x
      ∙ steps_of_append laid_by code total (bits 10 b) (word_bits (drop (i + 1 + 1) ws)) (steps laid_by code total (bits 10 a) x)
      ∙ ap (steps laid_by code total (word_bits (drop (i + 1 + 1) ws))) (sym (steps_of_append laid_by code total (bits 10 a) (bits 10 b) x)))

  -- the last sixty bits after one pair more, of the words from a place on and of all
  pub last_more : (l at k : ℕ) → at + 2 * k + 1 < length ws
      → last_after l (drop at ws) (k + 1) ≡ last_after l (drop at ws) k / 0x100000 + pair_at (at + 2 * k) * 0x10000000000
  unfolding word_bits
  last_more l at k fits =
      ap (λ (v : List ℕ). slides l (word_bits v)) parts
      ∙ ap (slides l) (word_bits_append (take n (drop at ws)) (a ∷ b ∷ []))
      ∙ slides_of_append l (word_bits (take n (drop at ws))) (bits 10 a ++ (bits 10 b ++ []))
      ∙ ap (slides (last_after l (drop at ws) k)) (ap (λ (v : List Bool). bits 10 a ++ v) (append-nil (bits 10 b)))
      ∙ slid_twenty (pair_bits (at + n)) (last_after l (drop at ws) k) (long (at + n))
      ∙ ap (λ (m : ℕ). last_after l (drop at ws) k / 0x100000 + m * 0x10000000000) (number_is (at + n) fits)
    where
      n : ℕ
      n = 2 * k

      a : ℕ
      a = get_or ws (at + n) 0

      b : ℕ
      b = get_or ws (at + n + 1) 0

      room : length (drop at ws) ≡ length ws - at
      room = length-drop at ws

      a_is : get_or (drop at ws) n 0 ≡ a
      a_is = get_or-drop at ws n 0

      b_is : get_or (drop at ws) (suc n) 0 ≡ b
      b_is = get_or-drop at ws (suc n) 0 ∙ ap (λ (i : ℕ). get_or ws i 0) (let e : at + suc n ≡ at + n + 1 = omega arith in e)

      parts : take (2 * (k + 1)) (drop at ws) ≡ take n (drop at ws) ++ (a ∷ b ∷ [])
      parts =
          ap (λ (i : ℕ). take i (drop at ws)) (let e : 2 * (k + 1) ≡ suc (suc n) = omega arith in e)
          ∙ take-suc (drop at ws) (suc n) 0 (omega (arith, room))
          ∙ ap₂ (λ (v : List ℕ) (w : ℕ). v ++ (w ∷ [])) (take-suc (drop at ws) n 0 (omega (arith, room)) ∙ ap (λ (w : ℕ). take n (drop at ws) ++ (w ∷ [])) a_is) b_is
          ∙ append_assoc (take n (drop at ws)) (a ∷ []) (b ∷ [])

  pub last_next : (l k : ℕ) → 2 * k + 1 < length ws → last_after l ws (k + 1) ≡ last_after l ws k / 0x100000 + pair_at (2 * k) * 0x10000000000
  last_next l k fits =
      let e : 0 + 2 * k ≡ 2 * k = omega arith in
      last_more l 0 k (omega arith) ∙ ap (λ (i : ℕ). last_after l ws k / 0x100000 + pair_at i * 0x10000000000) e

  pub last_none : (l : ℕ) → last_after l ws 0 ≡ l
  unfolding word_bits
  last_none l = refl

  -- after three pairs it does not count what was before
  pub last_three : (l k : ℕ) → l < 0x1000000000000000 → 2 * (k + 3) ≤ length ws → last_after l (drop (2 * k) ws) 3 ≡ last_after l ws (k + 3)
  last_three l k low fits =
      sixty l low
      ∙ sym
      (ap (λ v. slides l (word_bits v)) parts
      ∙ ap (slides l) (word_bits_append (take (2 * k) ws) six)
      ∙ slides_of_append l before (word_bits six)
      ∙ sixty (slides l before) (slides_low before l low))
    where
      six : List ℕ
      six = take 6 (drop (2 * k) ws)

      before : List Bool
      before = word_bits (take (2 * k) ws)

      parts : take (2 * (k + 3)) ws ≡ take (2 * k) ws ++ six
      parts = let e : 2 * (k + 3) ≡ 2 * k + 6 = omega arith in ap (λ n. take n ws) e ∙ take-add (2 * k) 6 ws

      sixty : (m : ℕ) → m < 0x1000000000000000 → slides m (word_bits six) ≡ number (word_bits six)
      sixty m h =
          let all : length (word_bits six) ≡ 60 = omega (arith, length-word_bits six, length-take 6 (drop (2 * k) ws), length-drop (2 * k) ws) in
          let e : 60 + 0 ≡ 60 = refl in
          slides_value (word_bits six) m 0 (omega arith) ∙ rw all (omega arith)

  -- a turn of the loop that starts with the last three, and its end
  pub last_turn : (l k₀ k : ℕ) {m r : ℕ} → k₀ ≤ k → 2 * k + 1 < length ws → m ≡ last_after l (drop (2 * k₀) ws) (k - k₀)
      → r ≡ m / 0x100000 + pair_at (2 * k) * 0x10000000000 → r ≡ last_after l (drop (2 * k₀) ws) (k + 1 - k₀)
  last_turn l k₀ k from fits e f =
      let i : 2 * k ≡ 2 * k₀ + 2 * (k - k₀) = omega arith in
      let n : k - k₀ + 1 ≡ k + 1 - k₀ = omega arith in
      f
      ∙ ap₂ (λ (m j : ℕ). m / 0x100000 + pair_at j * 0x10000000000) e i
      ∙ sym (last_more l (2 * k₀) (k - k₀) (omega arith))
      ∙ ap (last_after l (drop (2 * k₀) ws)) n

  pub last_ended : (l pairs : ℕ) → 2 * pairs ≤ length ws → l < 0x1000000000000000
      → last_after l (drop (2 * (pairs - 3)) ws) (pairs - (pairs - 3)) ≡ last_after l ws pairs
  last_ended l pairs fits low = go (dec_le 3 pairs)
    where
      go : Dec (3 ≤ pairs) → last_after l (drop (2 * (pairs - 3)) ws) (pairs - (pairs - 3)) ≡ last_after l ws pairs
      go (yes h) =
          let a : pairs - (pairs - 3) ≡ 3 = omega arith in
          let b : pairs - 3 + 3 ≡ pairs = omega arith in
          ap (last_after l (drop (2 * (pairs - 3)) ws)) a ∙ last_three l (pairs - 3) low (omega arith) ∙ ap (last_after l ws) b
      go (no h) =
          let a : pairs - 3 ≡ 0 = omega arith in
          let b : pairs - 0 ≡ pairs = omega arith in
          rw (a, b)

  -- ---- a turn: one pair more is passed, or laid

  pass_turn : (code total : ℕ) (s : State) (l k : ℕ) (y c : List ℕ) → 2 * k + 1 < length ws → Calm (last_after l ws k)
      → gone_on code total (drop (2 * k) ws) (run (standing s (last_after l ws k) nowhere) y c)
      ≡ gone_on code total (drop (2 * (k + 1)) ws) (run (standing s (last_after l ws (k + 1)) nowhere) y c)
  pass_turn code total s l k y c fits calm =
      gone_two code total (2 * k) (run (standing s (last_after l ws k) nowhere) y c) {j = 2 * (k + 1)} (omega arith) fits
      ∙ ap (gone_on code total (drop (2 * (k + 1)) ws))
      (pass_twenty code total s (pair_bits (2 * k)) (last_after l ws k) y c (long (2 * k)) calm
      ∙ ap (λ (m : ℕ). run (standing s m nowhere) y c) (ap (λ (n : ℕ). last_after l ws k / 0x100000 + n * 0x10000000000) (number_is (2 * k) fits) ∙ sym (last_next l k fits)))

  passed_all : (code total : ℕ) (s : State) (l n : ℕ) (y c : List ℕ) → 2 * n ≤ length ws → CalmFor l ws n
      → gone_on code total ws (run (standing s l nowhere) y c) ≡ gone_on code total (drop (2 * n) ws) (run (standing s (last_after l ws n) nowhere) y c)
  passed_all code total s l zero y c fits calm = ap (λ (m : ℕ). gone_on code total ws (run (standing s m nowhere) y c)) (sym (last_none l))
  passed_all code total s l (suc n) y c fits calm =
      passed_all code total s l n y c (omega arith) (λ k h. calm k (omega arith))
      ∙ pass_turn code total s l n y c (omega arith) (calm n (omega arith))
      ∙ ap (λ (m : ℕ). gone_on code total (drop (2 * m) ws) (run (standing s (last_after l ws m) nowhere) y c)) (let e : n + 1 ≡ suc n = omega arith in e)

  pub passed_at : (code total : ℕ) (s : State) (l n : ℕ) (p : Place) (y c : List ℕ) → p ≡ nowhere → 2 * n ≤ length ws → CalmFor l ws n
      → gone_on code total ws (run (standing s l p) y c) ≡ gone_on code total (drop (2 * n) ws) (run (standing s (last_after l ws n) p) y c)
  passed_at code total s l n p y c e fits calm = rw e (passed_all code total s l n y c fits calm)

  pub lay_turn : (code total : ℕ) (s : State) (l k from bit : ℕ) (y c : List ℕ) {yw cw : ℕ} → 2 * k + 1 < length ws → Calm (last_after l ws k)
      → bit ≤ 19 → 1 ≤ from → from + k < total
      → yw ≡ pair_from (last_after l ws k) (pair_at (2 * k)) (20 - bit) / 1024 % 1024
      → cw ≡ pair_from (last_after l ws k) (pair_at (2 * k)) (20 - bit) % 1024
      → gone_on code total (drop (2 * k) ws) (run (standing s (last_after l ws k) (place (from + k) bit)) y c)
      ≡ gone_on code total (drop (2 * (k + 1)) ws) (run (standing s (last_after l ws (k + 1)) (place (from + (k + 1)) bit)) (set y (from + k) yw) (set c (from + k) cw))
  lay_turn code total s l k from bit y c fits calm low some room ey ec =
      let d = number_is (2 * k) fits in
      let m = last_after l ws k in
      let f : from + k + 1 ≡ from + (k + 1) = omega arith in
      gone_two code total (2 * k) (run (standing s m (place (from + k) bit)) y c) {j = 2 * (k + 1)} (omega arith) fits
      ∙ ap (gone_on code total (drop (2 * (k + 1)) ws))
      (lay_twenty code total s (pair_bits (2 * k)) m (from + k) bit y c (long (2 * k)) calm low (omega arith) room
      ∙ rw (d, ← ey, ← ec, f, last_next l k fits))

  -- no pair
  pub laid_none : (code total : ℕ) (s : State) (l n from bit : ℕ) (y c : List ℕ) → n ≡ 0
      → gone_on code total ws (run (standing s l (place from bit)) y c)
      ≡ gone_on code total (drop (2 * n) ws) (run (standing s (last_after l ws n) (place (from + n) bit)) y c)
  laid_none code total s l n from bit y c e =
      let g : from ≡ from + 0 = omega arith in
      rw e (ap₂ (λ (m p : ℕ). gone_on code total ws (run (standing s m (place p bit)) y c)) (sym (last_none l)) g)

  -- the words of the first pair
  first_pair : (l n : ℕ) {r : ℕ} → r ≡ l / 0x100000 + pair_at 0 * 0x10000000000
      → r / 0x100000 / 2 ^ n ≡ pair_from (last_after l ws 0) (pair_at 0) n
  first_pair l n {r} e =
      let f : r / 0x100000 ≡ l / 0x10000000000 + pair_at 0 * 0x100000 = omega arith in
      ap (λ (m : ℕ). m / 2 ^ n) f ∙ ap (λ (m : ℕ). pair_from m (pair_at 0) n) (sym (last_none l))

  pub lay_first : (code total : ℕ) (s : State) (l from bit : ℕ) (y c : List ℕ) {r yw cw : ℕ} → 1 < length ws → Calm (last_after l ws 0)
      → bit ≤ 19 → 1 ≤ from → from < total → r ≡ l / 0x100000 + pair_at 0 * 0x10000000000
      → yw ≡ r / 0x100000 / 2 ^ (20 - bit) / 1024 % 1024 → cw ≡ r / 0x100000 / 2 ^ (20 - bit) % 1024
      → gone_on code total ws (run (standing s l (place from bit)) y c)
      ≡ gone_on code total (drop (2 * (0 + 1)) ws) (run (standing s (last_after l ws (0 + 1)) (place (from + (0 + 1)) bit)) (set y from yw) (set c from cw))
  lay_first code total s l from bit y c {r} {yw} {cw} fits calm low some room e ey ec =
      let pair = first_pair l (20 - bit) e in
      let f : from + 0 ≡ from = omega arith in
      laid_none code total s l 0 from bit y c refl
      ∙ lay_turn code total s l 0 from bit y c {yw = yw} {cw = cw} (omega arith) calm low some (omega arith) (ey ∙ ap (λ (n : ℕ). n / 1024 % 1024) pair) (ec ∙ ap (λ (n : ℕ). n % 1024) pair)
      ∙ ap (λ (i : ℕ). gone_on code total (drop (2 * (0 + 1)) ws) (run (standing s (last_after l ws (0 + 1)) (place (from + (0 + 1)) bit)) (set y i yw) (set c i cw))) f

  -- ---- the words of a pair that has begun in the pair of words before

  module _ (l k bit j : ℕ) (some : 1 ≤ k) (fits : 2 * k + 1 < length ws) (sixty : l < 0x1000000000000000) (low : bit ≤ 19)
      (here : j + 1 + bit / 10 ≡ 2 * k) where
    abbrev up : ℕ
    up = bit % 10

    abbrev down : ℕ
    down = 10 - up

    abbrev before : ℕ
    before = 2 * (k - 1)

    abbrev p : ℕ
    p = get_or ws before 0

    abbrev q : ℕ
    q = get_or ws (before + 1) 0

    abbrev r : ℕ
    r = get_or ws (2 * k) 0

    abbrev s : ℕ
    s = get_or ws (2 * k + 1) 0

    -- the last twenty bits are the pair of words before
    is_last : last_after l ws k / 0x10000000000 ≡ p + q * 1024
    is_last =
        let e : k - 1 + 1 ≡ k = omega arith in
        let f : last_after l ws k ≡ last_after l ws (k - 1) / 0x100000 + (p + q * 1024) * 0x10000000000 =
        ap (last_after l ws) (sym e) ∙ last_next l (k - 1) (omega arith) in
        omega (arith, f, slides_low (word_bits (take (2 * (k - 1)) ws)) l sixty)

    abbrev four : ℕ
    four = p + (q + (r + s * 1024) * 1024) * 1024

    is_four : (n : ℕ) → pair_from (last_after l ws k) (pair_at (2 * k)) n ≡ four / 2 ^ n
    is_four n =
        let e : p + q * 1024 + (r + s * 1024) * 0x100000 ≡ four = omega arith in
        ap (λ (m : ℕ). (m + (r + s * 1024) * 0x100000) / 2 ^ n) is_last ∙ ap (λ (m : ℕ). m / 2 ^ n) e

    abbrev Laid : ℕ → ℕ → ℕ → Type 0
    Laid a b e =
        ((a + b * 1024) / 2 ^ down % 1024 ≡ pair_from (last_after l ws k) (pair_at (2 * k)) (20 - bit) % 1024)
        × ((b + e * 1024) / 2 ^ down % 1024 ≡ pair_from (last_after l ws k) (pair_at (2 * k)) (20 - bit) / 1024 % 1024)

    -- it begins in the second word, or in the first
    in_second : bit < 10 → Laid q r s
    in_second h =
        let ten : down + up ≡ 10 = omega arith in
        let n : 20 - bit ≡ 10 + down = omega arith in
        let a : q ≤ 0x3ff = words10_at ws (before + 1) tens (omega arith) in
        let z : p ≤ 0x3ff = words10_at ws before tens (omega arith) in
        let v : four / 2 ^ 10 ≡ q + (r + (s + 0 * 1024) * 1024) * 1024 = omega (arith, z) in
        let e : pair_from (last_after l ws k) (pair_at (2 * k)) (20 - bit) ≡ (q + (r + (s + 0 * 1024) * 1024) * 1024) / 2 ^ down =
        is_four (20 - bit) ∙ ap (λ (m : ℕ). four / 2 ^ m) n ∙ sym (shr-shr four 10 down) ∙ ap (λ (m : ℕ). m / 2 ^ down) v in
        (sym (ap (λ (m : ℕ). m % 1024) e ∙ next_word up down ten q r s 0), sym (ap (λ (m : ℕ). m / 1024 % 1024) e ∙ second_word up down ten q r s 0 a))

    in_first : 10 ≤ bit → Laid p q r
    in_first h =
        let ten : down + up ≡ 10 = omega arith in
        let n : 20 - bit ≡ down = omega arith in
        let a : p ≤ 0x3ff = words10_at ws before tens (omega arith) in
        let e : pair_from (last_after l ws k) (pair_at (2 * k)) (20 - bit) ≡ four / 2 ^ down = is_four (20 - bit) ∙ ap (λ (m : ℕ). four / 2 ^ m) n in
        (sym (ap (λ (m : ℕ). m % 1024) e ∙ next_word up down ten p q r s), sym (ap (λ (m : ℕ). m / 1024 % 1024) e ∙ second_word up down ten p q r s a))

    pub straddled : Laid (get_or ws j 0) (get_or ws (j + 1) 0) (get_or ws (j + 1 + 1) 0)
    straddled = go (ltb bit 10) refl
      where
        go : (t : Bool) → ltb bit 10 ≡ t → Laid (get_or ws j 0) (get_or ws (j + 1) 0) (get_or ws (j + 1 + 1) 0)
        go true h =
            let b = ltb-true bit 10 h in
            let e : j ≡ before + 1 = omega (arith, b) in
            let f : j + 1 ≡ 2 * k = omega (arith, b) in
            let g : j + 1 + 1 ≡ 2 * k + 1 = omega (arith, b) in
            rw (g, f, e) (in_second b)
        go false h =
            let b = ltb-false bit 10 h in
            let e : j ≡ before = omega (arith, b) in
            let f : j + 1 ≡ before + 1 = omega (arith, b) in
            let g : j + 1 + 1 ≡ 2 * k = omega (arith, b) in
            rw (g, f, e) (in_first b)

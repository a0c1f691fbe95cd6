-- What scrambling and unscrambling share: the words of coded bits, the next history, and the steps of a loop.
use mathlib.Core.Path.{◌≡◌, refl, sym, ap, ap₂, subst, ◌∙◌}
use mathlib.Core.Bool.{Bool, true}
use mathlib.Core.List.{List, [], ◌∷◌, ◌++◌, reverse, reverse_aux, append-nil}
use Prim.Native.Nat.{ℕ, zero, suc, ◌+◌, ◌-◌, ◌%◌, ◌^◌, ◌≤◌, ◌<◌}
use native.Mathlib.Omega.{arith}
use native.Mathlib.Numerals.{add-one}
use native.Mathlib.Nat.{mod-eq_of_lt, le_of_lt}
use lib.ListN.{length, get_or, take, drop, set, length-append}
use lib.Seq.{take_at, drop_at, drop-cons, drop-append-add, take-suc, take-length, set_at, append_snoc, length-take-le}
use Rattle.bits.specs.Bits.{bits, number, word_bits}
use Rattle.bits.specs.Words.{words10}
use Rattle.bits.proofs.Bits.{bits-number, length-bits, number-bits, number_lt}
use Rattle.bits.proofs.Lists.{cons_equal}
use Rattle.bits.proofs.Words.{words10_nil, words10_cons, words10_head, words10_tail}
use Rattle.cable.specs.Bits.{past}
use Rattle.cable.specs.Words.{grouped, last_ten, filled}
use Rattle.cable.specs.Stepwise.{Stepwise, none, more}
use Rattle.cable.proofs.Bits.{Code, BitCode, Bitwise, length_code, code_of_append, code_of_agree, agree_last}

-- ---- ten bits

ten_number : (bs : List Bool) → length bs ≡ 10 → bits 10 (number bs) ≡ bs
ten_number bs e = ap (λ (k : ℕ). bits k (number bs)) (sym e) ∙ bits-number bs

ten_lt : (bs : List Bool) → length bs ≡ 10 → number bs ≤ 0x3ff
ten_lt bs e = let l : number bs < 2 ^ 10 = subst (λ (k : ℕ). number bs < 2 ^ k) e (number_lt bs) in omega arith

-- a history counts by its ten low bits
bits_of_mod : (h : ℕ) → bits 10 (h % 1024) ≡ bits 10 h
bits_of_mod h = ap (bits 10) (sym (number-bits 10 h)) ∙ ten_number (bits 10 h) (length-bits 10 h)

past_of_mod : (h : ℕ) → past (h % 1024) ≡ past h
unfolding past
past_of_mod h = ap reverse (bits_of_mod h)

grouped_step : (k : ℕ) (xs ys : List Bool) → length xs ≡ 10 → grouped (suc k) (xs ++ ys) ≡ number xs ∷ grouped k ys
unfolding grouped
grouped_step k xs ys e = cons_equal (ap number (take_at xs ys 10 e)) (ap (grouped k) (drop_at xs ys 10 e))

pub length-grouped : (k : ℕ) (bs : List Bool) → length (grouped k bs) ≡ k
unfolding grouped
length-grouped zero bs = refl
length-grouped (suc k) bs = ap suc (length-grouped k (drop 10 bs))

last_ten_of_append : (xs ys : List Bool) → 10 ≤ length ys → last_ten (xs ++ ys) ≡ last_ten ys
unfolding last_ten
last_ten_of_append xs ys h =
    let e : length (xs ++ ys) - 10 ≡ length xs + (length ys - 10) = simp length-append (omega arith) in
    ap (λ (k : ℕ). number (drop k (xs ++ ys))) e ∙ ap number (drop-append-add xs ys (length ys - 10))

-- ten bits stand before: those before these count no more
last_ten_step : (h w : ℕ) (bs : List Bool) → last_ten (bits 10 h ++ (bits 10 w ++ bs)) ≡ last_ten (bits 10 w ++ bs)
last_ten_step h w bs = last_ten_of_append (bits 10 h) (bits 10 w ++ bs) (simp (length-append, length-bits) (omega arith))

last_ten_word : (h : ℕ) → last_ten (bits 10 h ++ []) ≡ h % 1024
unfolding last_ten
last_ten_word h = rw (append-nil (bits 10 h), length-bits 10 h) (number-bits 10 h)

-- ---- a code's words

abbrev pub word_of : Code → ℕ → ℕ → ℕ
word_of code h w = number (code (past h) (bits 10 w))

abbrev pub words_of : Code → ℕ → List ℕ → List ℕ
words_of code h ws = grouped (length ws) (code (past h) (word_bits ws))

abbrev pub next_of : Code → ℕ → List ℕ → ℕ
next_of cable h ws = last_ten (bits 10 h ++ cable (past h) (word_bits ws))

module _ {code : Code} {bit joins : BitCode} (c : Bitwise code bit joins) where
  length_ten : (h w : ℕ) → length (code (past h) (bits 10 w)) ≡ 10
  length_ten h w = length_code c (bits 10 w) (past h) ∙ length-bits 10 w

  pub word_bits_are : (h w : ℕ) → bits 10 (word_of code h w) ≡ code (past h) (bits 10 w)
  word_bits_are h w = ten_number (code (past h) (bits 10 w)) (length_ten h w)

  pub word_range : (h w : ℕ) → word_of code h w ≤ 0x3ff
  word_range h w = ten_lt (code (past h) (bits 10 w)) (length_ten h w)

-- a coding: the code, the cable bits that it makes or takes, and the history after a word, which is a word of these
pub record Coding (code cable : Code) (bit joins : BitCode) (on : ℕ → ℕ → ℕ) : Type 0 where
  pub made : Bitwise code bit joins
  pub sent : Bitwise cable joins joins
  pub on_bits : (h w : ℕ) → bits 10 (on h w) ≡ cable (past h) (bits 10 w)
  pub on_range : (h w : ℕ) → w ≤ 0x3ff → on h w ≤ 0x3ff

module _ {code cable : Code} {bit joins : BitCode} {on : ℕ → ℕ → ℕ} (c : Coding code cable bit joins on) where
  -- ---- words: ten cable bits are all that those after a word look back on

  after_word : {some : Code} {its : BitCode} → Bitwise some its joins → (h w : ℕ) (bs : List Bool) → some (past h) (bits 10 w ++ bs) ≡ some (past h) (bits 10 w) ++ some (past (on h w)) bs
  unfolding past
  after_word {some} s h w bs =
      let new = bits 10 (on h w) in
      rw (code_of_append s c.sent (bits 10 w) bs (past h), ← c.on_bits h w, code_of_agree s bs (reverse_aux new (past h)) (reverse_aux new []) (agree_last new (past h) [] (length-bits 10 (on h w))))

  pub words_nil : (h : ℕ) → words_of code h [] ≡ []
  unfolding grouped
  words_nil h = refl

  pub words_step : (h w : ℕ) (ws : List ℕ) → words_of code h (w ∷ ws) ≡ word_of code h w ∷ words_of code (on h w) ws
  unfolding word_bits
  words_step h w ws =
      ap (grouped (suc (length ws))) (after_word c.made h w (word_bits ws))
      ∙ grouped_step (length ws) (code (past h) (bits 10 w)) (code (past (on h w)) (word_bits ws)) (length_ten c.made h w)

  pub length_words : (h : ℕ) (ws : List ℕ) → length (words_of code h ws) ≡ length ws
  length_words h ws = length-grouped (length ws) (code (past h) (word_bits ws))

  pub words_range : (ws : List ℕ) (h : ℕ) → words10 (words_of code h ws) ≡ true
  words_range [] h = words10_nil (words_of code h []) (words_nil h)
  words_range (w ∷ ws) h = rw (words_step h w ws) (words10_cons (word_of code h w) (words_of code (on h w) ws) (word_range c.made h w) (words_range ws (on h w)))

  pub words_bits : (ws : List ℕ) (h : ℕ) → word_bits (words_of code h ws) ≡ code (past h) (word_bits ws)
  unfolding word_bits
  words_bits [] h = ap word_bits (words_nil h) ∙ sym (c.made.nil (past h))
  words_bits (w ∷ ws) h =
      ap word_bits (words_step h w ws)
      ∙ ap₂ (λ (xs ys : List Bool). xs ++ ys) (word_bits_are c.made h w) (words_bits ws (on h w))
      ∙ sym (after_word c.made h w (word_bits ws))

  -- ---- the next history

  pub next_nil : (h : ℕ) → next_of cable h [] ≡ h % 1024
  unfolding word_bits
  next_nil h = ap (λ (bs : List Bool). last_ten (bits 10 h ++ bs)) (c.sent.nil (past h)) ∙ last_ten_word h

  pub next_step : (h w : ℕ) (ws : List ℕ) → next_of cable h (w ∷ ws) ≡ next_of cable (on h w) ws
  unfolding word_bits
  next_step h w ws = rw (after_word c.sent h w (word_bits ws), ← c.on_bits h w) (last_ten_step h (on h w) (cable (past (on h w)) (word_bits ws)))

  pub next_none : (h : ℕ) → h ≤ 0x3ff → next_of cable h [] ≡ h
  next_none h r = next_nil h ∙ mod-eq_of_lt (omega arith)

  pub next_range : (ws : List ℕ) (h : ℕ) → next_of cable h ws ≤ 0x3ff
  next_range [] h = rw next_nil (omega arith)
  next_range (w ∷ ws) h = rw next_step (next_range ws (on h w))

  -- ---- words after words

  pub words_of_append : (ws vs : List ℕ) (h : ℕ) → words_of code h (ws ++ vs) ≡ words_of code h ws ++ words_of code (next_of cable h ws) vs
  words_of_append [] vs h = rw (words_nil h, next_nil h, past_of_mod h)
  words_of_append (w ∷ ws) vs h = rw (words_step h w (ws ++ vs), words_step h w ws, next_step h w ws, words_of_append ws vs (on h w))

  pub next_of_append : (ws vs : List ℕ) (h : ℕ) → next_of cable h (ws ++ vs) ≡ next_of cable (next_of cable h ws) vs
  next_of_append [] vs h = rw (next_nil h, past_of_mod h, bits_of_mod h)
  next_of_append (w ∷ ws) vs h = rw (next_step h w (ws ++ vs), next_step h w ws) (next_of_append ws vs (on h w))

  -- ---- step by step

  pub stepwise_is : {step : ℕ → ℕ → ℕ × ℕ → Type 0} {h last : ℕ} {ws vs : List ℕ} → Stepwise step h ws vs last
      → ((h w : ℕ) (r : ℕ × ℕ) → step h w r → r ≡ (word_of code h w, on h w)) → h ≤ 0x3ff → words10 ws ≡ true
      → (last ≡ next_of cable h ws) × (vs ≡ words_of code h ws)
  stepwise_is {h = h} none is low tens = (sym (next_none h low), sym (words_nil h))
  stepwise_is (more {h} {w} {v} {next} {last} {ws} {vs} s rest) is low tens =
      let e = is h w (v, next) s in
      let here : next ≡ on h w = ap (λ (r : ℕ × ℕ). r.1) e in
      let ih = stepwise_is rest is (rw here (c.on_range h w (words10_head w ws tens))) (words10_tail w ws tens) in
      (ih.0 ∙ rw here (sym (next_step h w ws)), cons_equal (ap (λ (r : ℕ × ℕ). r.0) e) (ih.1 ∙ rw here) ∙ sym (words_step h w ws))

  -- the output of a loop of such steps
  pub filled_stepwise : {step : ℕ → ℕ → ℕ × ℕ → Type 0} {h last : ℕ} {ws out₀ out : List ℕ}
      → (made : List ℕ) × Stepwise step h ws made last × (out ≡ filled 0 made out₀)
      → ((h w : ℕ) (r : ℕ × ℕ) → step h w r → r ≡ (word_of code h w, on h w)) → h ≤ 0x3ff → words10 ws ≡ true
      → (last ≡ next_of cable h ws) × (out ≡ filled 0 (words_of code h ws) out₀)
  filled_stepwise {out₀ = out₀} (made, s, e) is low tens =
      let r = stepwise_is s is low tens in
      (r.0, e ∙ ap (λ (l : List ℕ). filled 0 l out₀) r.1)

-- ---- a loop of steps: a turn, and its end

module _ {step : ℕ → ℕ → ℕ × ℕ → Type 0} where
  length_stepwise : {h last : ℕ} {ws vs : List ℕ} → Stepwise step h ws vs last → length vs ≡ length ws
  length_stepwise none = refl
  length_stepwise (more s rest) = ap suc (length_stepwise rest)

  stepwise_snoc : {h mid : ℕ} {ws vs : List ℕ} {w v last : ℕ} → Stepwise step h ws vs mid → step mid w (v, last) → Stepwise step h (ws ++ w ∷ []) (vs ++ v ∷ []) last
  stepwise_snoc none s = more s none
  stepwise_snoc (more t rest) s = more t (stepwise_snoc rest s)

  pub stepwise_turn : {h mid : ℕ} (ws out₀ : List ℕ) {out : List ℕ} (i : ℕ) {v next : ℕ}
      → (made : List ℕ) × Stepwise step h (take i ws) made mid × (out ≡ made ++ drop i out₀) → i < length ws → i < length out₀ → step mid (get_or ws i 0) (v, next)
      → (made : List ℕ) × Stepwise step h (take (i + 1) ws) made next × (set out i v ≡ made ++ drop (i + 1) out₀)
  stepwise_turn ws out₀ i {v} (made, s, e) l room t =
      let n : length made ≡ i = length_stepwise s ∙ length-take-le i ws (le_of_lt l) in
      let written = set_at made (get_or out₀ i 0) (drop (suc i) out₀) v i n ∙ sym (append_snoc made v (drop (suc i) out₀)) in
      (made ++ v ∷ [], rw (add-one i, take-suc ws i 0 l) (stepwise_snoc s t), rw (e, add-one i, drop-cons out₀ i 0 room) written)

  pub stepwise_end : {h last : ℕ} (ws out₀ : List ℕ) {out : List ℕ} (i : ℕ)
      → (made : List ℕ) × Stepwise step h (take i ws) made last × (out ≡ made ++ drop i out₀) → i ≡ length ws
      → (made : List ℕ) × Stepwise step h ws made last × (out ≡ filled 0 made out₀)
  stepwise_end ws out₀ i (made, s, e) f =
      let all = rw (f, take-length ws) at s in
      (made, all, e ∙ rw (f, length_stepwise all))

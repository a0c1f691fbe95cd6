-- Laws of words that are taken at once: their bytes, taken one after the other, leave what one feed of the words leaves.
use mathlib.Core.Path.{◌≡◌, refl, sym, ap, ◌∙◌}
use mathlib.Core.Bool.{true}
use mathlib.Core.List.{List, [], ◌∷◌, ◌++◌, map, flat_map}
use Prim.Native.Nat.{ℕ, zero, suc, ◌+◌, ◌-◌, ◌*◌, ◌≤◌, ◌<◌}
use native.Mathlib.Omega.{arith}
use lib.ListN.{length, take, drop, take-append-drop, length-take}
use lib.Seq.{drop-append-le, drop-drop}
use Rattle.std.specs.Prelude.{Result, Ok, Err}
use Rattle.bits.specs.Words.{words10}
use Rattle.bits.proofs.Words.{words10_head, words10_tail}
use Rattle.refusal.specs.declared.Refusal.{Refusal}
use Rattle.refusal.proofs.Answers.{result_of_ok, result_of_err}
use Rattle.parts.specs.Parts.{end_to_end}
use Rattle.parts.proofs.Laid.{unless_refused-refused}
use Rattle.session.specs.declared.Session.{Session}
use Rattle.session.specs.Session.{feed_refusal, fed_run, fed_session, fed, fed_y, fed_c, session_or}
use Rattle.session.proofs.Refusing.{feed_taken}
use Rattle.reader.specs.declared.Read.{Read}
use Rattle.reader.specs.declared.Reader.{Reader}
use Rattle.section.specs.declared.Run.{Run}
use Rattle.reader.specs.Reader.{word_of, read_of}
use Rattle.section.specs.Section.{words_in, words_ahead, after_words, run_size, run_of, run_words}
use Rattle.section.proofs.Words.{first_over}
use Rattle.section.proofs.Runs.{half_read, low_read, high_read, after_step, ahead_step}
use Rattle.law_module.specs.Runs.{Bench, bench, fed_once, fed_all}
use Rattle.law_module.proofs.Cuts.{fed_all_of_pieces}
use Rattle.desk.specs.declared.Desk.{Desk}
use Rattle.desk.specs.Desk.{desk, nothing, standing, Standing, walk, walked, Ahead}
use Rattle.desk.proofs.Walking.{walk_by, by_read}
use Rattle.desk.proofs.Skimming.{ahead_none}

-- ---- word by word

-- a desk with this reader, and the buffers
abbrev desk_at : Reader → Bench → Standing
desk_at r x = standing (desk r x.session) x.y x.c

one_byte : (r : Reader) (x : Bench) (b k : ℕ) (rest : List ℕ) {read : Result Read Refusal} → read_of r b ≡ read
    → walked (b ∷ rest) (walk (desk_at r x) k nothing) ≡ walked rest (walk_by r read x.session x.y x.c (k + 1))
unfolding walked
one_byte r x b k rest e = ap (walked rest) (by_read r x.session b x.y x.c k (sym e))

one_word : (r : Reader) (x : Bench) (a b k : ℕ) (bs rest : List ℕ) → 0 < words_ahead r → word_of a b ≤ 0x3ff
    → walked (a ∷ b ∷ rest) (walk (desk_at r x) k nothing)
    ≡ walked rest (walk (desk_at (after_words 1 r (a ∷ b ∷ bs)) (fed_once (word_of a b ∷ []) x)) (k + 1 + 1) nothing)
one_word r x a b k bs rest some ten =
    one_byte r x a k (b ∷ rest) (low_read r a some)
    ∙ one_byte (half_read r a) x b (k + 1) rest (high_read r a some b bs ten)

-- each word in a feed of its own
abbrev singly : List ℕ → List (List ℕ)
singly ws = map (λ w. w ∷ []) ws

many_words : (n : ℕ) (r : Reader) (x : Bench) (bs rest : List ℕ) (k : ℕ) → 2 * n ≤ length bs → n ≤ words_ahead r → words10 (take n (words_in bs)) ≡ true
    → walked (bs ++ rest) (walk (desk_at r x) k nothing)
    ≡ walked (drop (2 * n) bs ++ rest) (walk (desk_at (after_words n r bs) (fed_all (singly (take n (words_in bs))) x)) (k + 2 * n) nothing)
unfolding words_in fed_all after_words
many_words zero r x bs rest k long ahead tens = let e : k ≡ k + 2 * 0 = omega arith in ap (λ (i : ℕ). walked (bs ++ rest) (walk (desk_at r x) i nothing)) e
many_words (suc n) r x [] rest k long ahead tens = absurd (omega arith)
many_words (suc n) r x (a ∷ []) rest k long ahead tens = absurd (omega arith)
many_words (suc n) r x (a ∷ b ∷ bs) rest k long ahead tens =
    let w = word_of a b in
    let places : k + 1 + 1 + 2 * n ≡ k + 2 * suc n = omega arith in
    let bytes : suc (suc (2 * n)) ≡ 2 * suc n = omega arith in
    one_word r x a b k bs (bs ++ rest) (omega arith) (words10_head w (take n (words_in bs)) tens)
    ∙ many_words n (after_words 1 r (a ∷ b ∷ bs)) (fed_once (w ∷ []) x) bs rest (k + 1 + 1) (omega arith) (ahead_step n r (a ∷ b ∷ bs) ahead)
    (words10_tail w (take n (words_in bs)) tens)
    ∙ rw (places, after_step n r a b bs, ← bytes)

-- ---- at once

end_singly : (ws : List ℕ) → end_to_end (singly ws) ≡ ws
unfolding flat_map
end_singly [] = refl
end_singly (w ∷ ws) = ap (λ (l : List ℕ). w ∷ l) (end_singly ws)

-- words may be cut anywhere into feeds
fed_singly : (ws : List ℕ) (x : Bench) → feed_refusal x.session ws x.y x.c ≡ 0 → fed_all (singly ws) x ≡ fed_once ws x
fed_singly ws x none =
    let ready = feed_taken x.session ws x.y x.c none in
    fed_all_of_pieces (singly ws) x ready.0 (ap words10 (end_singly ws) ∙ ready.1)
    ∙ ap (λ (vs : List ℕ). fed_once vs x) (end_singly ws)

at_once : (n : ℕ) (d : Desk) (bs rest y c : List ℕ) (k : ℕ) → 2 * n ≤ length bs → n ≤ words_ahead d.reader
    → let ws = take n (words_in bs) in
    feed_refusal d.session ws y c ≡ 0
    → walked (bs ++ rest) (walk (standing d y c) k nothing)
    ≡ walked (drop (2 * n) bs ++ rest)
    (walk (standing (desk (after_words n d.reader bs) (session_or d.session (fed d.session ws y c))) (fed_y d.session ws y c) (fed_c d.session ws y c)) (k + 2 * n) nothing)
at_once n d bs rest y c k long ahead none =
    let ws = take n (words_in bs) in
    let x = bench d.session y c in
    many_words n d.reader x bs rest k long ahead (feed_taken d.session ws y c none).1
    ∙ ap (λ (z : Bench). walked (drop (2 * n) bs ++ rest) (walk (desk_at (after_words n d.reader bs) z) (k + 2 * n) nothing)) (fed_singly ws x none)

-- ---- as the code has it: words read from a part of the bytes, and fed

-- no more than there are bytes and room for
pub run_within : (r : Reader) (size : ℕ) (bs : List ℕ) (room : ℕ) {x : Run} → x ≡ run_of r (take size bs) room → (2 * x.words ≤ size) × (x.words ≤ room)
run_within r size bs room e =
    let many = ap (λ (x : Run). x.words) e in
    (omega (arith, length-take size bs), omega arith)

feed_answers : (s : Session) (ws y c : List ℕ) {after : Session} → Ok after ≡ fed s ws y c → feed_refusal s ws y c ≡ 0
unfolding fed
feed_answers s ws y c e = (result_of_ok (fed_session s ws (fed_run s ws y c)) (feed_refusal s ws y c) (sym e)).0

module _ (d : Desk) (at size : ℕ) (bytes y c : List ℕ) where
  abbrev part : List ℕ
  part = take size (drop at bytes)

  parted : (n : ℕ) → 2 * n ≤ length part → drop (2 * n) part ++ drop size (drop at bytes) ≡ drop (at + 2 * n) bytes
  parted n long =
      sym (drop-append-le (2 * n) part (drop size (drop at bytes)) long)
      ∙ ap (drop (2 * n)) (take-append-drop size (drop at bytes))
      ∙ drop-drop (2 * n) at bytes

  pub rushed : (room : List ℕ) {x : Run} {words y' c' : List ℕ} {after : Session} → x ≡ run_of d.reader part (length room) → words ≡ run_words d.reader part room
      → Ok after ≡ fed d.session (take x.words words) y c → y' ≡ fed_y d.session (take x.words words) y c → c' ≡ fed_c d.session (take x.words words) y c
      → walked (drop at bytes) (walk (standing d y c) at nothing)
      ≡ walked (drop (at + 2 * x.words) bytes) (walk (standing (desk x.reader after) y' c') (at + 2 * x.words) nothing)
  rushed room {x} {words} ex ew ef ey ec =
      let n = x.words in
      let many : n ≡ run_size d.reader part (length room) = ap (λ (r : Run). r.words) ex in
      let long : 2 * n ≤ length part = omega arith in
      let same : take n words ≡ take n (words_in part) = rw (ew, ← many) (first_over n part room long) in
      let reader : x.reader ≡ after_words n d.reader part = rw many (ap (λ (r : Run). r.reader) ex) in
      let taken = rw same at ef in
      let none = feed_answers d.session (take n (words_in part)) y c taken in
      let once = at_once n d part (drop size (drop at bytes)) y c at long (omega arith) none in
      rw (ey, ec, same, reader) (rw (take-append-drop size (drop at bytes), parted n long, ← taken) at once)

-- a feed that is refused changes no buffer
pub unchanged : (s : Session) (ws y c : List ℕ) {refusal : Refusal} {y' c' : List ℕ} → Err refusal ≡ fed s ws y c → y' ≡ fed_y s ws y c → c' ≡ fed_c s ws y c
    → (y' ≡ y) × (c' ≡ c)
unfolding fed fed_y fed_c
unchanged s ws y c e ey ec =
    let bad = (result_of_err (fed_session s ws (fed_run s ws y c)) (feed_refusal s ws y c) (sym e)).0 in
    (ey ∙ unless_refused-refused _ (fed_run s ws y c).y y bad, ec ∙ unless_refused-refused _ (fed_run s ws y c).c c bad)

-- words that are taken at once, and the last byte left over
module _ (d : Desk) (at : ℕ) (bytes y c : List ℕ) (start : at < length bytes) where
  abbrev size : ℕ
  size = length bytes - 1 - at

  pub rushed_ahead : (room : List ℕ) {x : Run} {words y' c' : List ℕ} {after : Session} → x ≡ run_of d.reader (take size (drop at bytes)) (length room) → words ≡ run_words d.reader (take size (drop at bytes)) room
      → Ok after ≡ fed d.session (take x.words words) y c → y' ≡ fed_y d.session (take x.words words) y c → c' ≡ fed_c d.session (take x.words words) y c
      → Ahead bytes (standing d y c) at (standing (desk x.reader after) y' c') (at + 2 * x.words)
  rushed_ahead room ex ew ef ey ec =
      record {
        onward = omega arith;
        within = omega (arith, (run_within d.reader size (drop at bytes) (length room) ex).0);
        rest = rushed d at size bytes y c room ex ew ef ey ec;
      }

  pub unrushed : (ws : List ℕ) {refusal : Refusal} {y' c' : List ℕ} → Err refusal ≡ fed d.session ws y c → y' ≡ fed_y d.session ws y c → c' ≡ fed_c d.session ws y c
      → Ahead bytes (standing d y c) at (standing d y' c') at
  unrushed ws e ey ec = let same = unchanged d.session ws y c e ey ec in rw (same.0, same.1) (ahead_none bytes (standing d y c) at start)

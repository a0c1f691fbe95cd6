-- Laws of stretches of an open row: words in which no sync ends, and timing codes.
use mathlib.Core.Path.{◌≡◌, refl, sym, ap, ◌∙◌}
use mathlib.Core.Bool.{Bool, true, false}
use mathlib.Core.List.{List, [], ◌∷◌, ◌++◌, append_assoc, append-nil}
use mathlib.Core.Logic.{◌⊎◌, inl, inr}
use Prim.Native.Nat.{ℕ, suc, ◌+◌, ◌≤◌, ◌<◌}
use native.Mathlib.Omega.{arith}
use native.Mathlib.Decide.{ℕ_discrete}
use lib.ListN.{length}
use borrow.Author.Tests.{lt-ltb, le-ltb}
use Rattle.bits.specs.Bits.{odd, bits, word_bits}
use Rattle.bits.specs.Words.{words10}
use Rattle.bits.proofs.Words.{words10_head, words10_tail}
use Rattle.cable.specs.Channels.{paired}
use Rattle.parts.specs.Parts.{part}
use Rattle.stream.specs.Words.{trs}
use Rattle.recogniser.specs.declared.Event.TheVariants.{Whole}
use Rattle.recogniser.specs.Sight.{is_sync, is_eav}
use Rattle.recogniser.proofs.Events.{is_sync-number}
use Rattle.judging.specs.declared.Track.{Track}
use Rattle.judging.specs.Happening.{happened, happenings}
use Rattle.tally.specs.declared.Counts.{Counts}
use Rattle.tally.specs.Tally.{tallied}
use Rattle.stepper.specs.Step.{Run, steps}
use Rattle.stepper.proofs.Stepping.{steps_of_append}
use Rattle.law_module.specs.Module.{listed}
use Rattle.law_clean.proofs.Sliding.{NoEdge, high_no_edge, one_no_edge, no_edge_after, pair_bits, first_bits, length_pair_bits, length_first_bits, pair_last, no_edge_pair, pair_seen}
use Rattle.law_clean.proofs.Quiet.{standing, grow, plain_pair, whole_pair}
use Rattle.law_clean.proofs.Spaced.{Spaced, spaced_after}

-- a row's words where more pairs have ended
abbrev pub grown : ℕ → ℕ → List ℕ → List ℕ → List ℕ
grown total pairs [] row = row
grown total pairs (w ∷ ws) row = grown total (pairs + 1) ws (grow total pairs w row)

pub grown_early : (total pairs : ℕ) (ws row : List ℕ) → pairs + length ws ≤ total → grown total pairs ws row ≡ row ++ ws
grown_early total pairs [] row h = sym (append-nil row)
grown_early total pairs (w ∷ ws) row h =
    rw (lt-ltb pairs total (omega arith)) (grown_early total (pairs + 1) ws (row ++ (w ∷ [])) (omega arith) ∙ append_assoc row (w ∷ []) ws)

grown_late : (total pairs : ℕ) (ws row : List ℕ) → total ≤ pairs → grown total pairs ws row ≡ row
grown_late total pairs [] row h = refl
grown_late total pairs (w ∷ ws) row h = rw (le-ltb pairs total h) (grown_late total (pairs + 1) ws row (omega arith))

-- an open row where a pair has ended, in whose C word c stood
pub record Stands (c pairs ahead : ℕ) (t : Track) (n : Counts) (ry rc : List ℕ) (x : Run) : Type 0 where
  pub last : ℕ
  pub same : x ≡ standing true last ahead pairs 0 t n ry rc
  pub small : last < 0x1000000000000000
  pub led : (c ≡ 0 → ⊥) → 0x10000000000 ≤ last

pub stands_same : {c pairs ahead pairs' : ℕ} {t : Track} {n : Counts} {ry rc ry' rc' : List ℕ} {x x' : Run}
    → pairs ≡ pairs' → ry ≡ ry' → rc ≡ rc' → x' ≡ x
    → Stands c pairs ahead t n ry rc x → Stands c pairs' ahead t n ry' rc' x'
stands_same e f g h s = record { last = s.last; same = h ∙ s.same ∙ rw (e, f, g); small = s.small; led = s.led }

-- a timing code's words before its XYZ
abbrev sync3 : List ℕ
sync3 = 0x3ff ∷ 0x000 ∷ 0x000 ∷ []

-- ---- pair after pair

-- after pairs of these words
abbrev pub sent : ℕ → ℕ → List ℕ → List ℕ → Run → Run
sent code total cs ys x = steps listed code total (word_bits (paired cs ys)) x

module _ (code total : ℕ) where
  sent_cons : (v y : ℕ) (vs ys : List ℕ) (x : Run)
      → sent code total (v ∷ vs) (y ∷ ys) x
      ≡ sent code total vs ys (steps listed code total (pair_bits v y) x)
  unfolding word_bits paired
  sent_cons v y vs ys x =
      ap (λ (bs : List Bool). steps listed code total bs x) (sym (append_assoc (bits 10 v) (bits 10 y) (word_bits (paired vs ys))))
      ∙ steps_of_append listed code total (pair_bits v y) (word_bits (paired vs ys)) x

  pub sent_append : (us bs vs ys : List ℕ) (x : Run) → length us ≡ length bs
      → sent code total (us ++ vs) (bs ++ ys) x
      ≡ sent code total vs ys (sent code total us bs x)
  unfolding steps word_bits paired
  sent_append [] [] vs ys x e = refl
  sent_append [] (b ∷ bs) vs ys x e = absurd (omega arith)
  sent_append (u ∷ us) [] vs ys x e = absurd (omega arith)
  sent_append (u ∷ us) (b ∷ bs) vs ys x e =
      sent_cons u b (us ++ vs) (bs ++ ys) x
      ∙ sent_append us bs vs ys (steps listed code total (pair_bits u b) x) (omega arith)
      ∙ ap (sent code total vs ys) (sym (sent_cons u b us bs x))

  -- a timing code
  sent_trs : (v : ℕ) (x : Run) → sent code total (trs v) (trs v) x
      ≡ steps listed code total (pair_bits v v) (sent code total sync3 sync3 x)
  unfolding steps word_bits paired
  sent_trs v x = sent_append sync3 sync3 (v ∷ []) (v ∷ []) x refl ∙ sent_cons v v [] [] (sent code total sync3 sync3 x)

-- ---- a stretch in which no sync ends

-- all ones first
full_no_edge : (l y : ℕ) → NoEdge l (pair_bits 0x3ff y)
unfolding bits odd
full_no_edge l y = one_no_edge l (bits 9 0x1ff ++ bits 10 y) (omega arith)

-- "20 ones then 40 zeros" at any bit hold a whole pair of zeros; after its C word, 000, there is a 3FF in C: Y may have any words
pub spaced_no_edge : (l c v y : ℕ) → ((c ≡ 0 → ⊥) → 0x10000000000 ≤ l) → (c ≡ 0 → v ≡ 0x3ff) → NoEdge l (pair_bits v y)
spaced_no_edge l c v y led next = go (ℕ_discrete c 0)
  where
    go : Dec (c ≡ 0) → NoEdge l (pair_bits v y)
    go (yes e) = rw (next e) (full_no_edge l y)
    go (no g) = high_no_edge l (pair_bits v y) (rw (length_pair_bits v y) (led g))

module _ (code total : ℕ) (t : Track) (n : Counts) where
  -- one pair
  plain : (c v y pairs ahead : ℕ) (ry rc : List ℕ) (x : Run) → 1 ≤ pairs → pairs < total + 3 → v < 1024 → y < 1024
      → (ahead ≡ 0) ⊎ ((ahead ≡ 20) × (is_eav y ≡ false)) → (s : Stands c pairs ahead t n ry rc x) → NoEdge s.last (pair_bits v y)
      → Stands v (pairs + 1) 0 t n (grow total pairs y ry) (grow total pairs v rc) (steps listed code total (pair_bits v y) x)
  plain c v y pairs ahead ry rc x some early low_v low_y far s none =
      let r = no_edge_pair s.last v y low_v low_y none in
      let after = pair_seen s.last v y s.small low_v low_y in
      record {
        last = pair_last s.last v y;
        same =
            ap (steps listed code total (pair_bits v y)) s.same
            ∙ plain_pair code total t n s.last pairs v y ry rc some s.small low_v low_y r.0 ahead false early far r.1;
        small = after.small;
        led = after.led;
      }

  pub stretch : (vs ys : List ℕ) (c pairs : ℕ) (ry rc : List ℕ) (x : Run) → Spaced (c ∷ vs) → length vs ≡ length ys
      → words10 vs ≡ true → words10 ys ≡ true → 1 ≤ pairs → pairs + length vs ≤ total + 3 → Stands c pairs 0 t n ry rc x
      → Stands 0 (pairs + length vs) 0 t n (grown total pairs ys ry) (grown total pairs vs rc) (sent code total vs ys x)
  unfolding steps word_bits paired
  stretch [] [] c pairs ry rc x spaced long tens tens_y some room s =
      let e : pairs ≡ pairs + 0 = omega arith in
      stands_same e refl refl refl (record { last = s.last; same = s.same; small = s.small; led = λ g. absurd (g refl) })
  stretch [] (y ∷ ys) c pairs ry rc x spaced long tens tens_y some room s = absurd (omega arith)
  stretch (v ∷ vs) [] c pairs ry rc x spaced long tens tens_y some room s = absurd (omega arith)
  stretch (v ∷ vs) (y ∷ ys) c pairs ry rc x spaced long tens tens_y some room s =
      let a = spaced_after c v vs spaced in
      let hv = words10_head v vs tens in
      let hy = words10_head y ys tens_y in
      let e : pairs + 1 + length vs ≡ pairs + suc (length vs) = omega arith in
      let none = spaced_no_edge s.last c v y s.led a.0 in
      let one = plain c v y pairs 0 ry rc x some (omega arith) (omega arith) (omega arith) (inl refl) s none in
      stands_same e refl refl (sent_cons code total v y vs ys x)
      (stretch vs ys v (pairs + 1) (grow total pairs y ry) (grow total pairs v rc) (steps listed code total (pair_bits v y) x) a.1
      (omega arith) (words10_tail v vs tens) (words10_tail y ys tens_y) (omega arith) (omega arith) one)

  -- ---- a timing code

  -- its sync
  synced : (c pairs : ℕ) (ry rc : List ℕ) (x : Run) → 1 ≤ pairs → pairs + 2 < total + 3 → Stands c pairs 0 t n ry rc x
      → sent code total sync3 sync3 x
      ≡ standing true 0xfffff 20 (pairs + 1 + 1 + 1) 0 t n (grown total pairs sync3 ry) (grown total pairs sync3 rc)
  unfolding steps word_bits paired
  synced c pairs ry rc x some early s =
      let l1 = pair_last s.last 0x3ff 0x3ff in
      let s1 = pair_seen s.last 0x3ff 0x3ff s.small (omega arith) (omega arith) in
      let l2 = pair_last l1 0x000 0x000 in
      let s2 = pair_seen l1 0x000 0x000 s1.small (omega arith) (omega arith) in
      let n1 = no_edge_pair s.last 0x3ff 0x3ff (omega arith) (omega arith) (full_no_edge s.last 0x3ff) in
      let n2 = no_edge_pair l1 0x000 0x000 (omega arith) (omega arith) (high_no_edge l1 (pair_bits 0 0) (rw (length_pair_bits 0 0) (omega arith))) in
      let n3 : NoEdge l2 (first_bits 0 0) = high_no_edge l2 (first_bits 0 0) (rw (length_first_bits 0 0) (omega arith)) in
      let l3 : pair_last l2 0x000 0x000 ≡ 0xfffff = omega arith in
      let is : is_sync (pair_last l2 0x000 0x000) ≡ true = is_sync-number _ l3 in
      let y1 = grow total pairs 0x3ff ry in
      let c1 = grow total pairs 0x3ff rc in
      let y2 = grow total (pairs + 1) 0x000 y1 in
      let c2 = grow total (pairs + 1) 0x000 c1 in
      let one = plain_pair code total t n s.last pairs 0x3ff 0x3ff ry rc some s.small (omega arith) (omega arith) n1.0 in
      let two = plain_pair code total t n l1 (pairs + 1) 0x000 0x000 y1 c1 (omega arith) s1.small (omega arith) (omega arith) n2.0 in
      let three = plain_pair code total t n l2 (pairs + 1 + 1) 0x000 0x000 y2 c2 (omega arith) s2.small (omega arith) (omega arith) n3 in
      sent_cons code total 0x3ff 0x3ff (0x000 ∷ 0x000 ∷ []) (0x000 ∷ 0x000 ∷ []) x
      ∙ ap (sent code total (0x000 ∷ 0x000 ∷ []) (0x000 ∷ 0x000 ∷ []))
      (ap (steps listed code total (pair_bits 0x3ff 0x3ff)) s.same ∙ one 0 false (omega arith) (inl refl) n1.1)
      ∙ sent_cons code total 0x000 0x000 (0x000 ∷ []) (0x000 ∷ []) (standing true l1 0 (pairs + 1) 0 t n y1 c1)
      ∙ ap (sent code total (0x000 ∷ []) (0x000 ∷ []))
      (two 0 false (omega arith) (inl refl) n2.1)
      ∙ sent_cons code total 0x000 0x000 [] [] (standing true l2 0 (pairs + 1 + 1) 0 t n y2 c2)
      ∙ three 0 true (omega arith) (inl refl) is
      ∙ ap (λ (l : ℕ). standing true l 20 (pairs + 1 + 1 + 1) 0 t n (grown total pairs sync3 ry) (grown total pairs sync3 rc)) l3

  -- with an XYZ that is no EAV
  pub sav_code : (v c pairs : ℕ) (ry rc : List ℕ) (x : Run) → v < 1024 → is_eav v ≡ false → 1 ≤ pairs → pairs < total → Stands c pairs 0 t n ry rc x
      → Stands v (pairs + 4) 0 t n (grown total pairs (trs v) ry) (grown total pairs (trs v) rc) (sent code total (trs v) (trs v) x)
  sav_code v c pairs ry rc x low other some early s =
      let e : pairs + 1 + 1 + 1 + 1 ≡ pairs + 4 = omega arith in
      let y3 = grown total pairs sync3 ry in
      let c3 = grown total pairs sync3 rc in
      let after = sent code total sync3 sync3 x in
      let mid : Stands 0 (pairs + 1 + 1 + 1) 20 t n y3 c3 after =
      record { last = 0xfffff; same = synced c pairs ry rc x some (omega arith) s; small = omega arith; led = λ g. absurd (g refl) } in
      stands_same e refl refl (sent_trs code total v x)
      (plain 0 v v (pairs + 1 + 1 + 1) 20 y3 c3 after (omega arith) (omega arith) low low (inr (refl, other)) mid (no_edge_after v v))

  -- an EAV after T pairs: the row is whole, and the next is open
  pub eav_code : (v c : ℕ) (ry rc : List ℕ) (x : Run) → v < 1024 → is_eav v ≡ true → 1 ≤ total → Stands c total 0 t n ry rc x
      → Stands v 4 0 (happened Whole code t (part 0 total ry) (part 0 total rc)).track
      (tallied (happenings (happened Whole code t (part 0 total ry) (part 0 total rc)).happening) n) (trs v) (trs v)
      (sent code total (trs v) (trs v) x)
  eav_code v c ry rc x low is some s =
      let y3 = grown total total sync3 ry in
      let c3 = grown total total sync3 rc in
      let none = no_edge_pair 0xfffff v v low low (no_edge_after v v) in
      let seen = pair_seen 0xfffff v v (omega arith) low low in
      let xyz = whole_pair code total t n 0xfffff (total + 1 + 1 + 1) v v y3 c3 (omega arith) (omega arith) low low none.0 in
      record {
        last = pair_last 0xfffff v v;
        same =
            sent_trs code total v x
            ∙ ap (steps listed code total (pair_bits v v)) (synced c total ry rc x (omega arith) (omega arith) s)
            ∙ xyz (omega arith) is none.1
            ∙ rw (grown_late total total sync3 ry (omega arith), grown_late total total sync3 rc (omega arith));
        small = seen.small;
        led = seen.led;
      }

-- Laws of the bits before the first EAV, and of the EAV that opens the first row.
use mathlib.Core.Path.{◌≡◌, refl, sym, ap, ◌∙◌}
use mathlib.Core.Bool.{Bool, true, false, and-false, or-true}
use mathlib.Core.List.{List, [], ◌∷◌, ◌++◌, append_assoc, append-nil}
use mathlib.Core.Logic.{◌⊎◌, inl, inr}
use Prim.Native.Nat.{ℕ, zero, suc, ◌-◌, ◌≤◌, ◌<◌}
use native.Mathlib.Omega.{arith}
use native.Mathlib.Decide.{ℕ_discrete}
use lib.Dec.{eqb}
use lib.ListN.{length, take, drop, replicate, length-append, length-drop}
use lib.Seq.{drop-append-le, take_at}
use borrow.Author.Tests.{ne_eqb}
use Rattle.bits.specs.Bits.{odd, bits, number, word_bits}
use Rattle.raster.specs.Layout.{sync_of, hd_unit}
use Rattle.cable.specs.Channels.{paired}
use Rattle.align.specs.Search.{slid}
use Rattle.stream.specs.Words.{trs}
use Rattle.recogniser.specs.declared.Window.{Window}
use Rattle.recogniser.specs.declared.Event.TheVariants.{Outside, Opens}
use Rattle.recogniser.specs.Sight.{is_sync, y_word, is_eav, window_after}
use Rattle.recogniser.specs.Event.{eav_ends, event_of}
use Rattle.recogniser.proofs.Windows.{last_of, slid_last_of, y_word_last_of, Awaited, Tied, start_window, tied_start, tied_after}
use Rattle.judging.specs.Happening.{no_track, happened}
use Rattle.tally.specs.Tally.{no_counts, tallied}
use Rattle.stepper.specs.Step.{Run, stepped, steps}
use Rattle.stepper.proofs.Stepping.{steps_of_append}
use Rattle.law_module.specs.Module.{listed, begun_run}
use Rattle.law_clean.specs.Signal.{NoEav}
use Rattle.law_clean.proofs.Sliding.{slides, slides_small, sync_after, NoEdge, one_no_edge, no_edge_after, no_edge_pair, pair_bits, first_bits, top_bit, length_first_bits, pair_bits_split, pair_last, slid_top, pair_seen}
use Rattle.law_clean.proofs.Quiet.{standing, step_with, quiet_outside}
use Rattle.law_clean.proofs.Stretch.{sent, Stands}

abbrev pub sync : List Bool
sync = sync_of hd_unit

-- all of its bits but the last
abbrev pub almost : List Bool
almost = take 59 sync

-- ---- the last sixty bits

slides_last_of : (todo before : List Bool) → slides (last_of before) todo ≡ last_of (before ++ todo)
slides_last_of [] before = ap last_of (sym (append-nil before))
slides_last_of (b ∷ todo) before =
    ap (λ (l : ℕ). slides l todo) (slid_last_of before b) ∙ slides_last_of todo (before ++ (b ∷ [])) ∙ ap last_of (append_assoc before (b ∷ []) todo)

pub slides_start : (bs : List Bool) → slides 0 bs ≡ last_of bs
unfolding number
slides_start bs = slides_last_of bs []

-- none ends in the first 59 bits of a sync
pub almost_no_edge : (l : ℕ) → NoEdge l almost
almost_no_edge l = ones_no_edge 19 l (replicate 39 false) (omega arith)
  where
    ones_no_edge : (n l : ℕ) (bs : List Bool) → length bs ≤ 39 → NoEdge l (replicate n true ++ (true ∷ bs))
    ones_no_edge zero l bs h = one_no_edge l bs h
    ones_no_edge (suc n) l bs h = ((one_no_edge l [] (omega arith)).0, ones_no_edge n (slid l true) bs h)

-- the bits of words that begin with a timing code
pub code_front : (e : ℕ) (cs ys : List ℕ) → word_bits (paired (trs e ++ cs) (trs e ++ ys)) ≡ sync ++ (pair_bits e e ++ word_bits (paired cs ys))
unfolding word_bits paired bits odd
code_front e cs ys = refl

-- ---- bits without an EAV

-- no row has opened
abbrev waiting : Window → Run
waiting w = standing w.seen w.last w.ahead 0 0 no_track no_counts [] []

-- .. after these bits
record Waits (bs : List Bool) (x : Run) : Type 0 where
  window : Window
  same : x ≡ waiting window
  tied : Tied bs window

-- the XYZ pair that ends with this bit, if any, is no EAV
no_eav_ends : (bs rest : List Bool) (b : Bool) (w : Window) → NoEav (bs ++ (b ∷ rest)) → Tied bs w → eav_ends w.ahead (slid w.last b) ≡ false
unfolding window_after
no_eav_ends bs rest b w no_eav t = go (ℕ_discrete w.ahead 1)
  where
    awaited : w.ahead ≡ 1 → (w.ahead ≡ 0) ⊎ Awaited bs w.ahead → is_eav (y_word (slid w.last b)) ≡ false
    awaited e (inl z) = absurd (omega arith)
    awaited e (inr a) =
        let x = a.came ++ (b ∷ []) in
        let long : length x ≡ 20 = omega (arith, a.count, length-append a.came (b ∷ [])) in
        let here : bs ++ (b ∷ []) ≡ (a.pre ++ sync) ++ x = ap (λ (l : List Bool). l ++ (b ∷ [])) a.split ∙ simp append_assoc in
        let all : bs ++ (b ∷ rest) ≡ a.pre ++ (sync ++ (x ++ rest)) = ap (λ (l : List Bool). l ++ (b ∷ rest)) a.split ∙ simp append_assoc in
        let word = ap y_word ((tied_after bs w b t).last ∙ ap last_of here) ∙ y_word_last_of (a.pre ++ sync) x long in
        let same : take 10 (drop 10 (x ++ rest)) ≡ drop 10 x =
        ap (take 10) (drop-append-le 10 x rest (omega arith)) ∙ take_at (drop 10 x) rest 10 (omega (arith, length-drop 10 x)) in
        ap is_eav (word ∙ ap number (sym same)) ∙ (no_eav a.pre (x ++ rest) all).1

    go : Dec (w.ahead ≡ 1) → eav_ends w.ahead (slid w.last b) ≡ false
    go (yes e) = rw (awaited e t.ahead) (and-false (eqb w.ahead 1))
    go (no g) = rw (ne_eqb w.ahead 1 g)

module _ (code total : ℕ) where
  -- bit after bit
  waits-steps : (todo before : List Bool) (x : Run) → NoEav (before ++ todo) → Waits before x → Waits (before ++ todo) (steps listed code total todo x)
  unfolding steps event_of window_after happened listed tallied
  waits-steps [] before x no_eav w = rw (append-nil before) w
  waits-steps (b ∷ todo) before x no_eav w =
      let v = w.window in
      let none = no_eav_ends before todo b v no_eav w.tied in
      let next = slid v.last b in
      let one = step_with code total v.seen v.last v.ahead 0 0 no_track no_counts [] [] b next Outside (is_sync next) refl (rw none) refl in
      rw (← append_assoc before (b ∷ []) todo)
      (waits-steps todo (before ++ (b ∷ [])) (stepped listed code total b x) (rw (append_assoc before (b ∷ []) todo) no_eav)
      (record {
        window = window_after b v;
        same = ap (stepped listed code total b) w.same ∙ one;
        tied = tied_after before v b w.tied;
      }))

  -- ---- the sync after them, and its XYZ pair

  first_sync_holds : (p : List Bool) → NoEav p
      → steps listed code total sync (steps listed code total p begun_run) ≡ standing true 0xfffff 20 0 0 no_track no_counts [] []
  unfolding steps event_of happened listed tallied number
  first_sync_holds p no_eav =
      let w = waits-steps p [] begun_run no_eav (record { window = start_window; same = refl; tied = tied_start }) in
      let seen = w.window.seen in
      let last = w.window.last in
      let l = slides last almost in
      let small : last < 0x1000000000000000 = rw (w.tied.last, ← slides_start p) (slides_small p 0 (omega arith)) in
      let free = w.same ∙ ap (λ (a : ℕ). standing seen last a 0 0 no_track no_counts [] []) (none_awaited w.tied.ahead) in
      ap (steps listed code total sync) free
      ∙ steps_of_append listed code total almost (false ∷ []) (standing seen last 0 0 0 no_track no_counts [] [])
      ∙ ap (stepped listed code total false) (quiet_outside code total seen no_track no_counts almost last 0 (almost_no_edge last) (inl refl))
      ∙ step_with code total seen l 0 0 0 no_track no_counts [] [] false 0xfffff Outside true (sync_after last small) refl refl
      ∙ ap (λ (s : Bool). standing s 0xfffff 20 0 0 no_track no_counts [] []) (or-true seen)
    where
      -- the XYZ pair of a sync in p has ended in p
      none_awaited : {n : ℕ} → (n ≡ 0) ⊎ Awaited p n → n ≡ 0
      none_awaited (inl z) = z
      none_awaited (inr a) = omega (arith, a.count, (no_eav a.pre a.came a.split).0)

  -- an EAV opens a row
  first_xyz : (v : ℕ) → v < 1024 → is_eav v ≡ true
      → steps listed code total (pair_bits v v) (standing true 0xfffff 20 0 0 no_track no_counts [] [])
      ≡ standing true (pair_last 0xfffff v v) 0 4 0 no_track no_counts (trs v) (trs v)
  unfolding steps event_of happened listed tallied
  first_xyz v low eav =
      let none = no_edge_pair 0xfffff v v low low (no_edge_after v v) in
      let seen = pair_seen 0xfffff v v (omega arith) low low in
      let x = standing true 0xfffff 20 0 0 no_track no_counts [] [] in
      ap (λ (bs : List Bool). steps listed code total bs x) (pair_bits_split v v)
      ∙ steps_of_append listed code total (first_bits v v) (top_bit v ∷ []) x
      ∙ ap (stepped listed code total (top_bit v))
      (quiet_outside code total true no_track no_counts (first_bits v v) 0xfffff 20 none.0 (inr (omega (arith, length_first_bits v v)))
      ∙ ap (λ (k : ℕ). standing true (slides 0xfffff (first_bits v v)) (20 - k) 0 0 no_track no_counts [] []) (length_first_bits v v))
      ∙ step_with code total true (slides 0xfffff (first_bits v v)) 1 0 0 no_track no_counts [] [] (top_bit v) (pair_last 0xfffff v v) Opens false
      (slid_top 0xfffff v v low low) (rw (seen.y_word_is, eav)) none.1
      ∙ rw (seen.y_word_is, seen.c_word_is)

  pub first_code : (p : List Bool) (v : ℕ) → NoEav p → v < 1024 → is_eav v ≡ true
      → Stands v 4 0 no_track no_counts (trs v) (trs v) (sent code total (trs v) (trs v) (steps listed code total p begun_run))
  unfolding word_bits paired bits
  first_code p v no_eav low eav =
      let seen = pair_seen 0xfffff v v (omega arith) low low in
      record {
        last = pair_last 0xfffff v v;
        same =
            ap (λ (bs : List Bool). steps listed code total bs (steps listed code total p begun_run)) (code_front v [] [])
            ∙ steps_of_append listed code total sync (pair_bits v v) (steps listed code total p begun_run)
            ∙ ap (steps listed code total (pair_bits v v)) (first_sync_holds p no_eav)
            ∙ first_xyz v low eav;
        small = seen.small;
        led = seen.led;
      }

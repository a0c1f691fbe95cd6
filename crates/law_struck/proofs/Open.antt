-- What a run holds after bits: where a row is open, the words of that row's bits.
use mathlib.Core.Path.{◌≡◌, refl, sym, ap, ◌∙◌}
use mathlib.Core.Bool.{Bool, true, false}
use mathlib.Core.List.{List, [], ◌∷◌, ◌++◌, append_assoc, append-nil}
use mathlib.Core.Logic.{◌⊎◌, inl, inr}
use Prim.Native.Nat.{ℕ, ◌+◌, ◌-◌, ◌*◌, ◌≤◌, ◌<◌}
use native.Mathlib.Omega.{arith}
use lib.Dec.{ltb}
use lib.ListN.{length, take, drop, length-append}
use lib.Seq.{take_all, take-append-le, drop_at}
use borrow.Author.Tests.{ltb-true, ltb-false}
use Rattle.bits.specs.Choice.{if}
use Rattle.bits.proofs.Choice.{false_not_true}
use Rattle.raster.specs.Layout.{sync_of, hd_unit}
use Rattle.align.specs.Sync.{starts_with}
use Rattle.align.specs.Search.{slid}
use Rattle.align.proofs.FirstSync.{starts_of_append, none_means_none}
use Rattle.stream.specs.Words.{trs}
use Rattle.law_burst.specs.Stretch.{channel_words}
use Rattle.recogniser.specs.declared.Window.{Window}
use Rattle.recogniser.specs.declared.Place.{Place}
use Rattle.recogniser.specs.declared.Event.{Event}
use Rattle.recogniser.specs.declared.Event.TheVariants.{Within, Pair, Opens, Whole, Early}
use Rattle.recogniser.specs.Sight.{is_sync, y_word, c_word, ahead_after, window_after}
use Rattle.recogniser.specs.Event.{event_of, place, opened, place_after, looked}
use Rattle.recogniser.proofs.Windows.{last_of, c_word_last_of, y_word_last_of, Awaited, Tied, tied_start, tied_after}
use Rattle.stepper.specs.Step.{Run, stepped, steps}
use Rattle.law_module.specs.Module.{listed, begun_run}
use Rattle.law_struck.proofs.Pairs.{length-channel_words, channel_words_append, word_in, channel_words_pair, channel_words-trs}
use Rattle.law_struck.proofs.Events.{Cause, opens, whole, early, pair, within, cause_of}

-- an open row, in the last of the bits: whole pairs and the bits of one more, and the words of up to T pairs
pub record OpenRow (total : ℕ) (bs : List Bool) (w : Window) (p : Place) (y c : List ℕ) : Type 0 where
  pub pre : List Bool
  pub row : List Bool
  pub part : List Bool
  pub split : bs ≡ pre ++ (row ++ part)
  pub pairs : length row ≡ 20 * p.pairs
  pub bit : length part ≡ p.bit
  pub low : 4 ≤ p.pairs
  pub small : p.bit ≤ 19
  pub due : (w.ahead ≡ 0) ⊎ (w.ahead + p.bit ≡ 20)
  pub of_y : y ≡ take total (channel_words true row)
  pub of_c : c ≡ take total (channel_words false row)
  pub seen : w.seen ≡ true

-- no row is open, or that one
pub record Holds (total : ℕ) (bs : List Bool) (w : Window) (p : Place) (y c : List ℕ) : Type 0 where
  pub tied : Tied bs w
  pub row : (p.pairs ≡ 0) ⊎ OpenRow total bs w p y c

-- ---- the last pair's words

abbrev last_word : Bool → ℕ → ℕ
last_word true last = y_word last
last_word false last = c_word last

last_word_last_of : (y : Bool) (pre x : List Bool) → length x ≡ 20 → last_word y (last_of (pre ++ x)) ≡ word_in y x
last_word_last_of true pre x e = y_word_last_of pre x e
last_word_last_of false pre x e = c_word_last_of pre x e

-- ---- one bit more

module _ (total : ℕ) (enough : 4 ≤ total) (bs : List Bool) (w : Window) (b : Bool) (t : Tied bs w) where
  last_after : (window_after b w).last ≡ last_of (bs ++ (b ∷ []))
  last_after = (tied_after bs w b t).last

  seen_after : w.seen ≡ true → (window_after b w).seen ≡ true
  unfolding window_after
  seen_after s = rw s

  -- where a sync ended, twenty bits are to come; else one less
  due_after : (w.ahead ≡ 0) ⊎ (w.ahead ≡ 1) → ((window_after b w).ahead ≡ 0) ⊎ ((window_after b w).ahead + 0 ≡ 20)
  unfolding window_after
  due_after d = go (is_sync (slid w.last b)) d
    where
      go : (sync : Bool) → (w.ahead ≡ 0) ⊎ (w.ahead ≡ 1) → (ahead_after w.ahead sync ≡ 0) ⊎ (ahead_after w.ahead sync + 0 ≡ 20)
      go true d = inr refl
      go false d = inl (omega arith)

  -- ---- a row opens

  record Came : Type 0 where
    pre : List Bool
    xyz : List Bool
    split : bs ++ (b ∷ []) ≡ pre ++ (sync_of hd_unit ++ xyz)
    size : length xyz ≡ 20
    seen : w.seen ≡ true

  came_awaited : (n : ℕ) → n ≡ 1 → Awaited bs n → Came
  came_awaited n one a =
      record {
        pre = a.pre;
        xyz = a.came ++ (b ∷ []);
        split =
            ap (λ (l : List Bool). l ++ (b ∷ [])) a.split
            ∙ append_assoc a.pre (sync_of hd_unit ++ a.came) (b ∷ [])
            ∙ ap (λ (l : List Bool). a.pre ++ l) (append_assoc (sync_of hd_unit) a.came (b ∷ []));
        size = omega (arith, a.count, length-append a.came (b ∷ []));
        seen = go w.seen refl;
      }
    where
      starts : starts_with (sync_of hd_unit) (drop (length a.pre) bs) ≡ true
      starts =
          ap (λ (l : List Bool). starts_with (sync_of hd_unit) (drop (length a.pre) l)) a.split
          ∙ ap (starts_with (sync_of hd_unit)) (drop_at a.pre (sync_of hd_unit ++ a.came) (length a.pre) refl)
          ∙ starts_of_append (sync_of hd_unit) a.came

      go : (s : Bool) → w.seen ≡ s → s ≡ true
      go true e = refl
      go false e =
          absurd (false_not_true (sym (none_means_none true (drop 1 (sync_of hd_unit)) bs (t.unseen e) (length a.pre)) ∙ starts))

  came : w.ahead ≡ 1 → Came
  came one = go t.ahead
    where
      go : (w.ahead ≡ 0) ⊎ Awaited bs w.ahead → Came
      go (inl z) = absurd (omega arith)
      go (inr a) = came_awaited w.ahead one a

  trs_words : (e : Came) (y : Bool) → trs (last_word y (window_after b w).last) ≡ take total (channel_words y (sync_of hd_unit ++ e.xyz))
  trs_words e y =
      let before = e.pre ++ sync_of hd_unit in
      ap (λ (l : ℕ). trs (last_word y l)) (last_after ∙ ap last_of (e.split ∙ sym (append_assoc e.pre (sync_of hd_unit) e.xyz)))
      ∙ ap trs (last_word_last_of y before e.xyz e.size)
      ∙ sym (take_all total (trs (word_in y e.xyz)) enough)
      ∙ ap (take total) (sym (channel_words-trs y e.xyz e.size))

  row_opens : w.ahead ≡ 1
      → OpenRow total (bs ++ (b ∷ [])) (window_after b w) opened (trs (y_word (window_after b w).last)) (trs (c_word (window_after b w).last))
  row_opens one =
      let e = came one in
      record {
        pre = e.pre;
        row = sync_of hd_unit ++ e.xyz;
        part = [];
        split = e.split ∙ ap (λ (l : List Bool). e.pre ++ l) (sym (append-nil (sync_of hd_unit ++ e.xyz)));
        pairs = omega (arith, length-append (sync_of hd_unit) e.xyz, e.size);
        bit = refl;
        low = omega arith;
        small = omega arith;
        due = due_after (inr one);
        of_y = trs_words e true;
        of_c = trs_words e false;
        seen = seen_after e.seen;
      }

  -- ---- in a row

  module _ (p : Place) (y c : List ℕ) (r : OpenRow total bs w p y c) where
    row_within : p.bit < 19 → is_sync (window_after b w).last ≡ false
        → OpenRow total (bs ++ (b ∷ [])) (window_after b w) (place p.pairs (p.bit + 1)) y c
    unfolding window_after
    row_within l quiet =
        record {
          pre = r.pre;
          row = r.row;
          part = r.part ++ (b ∷ []);
          split = ap (λ (l : List Bool). l ++ (b ∷ [])) r.split ∙ simp append_assoc;
          pairs = r.pairs;
          bit = omega (arith, length-append r.part (b ∷ []), r.bit);
          low = r.low;
          small = omega arith;
          due = rw quiet (go r.due);
          of_y = r.of_y;
          of_c = r.of_c;
          seen = seen_after r.seen;
        }
      where
        go : (w.ahead ≡ 0) ⊎ (w.ahead + p.bit ≡ 20) → (w.ahead - 1 ≡ 0) ⊎ (w.ahead - 1 + (p.bit + 1) ≡ 20)
        go (inl z) = inl (omega arith)
        go (inr d) = inr (omega arith)

    pair_words : 19 ≤ p.bit → (k : Bool) (ws : List ℕ) → ws ≡ take total (channel_words k r.row)
        → if (ltb p.pairs total) (ws ++ (last_word k (window_after b w).last ∷ [])) ws
        ≡ take total (channel_words k (r.row ++ (r.part ++ (b ∷ []))))
    pair_words full k ws e = go (ltb p.pairs total) (ltb-true p.pairs total) (ltb-false p.pairs total)
      where
        size : length (r.part ++ (b ∷ [])) ≡ 20
        size = omega (arith, length-append r.part (b ∷ []), r.bit, r.small)

        long : length (channel_words k r.row) ≡ p.pairs
        long = length-channel_words k p.pairs r.row r.pairs

        word : last_word k (window_after b w).last ≡ word_in k (r.part ++ (b ∷ []))
        word =
            ap (last_word k)
            (last_after
            ∙ ap last_of (ap (λ (l : List Bool). l ++ (b ∷ [])) (r.split ∙ sym (append_assoc r.pre r.row r.part)) ∙ append_assoc (r.pre ++ r.row) r.part (b ∷ [])))
            ∙ last_word_last_of k (r.pre ++ r.row) (r.part ++ (b ∷ [])) size

        more : channel_words k (r.row ++ (r.part ++ (b ∷ []))) ≡ channel_words k r.row ++ (last_word k (window_after b w).last ∷ [])
        more =
            channel_words_append k p.pairs 1 r.row (r.part ++ (b ∷ [])) r.pairs size
            ∙ ap (λ (l : List ℕ). channel_words k r.row ++ l) (channel_words_pair k (r.part ++ (b ∷ [])) size ∙ ap (λ (v : ℕ). v ∷ []) (sym word))

        go : (t : Bool) → (t ≡ true → p.pairs < total) → (t ≡ false → total ≤ p.pairs)
            → if t (ws ++ (last_word k (window_after b w).last ∷ [])) ws ≡ take total (channel_words k (r.row ++ (r.part ++ (b ∷ []))))
        go true below over =
            let l = below refl in
            let v = last_word k (window_after b w).last in
            ap (λ (us : List ℕ). us ++ (v ∷ [])) (e ∙ take_all total (channel_words k r.row) (omega (arith, long)))
            ∙ sym (take_all total (channel_words k r.row ++ (v ∷ [])) (omega (arith, long, length-append (channel_words k r.row) (v ∷ []))))
            ∙ ap (take total) (sym more)
        go false below over =
            let l = over refl in
            e ∙ sym (ap (take total) more ∙ take-append-le total (channel_words k r.row) _ (omega (arith, long)))

    row_pair : 19 ≤ p.bit
        → OpenRow total (bs ++ (b ∷ [])) (window_after b w) (place (p.pairs + 1) 0)
        (listed Pair total p.pairs (y_word (window_after b w).last) y)
        (listed Pair total p.pairs (c_word (window_after b w).last) c)
    unfolding listed
    row_pair full =
        record {
          pre = r.pre;
          row = r.row ++ (r.part ++ (b ∷ []));
          part = [];
          split = ap (λ (l : List Bool). l ++ (b ∷ [])) r.split ∙ simp (append_assoc, append-nil);
          pairs = simp length-append (omega (arith, r.pairs, r.bit, r.small));
          bit = refl;
          low = omega (arith, r.low);
          small = omega arith;
          due = due_after (go r.due);
          of_y = pair_words full true y r.of_y;
          of_c = pair_words full false c r.of_c;
          seen = seen_after r.seen;
        }
      where
        go : (w.ahead ≡ 0) ⊎ (w.ahead + p.bit ≡ 20) → (w.ahead ≡ 0) ⊎ (w.ahead ≡ 1)
        go (inl z) = inl z
        go (inr d) = inr (omega (arith, r.small))

  holds_after : (p : Place) (y c : List ℕ) (e : Event) → Cause total w.ahead p (window_after b w).last e → Holds total bs w p y c
      → Holds total (bs ++ (b ∷ [])) (window_after b w) (place_after e p) (listed e total p.pairs (y_word (window_after b w).last) y)
      (listed e total p.pairs (c_word (window_after b w).last) c)
  unfolding listed
  holds_after p y c e cause h = record { tied = tied_after bs w b t; row = go e cause h.row }
    where
      go : (e : Event) → Cause total w.ahead p (window_after b w).last e → (p.pairs ≡ 0) ⊎ OpenRow total bs w p y c
          → ((place_after e p).pairs ≡ 0)
          ⊎ OpenRow total (bs ++ (b ∷ [])) (window_after b w) (place_after e p) (listed e total p.pairs (y_word (window_after b w).last) y)
          (listed e total p.pairs (c_word (window_after b w).last) c)
      go Within (within some l s) (inl z) = absurd (some z)
      go Within (within some l s) (inr r) = inr (row_within p y c r l s)
      go Pair (pair some full l) (inl z) = absurd (some z)
      go Pair (pair some full l) (inr r) = inr (row_pair p y c r full)
      go Opens (opens none one) r = inr (row_opens one)
      go Whole (whole one l) r = inr (row_opens one)
      go Early (early one) r = inr (row_opens one)
      go _ cause r = inl refl

-- ---- after all bits

abbrev pub HoldsIn : ℕ → List Bool → Run → Type 0
HoldsIn total bs x = Holds total bs x.state.sight.window x.state.sight.place x.y x.c

module _ (code total : ℕ) (enough : 4 ≤ total) where
  pub holds_step : (bs : List Bool) (b : Bool) (x : Run) → HoldsIn total bs x → HoldsIn total (bs ++ (b ∷ [])) (stepped listed code total b x)
  unfolding stepped looked
  holds_step bs b x h =
      let w = x.state.sight.window in
      let p = x.state.sight.place in
      holds_after total enough bs w b h.tied p x.y x.c (event_of total w.ahead p (window_after b w).last)
      (cause_of total w.ahead p (window_after b w).last) h

  pub holds_steps : (ds bs : List Bool) (x : Run) → HoldsIn total bs x → HoldsIn total (bs ++ ds) (steps listed code total ds x)
  unfolding steps
  holds_steps [] bs x h = rw append-nil h
  holds_steps (d ∷ ds) bs x h =
      rw append_assoc at (holds_steps ds (bs ++ (d ∷ [])) (stepped listed code total d x) (holds_step bs d x h))

pub holds_begun : (total : ℕ) → HoldsIn total [] begun_run
holds_begun total = record { tied = tied_start; row = inl refl }

-- The data bits of a stretch in which a run of cable bits is changed: the change shows in the covered pairs, and nowhere after them.
use mathlib.Core.Path.{◌≡◌, sym, ap, ◌∙◌}
use mathlib.Core.Bool.{Bool}
use mathlib.Core.List.{List, ◌++◌, reverse_aux, append_assoc}
use Prim.Native.Nat.{ℕ, ◌+◌, ◌-◌, ◌*◌, ◌≤◌}
use native.Mathlib.Omega.{arith}
use lib.ListN.{length, take, drop, length-append, length-take, take-append-drop}
use lib.Seq.{drop_at}
use Rattle.cable.specs.Bits.{unscrambled, past}
use Rattle.cable.proofs.Bits.{length-unscrambled, unscrambled_of_append}
use Rattle.cable.proofs.Spread.{spread}
use Rattle.cable.proofs.Channels.{InChannels, window_in_channels}
use Rattle.law_burst.specs.Stretch.{received}

-- whatever stood before counts as a past alone
pub received-after : (h : ℕ) (before cable : List Bool) → received h before cable ≡ unscrambled (reverse_aux before (past h)) cable
received-after h before cable =
    ap (drop (length before)) (unscrambled_of_append before cable (past h))
    ∙ drop_at (unscrambled (past h) before) (unscrambled (reverse_aux before (past h)) cable) (length before) (length-unscrambled before (past h))

-- two streams of which the first k pairs are alike but for a run in each channel, and all that follows is alike
pub record Covered (k : ℕ) (xs ys : List Bool) : Type 0 where
  pub start : ℕ
  pub one : List Bool
  pub other : List Bool
  pub rest : List Bool
  pub of_one : xs ≡ one ++ rest
  pub of_other : ys ≡ other ++ rest
  pub length_one : length one ≡ 20 * k
  pub length_other : length other ≡ 20 * k
  pub runs : InChannels 0 start one other

regroup : (j : ℕ) (xs ys zs : List Bool) → xs ++ (ys ++ zs) ≡ xs ++ (ys ++ take j zs) ++ drop j zs
regroup j xs ys zs =
    ap (λ (l : List Bool). xs ++ (ys ++ l)) (sym (take-append-drop j zs)) ∙ simp append_assoc

-- a run and the ten bits after it inside the first k pairs
pub covered_run : (p a m n z : List Bool) (k : ℕ) → length m ≡ length n → length m ≤ 18 → (m ≡ n → ⊥)
    → length a + length m + 10 ≤ 20 * k → 20 * k ≤ length (a ++ (m ++ z))
    → Covered k (unscrambled p (a ++ (m ++ z))) (unscrambled p (a ++ (n ++ z)))
covered_run p a m n z k equal short differ inside long =
    let s = spread p a m n z equal differ in
    let j = 20 * k - (length s.start + length s.one) in
    let reach : length s.start + length s.one ≤ 20 * k = omega arith in
    let all : length s.start + (length s.one + length s.rest) ≡ length (a ++ (m ++ z)) =
    sym (simp length-append at (ap length s.of_one)) ∙ length-unscrambled (a ++ (m ++ z)) p in
    let enough : length (take j s.rest) ≡ j = omega (arith, length-take j s.rest) in
    record {
      start = length s.start;
      one = s.start ++ (s.one ++ take j s.rest);
      other = s.start ++ (s.other ++ take j s.rest);
      rest = drop j s.rest;
      of_one = s.of_one ∙ regroup j s.start s.one s.rest;
      of_other = s.of_other ∙ regroup j s.start s.other s.rest;
      length_one = simp length-append (omega arith);
      length_other = simp length-append (omega (arith, s.length-same));
      runs = window_in_channels 0 s.start s.one s.other (take j s.rest) (omega arith) s.length-same (omega (arith, s.length_run)) s.differ;
    }

-- Laws of the channels' own bits in a stream.
use mathlib.Core.Path.{◌≡◌, refl, sym, ap, ap₂, ◌∙◌}
use mathlib.Core.Bool.{Bool, true, false, Bool-discrete}
use mathlib.Core.List.{List, [], ◌∷◌, ◌++◌, List-discrete}
use mathlib.Core.Logic.{◌⊎◌, inl, inr}
use Prim.Native.Nat.{ℕ, zero, suc, ◌+◌, ◌≤◌, ◌<◌}
use native.Mathlib.Omega.{arith}
use lib.Dec.{leb, leb→le}
use lib.ListN.{length}
use borrow.Author.Tests.{leb-false}
use Rattle.bits.specs.Choice.{if}
use Rattle.bits.specs.Bits.{◌⊕◌, digit, bits, word_bits}
use Rattle.bits.proofs.Below.{below}
use Rattle.cable.specs.Channels.{paired, turn, channel_bits}

-- the place in a pair after n turns
abbrev pub place_after : ℕ → ℕ → ℕ
place_after zero k = k
place_after (suc n) k = place_after n (turn k)

turn_lt : (k : ℕ) → turn k < 20
turn_lt k = go (leb 19 k) refl
  where
    go : (b : Bool) → leb 19 k ≡ b → if b 0 (suc k) < 20
    go true e = omega arith
    go false e = let l = leb-false 19 k e in omega arith

pub place_after_lt : (n k : ℕ) → k < 20 → place_after n k < 20
place_after_lt zero k h = h
place_after_lt (suc n) k h = place_after_lt n (turn k) (turn_lt k)

-- one bit more
chosen : (t : Bool) (b : Bool) (xs ys zs : List Bool) → xs ≡ ys ++ zs → if t (b ∷ xs) xs ≡ if t (b ∷ ys) ys ++ zs
chosen true b xs ys zs e = ap (λ (l : List Bool). b ∷ l) e
chosen false b xs ys zs e = e

pub channel_of_append : (y : Bool) (k : ℕ) (xs ys : List Bool)
    → channel_bits y k (xs ++ ys) ≡ channel_bits y k xs ++ channel_bits y (place_after (length xs) k) ys
unfolding channel_bits
channel_of_append y k [] ys = refl
channel_of_append y k (x ∷ xs) ys =
    chosen (leb k 9 ⊕ y) x (channel_bits y (turn k) (xs ++ ys)) (channel_bits y (turn k) xs) (channel_bits y (place_after (length xs) (turn k)) ys)
    (channel_of_append y (turn k) xs ys)

-- how many of n bits from place k on are the channel's
abbrev pub share : Bool → ℕ → ℕ → ℕ
share y k zero = 0
share y k (suc n) = digit (leb k 9 ⊕ y) + share y (turn k) n

pub channel_share : (y : Bool) (k : ℕ) (bs : List Bool) → length (channel_bits y k bs) ≡ share y k (length bs)
unfolding channel_bits
channel_share y k [] = refl
channel_share y k (b ∷ bs) = go (leb k 9 ⊕ y) (channel_share y (turn k) bs)
  where
    go : (t : Bool) → length (channel_bits y (turn k) bs) ≡ share y (turn k) (length bs)
        → length (if t (b ∷ channel_bits y (turn k) bs) (channel_bits y (turn k) bs)) ≡ digit t + share y (turn k) (length bs)
    go true e = omega arith
    go false e = omega arith

pub channel_length : (y : Bool) (k : ℕ) (xs ys : List Bool) → length xs ≡ length ys → length (channel_bits y k xs) ≡ length (channel_bits y k ys)
channel_length y k xs ys e = channel_share y k xs ∙ ap (share y k) e ∙ sym (channel_share y k ys)

share_grows : (y : Bool) (k n m : ℕ) → n ≤ m → share y k n ≤ share y k m
share_grows y k zero m h = omega arith
share_grows y k (suc n) zero h = absurd (omega arith)
share_grows y k (suc n) (suc m) h = omega (arith, share_grows y (turn k) n m (omega arith))

-- of 28 bits at most eighteen are one channel's, wherever in a pair they start
window : Bool → ℕ → Bool
window y k = leb (share y k 28) 18

share_window : (y : Bool) (k : ℕ) → k < 20 → share y k 28 ≤ 18
unfolding window
share_window true k h = leb→le (share true k 28) 18 (below (window true) 20 tt k h)
share_window false k h = leb→le (share false k 28) 18 (below (window false) 20 tt k h)

pub channel_window : (y : Bool) (k : ℕ) (bs : List Bool) → k < 20 → length bs ≤ 28 → length (channel_bits y k bs) ≤ 18
channel_window y k bs h l = omega (arith, channel_share y k bs, share_grows y k (length bs) 28 l, share_window y k h)

-- the two channels hold all the bits
pub channels_determine : (k : ℕ) (xs ys : List Bool) → length xs ≡ length ys → channel_bits false k xs ≡ channel_bits false k ys
    → channel_bits true k xs ≡ channel_bits true k ys → xs ≡ ys
unfolding channel_bits
channels_determine k [] [] e c d = refl
channels_determine k [] (y ∷ ys) e c d = absurd (omega arith)
channels_determine k (x ∷ xs) [] e c d = absurd (omega arith)
channels_determine k (x ∷ xs) (y ∷ ys) e c d = go (leb k 9) c d (channels_determine (turn k) xs ys (omega arith))
  where
    go : (t : Bool)
        → if (t ⊕ false) (x ∷ channel_bits false (turn k) xs) (channel_bits false (turn k) xs)
        ≡ if (t ⊕ false) (y ∷ channel_bits false (turn k) ys) (channel_bits false (turn k) ys)
        → if (t ⊕ true) (x ∷ channel_bits true (turn k) xs) (channel_bits true (turn k) xs)
        ≡ if (t ⊕ true) (y ∷ channel_bits true (turn k) ys) (channel_bits true (turn k) ys)
        → (channel_bits false (turn k) xs ≡ channel_bits false (turn k) ys → channel_bits true (turn k) xs ≡ channel_bits true (turn k) ys → xs ≡ ys)
        → x ∷ xs ≡ y ∷ ys
    go true c d ih =
        let p : x ≡ y = cc in
        let q : channel_bits false (turn k) xs ≡ channel_bits false (turn k) ys = cc in
        ap₂ (λ (b : Bool) (l : List Bool). b ∷ l) p (ih q d)
    go false c d ih =
        let p : x ≡ y = cc in
        let q : channel_bits true (turn k) xs ≡ channel_bits true (turn k) ys = cc in
        ap₂ (λ (b : Bool) (l : List Bool). b ∷ l) p (ih c q)

-- the channels of words sent in pairs are the channels' words
pub channel_of_words : (cs ys : List ℕ) → length cs ≡ length ys
    → (channel_bits false 0 (word_bits (paired cs ys)) ≡ word_bits cs) × (channel_bits true 0 (word_bits (paired cs ys)) ≡ word_bits ys)
unfolding channel_bits word_bits paired bits
channel_of_words [] [] e = (refl, refl)
channel_of_words [] (y ∷ ys) e = absurd (omega arith)
channel_of_words (c ∷ cs) [] e = absurd (omega arith)
channel_of_words (c ∷ cs) (y ∷ ys) e =
    let ih = channel_of_words cs ys (omega arith) in
    (ap (λ (l : List Bool). bits 10 c ++ l) ih.0, ap (λ (l : List Bool). bits 10 y ++ l) ih.1)

-- ---- a window in which two streams differ

-- two streams that are alike but for a run of at most n bits, after `start` bits
pub record Run (start n : ℕ) (xs ys : List Bool) : Type 0 where
  pub ahead : List Bool
  pub one : List Bool
  pub other : List Bool
  pub behind : List Bool
  pub first : xs ≡ ahead ++ (one ++ behind)
  pub second : ys ≡ ahead ++ (other ++ behind)
  pub placed : length ahead ≡ start
  pub equal : length one ≡ length other
  pub short : length one ≤ n

-- the two streams in both channels, alike but for a run of at most eighteen bits in each, and not alike in one of them;
-- k is the place in its pair of the first bit, and the first `start` bits are alike
pub record InChannels (k start : ℕ) (xs ys : List Bool) : Type 0 where
  pub c : Run (share false k start) 18 (channel_bits false k xs) (channel_bits false k ys)
  pub y : Run (share true k start) 18 (channel_bits true k xs) (channel_bits true k ys)
  pub shown : (c.one ≡ c.other → ⊥) ⊎ (y.one ≡ y.other → ⊥)

module _ (k : ℕ) (a m n z : List Bool) (place : k < 20) (equal : length m ≡ length n) (short : length m ≤ 28) where
  channel_parts : (y : Bool) (w : List Bool)
      → channel_bits y k (a ++ (w ++ z))
      ≡ channel_bits y k a ++ (channel_bits y (place_after (length a) k) w ++ channel_bits y (place_after (length w) (place_after (length a) k)) z)
  channel_parts y w =
      channel_of_append y k a (w ++ z)
      ∙ ap (λ (l : List Bool). channel_bits y k a ++ l) (channel_of_append y (place_after (length a) k) w z)

  channel_run : (y : Bool) → Run (share y k (length a)) 18 (channel_bits y k (a ++ (m ++ z))) (channel_bits y k (a ++ (n ++ z)))
  channel_run y =
      record {
        ahead = channel_bits y k a;
        one = channel_bits y (place_after (length a) k) m;
        other = channel_bits y (place_after (length a) k) n;
        behind = channel_bits y (place_after (length m) (place_after (length a) k)) z;
        first = channel_parts y m;
        second = rw equal (channel_parts y n);
        placed = channel_share y k a;
        equal = channel_length y (place_after (length a) k) m n equal;
        short = channel_window y (place_after (length a) k) m (place_after_lt (length a) k place) short;
      }

  -- a window of at most 28 bits
  pub window_in_channels : (m ≡ n → ⊥) → InChannels k (length a) (a ++ (m ++ z)) (a ++ (n ++ z))
  unfolding channel_run
  window_in_channels differ =
      record {
        c = channel_run false;
        y = channel_run true;
        shown = go (List-discrete Bool-discrete (channel_run false).one (channel_run false).other);
      }
    where
      go : Dec ((channel_run false).one ≡ (channel_run false).other)
          → ((channel_run false).one ≡ (channel_run false).other → ⊥) ⊎ ((channel_run true).one ≡ (channel_run true).other → ⊥)
      go (yes c) = inr (λ d. differ (channels_determine (place_after (length a) k) m n equal c d))
      go (no g) = inl g

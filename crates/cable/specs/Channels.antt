-- The channels' own bits in a stream.
use Rattle.std.specs.Prelude.{Bool, List, [], ◌∷◌, ℕ, suc, leb}
use Rattle.bits.specs.Choice.{if}
use Rattle.bits.specs.Bits.{◌⊕◌}

-- "Each sample pair is sent C word first, then Y": the words of C and of Y in turn
unfoldable pub paired : List ℕ → List ℕ → List ℕ
paired [] ys = []
paired (c ∷ cs) [] = []
paired (c ∷ cs) (y ∷ ys) = c ∷ y ∷ paired cs ys

-- the place in a pair, of twenty bits, after the place k
abbrev pub turn : ℕ → ℕ
turn k = if (leb 19 k) 0 (suc k)

-- the bits of one channel, of C or (true) of Y, in a stream whose first bit stands at place k of its pair
unfoldable pub channel_bits : Bool → ℕ → List Bool → List Bool
channel_bits y k [] = []
channel_bits y k (b ∷ bs) = if (leb k 9 ⊕ y) (b ∷ channel_bits y (turn k) bs) (channel_bits y (turn k) bs)

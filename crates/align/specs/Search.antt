-- The inner loop by which a sync is found. Of this file the session's recogniser takes `slid`; no other public contract cites it.
use Rattle.std.specs.Prelude.{Bool, List, [], ◌∷◌, ℕ, suc, ◌+◌, ◌-◌, ◌*◌, ◌/◌, eqb}
use Rattle.std.proofs.Common.{ControlFlow, Break, Continue}
use Rattle.bits.specs.Choice.{if}
use Rattle.bits.specs.Bits.{digit}

-- the last sixty bits as a number, oldest lowest, after one bit more
abbrev pub slid : ℕ → Bool → ℕ
slid last b = last / 2 + digit b * 0x800000000000000

-- the bit, counted from k, at which the last sixty first are a sync, or the last sixty when all bits are passed
unfoldable pub searched : ℕ → ℕ → List Bool → ControlFlow ℕ ℕ
searched k last [] = Continue last
searched k last (b ∷ bs) = if (eqb (slid last b) 0xfffff) (Break k) (searched (suc k) (slid last b) bs)

-- the place of a sync whose last bit is this bit of this word
abbrev pub place_ending : ℕ → ℕ → ℕ
place_ending word bit = word * 10 + bit - 59

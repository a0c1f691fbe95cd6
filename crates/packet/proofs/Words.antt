-- Laws of the words that are made: header words and checksums.
use mathlib.Core.Path.{◌≡◌, sym, ap, ◌∙◌}
use mathlib.Core.Bool.{false}
use mathlib.Core.List.{List, [], ◌∷◌, ◌++◌}
use Prim.Native.Nat.{ℕ, ◌+◌, ◌*◌, ◌%◌, ◌<◌}
use native.Mathlib.Omega.{arith}
use native.Mathlib.Nat.{add-mod}
use lib.Count.{ones}
use Rattle.bits.specs.Bits.{digit, bits, count, parity}
use Rattle.bits.specs.Words.{reserved_code, nine_of}
use Rattle.bits.proofs.Bits.{digit-odd}
use Rattle.bits.proofs.Ones.{ones_bits}
use Rattle.bits.proofs.Words.{nine_range, nine_low, nine_of_low, nine_not_reserved}
use Rattle.scan.specs.Packet.{sum_of, checksum_of}
use Rattle.packet.specs.Build.{header_word}

-- ---- header_word

-- the code's count of ones
pub header_counted : (b : ℕ) → b < 256 → nine_of (b + ones b % 2 * 256) ≡ header_word b
unfolding header_word
header_counted b h =
    let e : ones b % 2 ≡ digit (parity (bits 8 b)) = ap (λ (n : ℕ). n % 2) (ones_bits 8 b h) ∙ sym (digit-odd (count (bits 8 b))) in
    ap (λ (p : ℕ). nine_of (b + p * 256)) e

-- its low eight bits are the byte
pub header_low : (b : ℕ) → b < 256 → header_word b % 256 ≡ b
unfolding header_word
header_low b h = omega (arith, nine_low (b + digit (parity (bits 8 b)) * 256))

pub header_not_reserved : (b : ℕ) → reserved_code (header_word b) ≡ false
unfolding header_word
header_not_reserved b = nine_not_reserved (b + digit (parity (bits 8 b)) * 256)

-- ---- sum_of and checksum_of: range, and words in two parts

pub checksum_sum_fits : (vs ws : List ℕ) → checksum_of vs + checksum_of ws < 65536
unfolding checksum_of
checksum_sum_fits vs ws = omega (arith, nine_range (sum_of vs % 512), nine_range (sum_of ws % 512))

sum_of_append : (vs ws : List ℕ) → sum_of (vs ++ ws) ≡ sum_of vs + sum_of ws
unfolding sum_of
sum_of_append [] ws = omega arith
sum_of_append (v ∷ vs) ws = omega (arith, sum_of_append vs ws)

nine_of_sum : (a b : ℕ) → nine_of (nine_of a + nine_of b) ≡ nine_of (a + b)
nine_of_sum a b =
    let e : (nine_of a + nine_of b) % 512 ≡ (a + b) % 512 = rw (add-mod (nine_of a), nine_low a, nine_low b, ← add-mod a) in
    sym (nine_of_low (nine_of a + nine_of b)) ∙ ap nine_of e ∙ nine_of_low (a + b)

pub checksum_of_append : (vs ws : List ℕ) → checksum_of (vs ++ ws) ≡ nine_of (checksum_of vs + checksum_of ws)
unfolding checksum_of
checksum_of_append vs ws = rw (nine_of_low (sum_of (vs ++ ws)), nine_of_low (sum_of vs), nine_of_low (sum_of ws), nine_of_sum, sum_of_append)

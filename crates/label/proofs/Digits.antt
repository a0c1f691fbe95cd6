-- Laws of decimal: it is what the kit's library prints of a number, and how many digits there are.
use mathlib.Core.Path.{◌≡◌, sym}
use mathlib.Core.Bool.{Bool, true, false}
use mathlib.Core.List.{◌∷◌, [], ◌++◌}
use Prim.Native.Nat.{ℕ, zero, suc, ◌/◌, ◌%◌, ◌^◌, ◌≤◌, ◌<◌}
use native.Mathlib.Omega.{arith}
use lib.Dec.{ltb}
use lib.ListN.{length, length-append}
use borrow.Author.Tests.{lt-ltb, le-ltb}
use Rattle.std.specs.Fmt as fmt
use Rattle.std.proofs.lemmas.Fmt.{AppendsLastDigit, decimal_from_appends, length-decimal-le}
use Rattle.bits.specs.Choice.{if}
use Rattle.label.specs.Label.{decimal, decimal_in, digit}

digit_by_digit : AppendsLastDigit decimal_in
unfolding decimal_in
digit_by_digit = record { one = λ k n h. rw (lt-ltb n 10 h); more = λ k n h. rw (le-ltb n 10 h) }

pub decimal_printed : (n : ℕ) → n < 2 ^ 32 → fmt.decimal n ≡ decimal n
decimal_printed n h = sym (decimal_from_appends decimal_in digit_by_digit 10 n (omega arith) (length-decimal-le 10 n (omega arith) (omega arith) (omega arith)))

pub length_of_decimal_in : (k n : ℕ) → length (decimal_in k n) ≤ k
unfolding decimal_in
length_of_decimal_in zero n = omega arith
length_of_decimal_in (suc k) n = go (ltb n 10) (length_of_decimal_in k (n / 10))
  where
    go : (b : Bool) → length (decimal_in k (n / 10)) ≤ k → length (if b (digit n ∷ []) (decimal_in k (n / 10) ++ (digit (n % 10) ∷ []))) ≤ suc k
    go true h = omega arith
    go false h = omega (arith, length-append (decimal_in k (n / 10)) (digit (n % 10) ∷ []))

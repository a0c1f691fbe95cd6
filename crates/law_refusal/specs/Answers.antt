-- A call's number.
use Rattle.std.specs.Prelude.{◌≡◌, ℕ}

-- any number but "0: done"
abbrev pub Refused : ℕ → Type 0
Refused n = n ≡ 0 → ⊥

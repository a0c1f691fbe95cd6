-- Words cut out of words at another bit, and dealt out to two rows.
use Rattle.std.specs.Prelude.{List, ℕ, zero, suc, ◌+◌, ◌-◌, ◌*◌, ◌/◌, ◌%◌, ◌^◌, get_or, set}

-- ten bits of the word at a place and the next: so many of them are the first's, its highest
abbrev pub straddling : List ℕ → ℕ → ℕ → ℕ
straddling words at up = (get_or words at 0 + get_or words (at + 1) 0 * 1024) / 2 ^ (10 - up) % 1024

-- a row after pairs of words: the first of each pair (0) or the second (1), from a place on
abbrev pub dealt : List ℕ → ℕ → ℕ → ℕ → List ℕ → List ℕ
dealt words which from zero row = row
dealt words which from (suc k) row = set (dealt words which from k row) (from + k) (get_or words (2 * k + which) 0)

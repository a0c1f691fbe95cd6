-- Parts of a list of words: read, compared, overwritten.
use Rattle.std.specs.Prelude.{Bool, true, false, ◌||◌, ℕ, zero, suc, eqb, take, drop, set}
use mathlib.Core.List.{List, [], ◌∷◌, ◌++◌, flat_map}
use Rattle.bits.specs.Choice.{if}

-- from a place on, as many words as asked, or as many as there are
abbrev pub part : ℕ → ℕ → List ℕ → List ℕ
part from count ws = take count (drop from ws)

-- the list with that part changed by f
unfoldable pub in_part : ℕ → ℕ → (List ℕ → List ℕ) → List ℕ → List ℕ
in_part from count f ws = take from ws ++ (f (part from count ws) ++ drop count (drop from ws))

-- as many words, and each the same: "of all ten bits"
unfoldable pub same : List ℕ → List ℕ → Bool
same [] [] = true
same [] (w ∷ ws) = false
same (v ∷ vs) [] = false
same (v ∷ vs) (w ∷ ws) = if (eqb v w) (same vs ws) false

-- words laid from a place on; those that find no place are not laid
unfoldable pub laid : ℕ → List ℕ → List ℕ → List ℕ
laid at [] buffer = buffer
laid at (w ∷ ws) buffer = laid (suc at) ws (set buffer at w)

-- one of a list is such
unfoldable pub any : {A : Type 0} → (A → Bool) → List A → Bool
any p [] = false
any p (x ∷ xs) = p x || any p xs

-- lists one after the other: "whole packets end to end"
abbrev pub end_to_end : {A : Type 0} → List (List A) → List A
end_to_end ls = flat_map (λ l. l) ls

-- "A refusal .. changes no buffer": the words after a call that may be refused
abbrev pub unless_refused : ℕ → List ℕ → List ℕ → List ℕ
unless_refused zero after before = after
unless_refused (suc n) after before = before

-- "Beyond what a result fills, a buffer keeps what it held."
abbrev pub laid_unless : ℕ → List ℕ → List ℕ → List ℕ
laid_unless refusal result out = unless_refused refusal (laid 0 result out) out

-- A line as it is written, text after text.
use Rattle.std.specs.Prelude.{◌≡◌, List, ◌++◌, ℕ}
use Rattle.label.specs.declared.Label.{Label}
use Rattle.label.specs.Label.{boxed}

-- a line that has a text has more after it
abbrev pub Writes : Label → List ℕ → Label → Type 0
Writes l more m = (text : List ℕ) → l ≡ boxed text → m ≡ boxed (text ++ more)

-- The two steps down a cascade of tests, for `search cascade depth 12`.
use mathlib.Core.Path.{◌≡◌, refl}
use mathlib.Core.Bool.{Bool, true, false, not}
use borrow.Author.Tests.{lt-ltb, le-ltb, le-leb, lt-leb, eq-eqb, ne_eqb}
use Rattle.bits.specs.Choice.{if}

pub if_yes : {A : Type 0} (b : Bool) (r a x : A) → b ≡ true → r ≡ a → r ≡ if b a x
if_yes b r a x e h = rw e h

pub if_no : {A : Type 0} (b : Bool) (r a x : A) → b ≡ false → r ≡ x → r ≡ if b a x
if_no b r a x e h = rw e h

pub not-false : (b : Bool) → b ≡ false → not b ≡ true
not-false b e = rw e refl

pub not-true : (b : Bool) → b ≡ true → not b ≡ false
not-true b e = rw e refl

pub ruleset cascade = (if_yes, if_no, not-false, not-true, lt-ltb, le-ltb, le-leb, lt-leb, eq-eqb, ne_eqb)

-- Demand 3 (README), at the verdict: the changed stream fails, be it by a check code, or because the change broke a timing
-- code, made one, or moved the alignment.
use Rattle.std.specs.Prelude.{◌≡◌, Bool, true, false, List, [], ◌∷◌, ◌++◌, ℕ, ◌+◌, ◌-◌, ◌*◌, ◌≤◌, length}
use Rattle.bits.specs.Bits.{word_bits}
use Rattle.raster.specs.Table.{meant, raster_ok, raster_given, total_of}
use Rattle.recogniser.specs.Event.{opened}
use Rattle.judging.specs.declared.Happening.{Happening}
use Rattle.judging.specs.declared.Happening.TheVariants.{RowJudged}
use Rattle.law_burst.specs.Stretch.{crc_flagged}
use Rattle.tally.specs.declared.Verdict.TheVariants.{Fail}
use Rattle.stepper.specs.Step.{traced}
use Rattle.law_module.specs.Module.{listed, after_bits, bits_of, module_of}

-- what happens over bits that follow others
abbrev pub happenings_after : ℕ → List Bool → List Bool → List Happening
happenings_after code before bs = traced listed code (total_of code) bs (after_bits code before)

-- the words of a module, in whose unscrambled bits row k opens where `before` ends, is judged where `one` ends, and row k+1 where
-- `two` ends, judged with its CRC, and shows neither flag 3 nor 4
pub record TwoRows (code : ℕ) (ws : List ℕ) (before one two after : List Bool) : Type 0 where
  pub stream : bits_of ws ≡ before ++ (one ++ (two ++ after))
  pub long_one : length one ≡ 20 * total_of code
  pub long_two : length two ≡ 20 * total_of code
  pub opens : (after_bits code before).state.sight.place ≡ opened
  pub line : ℕ
  pub flags : ℕ
  pub known : Bool
  pub judged_one : happenings_after code before one ≡ RowJudged line flags known ∷ []
  pub line_two : ℕ
  pub flags_two : ℕ
  pub judged_two : happenings_after code (before ++ one) two ≡ RowJudged line_two flags_two true ∷ []
  pub right : crc_flagged flags_two ≡ false

-- "change one or more bits inside a run of at most eighteen cable bits, the run and the ten bits after it inside the
-- stretch", from row k's first active word to row k+1's second line number word: m becomes n.
-- Row k starts 80 bits before it opens.
unfoldable pub StruckFails : Type 0
StruckFails =
    (code : ℕ) (ws vs : List ℕ) (before one two after a m n z : List Bool)
    → raster_ok code ≡ true
    → TwoRows (meant code) ws before one two after
    → word_bits ws ≡ a ++ (m ++ z)
    → word_bits vs ≡ a ++ (n ++ z)
    → length m ≡ length n
    → length m ≤ 18
    → (m ≡ n → ⊥)
    → length before + 20 * (total_of (meant code) - (raster_given (meant code)).layout.active) ≤ 80 + length a
    → 80 + length a + length m + 10 ≤ length before + 20 * (total_of (meant code) + 6)
    → (module_of code vs).verdict ≡ Fail

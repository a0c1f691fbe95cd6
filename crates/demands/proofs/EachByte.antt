-- A byte is refused with the number of its first test that fails.
use mathlib.Core.Path.{◌≡◌, refl, ◌∙◌}
use mathlib.Core.Bool.{Bool, true, false, ◌||◌}
use Prim.Native.Nat.{ℕ}
use lib.Dec.{ltb, eqb}
use Rattle.bits.specs.Choice.{if}
use Rattle.raster.specs.Table.{raster_ok}
use Rattle.reader.specs.declared.Stage.{Stage}
use Rattle.reader.specs.declared.Stage.TheVariants.{TagCount, TagBytes, OptionsCount, RasterByte, WipeByte, WordCount, LowByte, HighByte, Stopped}
use Rattle.reader.specs.declared.Reader.{Reader}
use Rattle.reader.specs.Reader.{tag_size_ok, printable, options_size_ok, wipe_ok, word_of, word_ok, counted, of_tag_count, of_tag_byte, of_options_count, of_wipe_byte, of_word_count, of_high_byte, read_at}
use Rattle.refusal.specs.Refusal.{refusal_of}
use Rattle.demands.specs.Demands.{first_failed, byte_tests}
use Rattle.demands.proofs.Cases.{of_test, of_tests, of_either, of_any}

-- the count of words is never refused
no_refusal : (t : Bool) → if {A = ℕ} t 0 0 ≡ 0
no_refusal true = refl
no_refusal false = refl

pub each_byte : (s : Stage) (r : Reader) (b : ℕ) → refusal_of (read_at s r b) ≡ first_failed (byte_tests s r b)
unfolding first_failed of_tag_count of_tag_byte of_options_count of_wipe_byte of_word_count of_high_byte
each_byte TagCount r b = of_any refusal_of (ltb r.count.seen 3) (tag_size_ok (counted b r.count)) _ _ _ refl refl
each_byte TagBytes r b = of_test refusal_of (printable b) _ _
each_byte OptionsCount r b = of_any refusal_of (ltb r.count.seen 3) (options_size_ok (counted b r.count)) _ _ _ refl refl
each_byte RasterByte r b = refl
each_byte WipeByte r b = of_tests refusal_of (wipe_ok b) (raster_ok r.options.raster) _ _ _
each_byte WordCount r b =
    let waits = ltb r.count.seen 3 in
    let none = eqb (counted b r.count) 0 in
    of_any refusal_of waits none _ _ _ refl refl ∙ no_refusal (waits || none)
each_byte LowByte r b = refl
each_byte HighByte r b = of_either refusal_of (word_ok (word_of r.low b)) (ltb r.count.left 2) _ _ _ refl refl
each_byte Stopped r b = refl

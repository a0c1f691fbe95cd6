-- A lawful byte is not refused; a refused one stops the reader.
use mathlib.Core.Path.{◌≡◌, refl}
use mathlib.Core.Bool.{Bool, true, false, ◌||◌}
use Prim.Native.Nat.{ℕ, ◌<◌}
use native.Mathlib.Omega.{arith}
use Rattle.std.specs.Prelude.{Ok, Err}
use lib.Dec.{ltb, eqb}
use Rattle.bits.specs.Choice.{if}
use Rattle.bits.proofs.Choice.{false_not_true, and-true}
use Rattle.refusal.specs.Refusal.{refusal_of}
use Rattle.raster.specs.Table.{raster_ok}
use Rattle.reader.specs.declared.Stage.{Stage}
use Rattle.reader.specs.declared.Stage.TheVariants.{TagCount, TagBytes, OptionsCount, RasterByte, WipeByte, WordCount, LowByte, HighByte, Stopped}
use Rattle.reader.specs.declared.Reader.{Reader}
use Rattle.reader.specs.Reader.{Answer, counted, left_by, stopped, tag_size_ok, options_size_ok, wipe_ok, of_tag_count, of_tag_byte, of_options_count, of_wipe_byte, of_word_count, of_high_byte, read_at}
use Rattle.law_refusal.specs.Files.{lawful}

-- a test that leads to neither refusal, and a count before its end
either : (t : Bool) (x y : Answer) → refusal_of x ≡ 0 → refusal_of y ≡ 0 → refusal_of (if t x y) ≡ 0
either true x y ex ey = ex
either false x y ex ey = ey

counted_on : (t u : Bool) (x y z : Answer) → refusal_of x ≡ 0 → refusal_of y ≡ 0 → (t || u) ≡ true
    → refusal_of (if t x (if u y z)) ≡ 0
counted_on true u x y z ex ey e = ex
counted_on false true x y z ex ey e = ey
counted_on false false x y z ex ey e = absurd (false_not_true e)

pub lawful_read : (s : Stage) (r : Reader) (b : ℕ) → lawful s r b ≡ true → refusal_of (read_at s r b) ≡ 0
unfolding of_tag_count of_tag_byte of_options_count of_wipe_byte of_word_count of_high_byte
lawful_read TagCount r b ok = counted_on (ltb r.count.seen 3) (tag_size_ok (counted b r.count)) _ _ _ refl refl ok
lawful_read TagBytes r b ok = rw ok
lawful_read OptionsCount r b ok = counted_on (ltb r.count.seen 3) (options_size_ok (counted b r.count)) _ _ _ refl refl ok
lawful_read RasterByte r b ok = refl
lawful_read WipeByte r b ok = let both = and-true (wipe_ok b) (raster_ok r.options.raster) ok in rw (both.0, both.1)
lawful_read WordCount r b ok = either (ltb r.count.seen 3) _ _ refl (either (eqb (counted b r.count) 0) _ _ refl refl)
lawful_read LowByte r b ok = refl
lawful_read HighByte r b ok = rw ok (either (ltb r.count.left 2) _ _ refl refl)
lawful_read Stopped r b ok = refl

pub stops : (a : Answer) → 0 < refusal_of a → left_by a ≡ stopped
stops (Ok x) h = absurd (omega arith)
stops (Err refusal) h = refl

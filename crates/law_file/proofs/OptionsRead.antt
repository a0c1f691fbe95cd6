-- The options: their count, the raster, the choice to wipe. With the last of them a session begins.
use mathlib.Core.Path.{◌≡◌, refl}
use mathlib.Core.Bool.{true, false}
use mathlib.Core.List.{List}
use Prim.Native.Nat.{ℕ}
use Rattle.bits.specs.Choice.{if}
use Rattle.raster.specs.Table.{raster_ok}
use Rattle.session.specs.declared.Session.{Session}
use Rattle.std.specs.Prelude.{Result, Err}
use Rattle.refusal.specs.declared.Refusal.{Refusal}
use Rattle.refusal.specs.declared.Refusal.TheVariants.{BadFile}
use Rattle.session.specs.Session.{closed, begun, session_or}
use Rattle.reader.specs.declared.Stage.TheVariants.{OptionsCount, RasterByte, WipeByte, WordCount}
use Rattle.reader.specs.declared.Tag.{Tag}
use Rattle.reader.specs.declared.Options.{Options}
use Rattle.reader.specs.declared.Piece.TheVariants.{More}
use Rattle.reader.specs.declared.Read.{Read}
use Rattle.reader.specs.Reader.{options_size_ok, wipe_ok, count, options, reader, goes_on, brings, of_options_count, of_wipe_byte, read_of, is_cut}
use Rattle.desk.specs.declared.Outcome.{Outcome}
use Rattle.law_file.specs.File.{then, byte_read, options_of, options_read}
use Rattle.law_file.specs.Serving.{told_of}
use Rattle.law_file.proofs.Reading.{of_got, of_wrong, reads_then, reads_if}
use Rattle.law_file.proofs.Told.{Tells, at, byte_told, refused-told}
use Rattle.law_file.proofs.Counts.{count-told}

-- a desk after options, which are lawful
abbrev pub Chosen : List Outcome → ℕ → Tag → List ℕ → List ℕ → Options → List ℕ → Type 0
Chosen os low t y c o rest = (raster_ok o.raster ≡ true) × (os ≡ told_of rest (at WordCount (count 0 0) low t o (session_or closed (begun closed o.raster)) y c))

module _ {os : List Outcome} (low : ℕ) (t : Tag) (o : Options) (s : Session) (y c : List ℕ) where
  bytes_told : (bs : List ℕ) → os ≡ told_of bs (at RasterByte (count 0 0) low t o s y c)
      → Tells os (Chosen os low t y c) (then (byte_read bs) (λ raster q. then (byte_read q) (λ wipe r. options_of raster wipe r)))
  unfolding options_of read_of is_cut of_wipe_byte
  bytes_told bs e =
      reads_then (byte_told bs (at RasterByte (count 0 0) low t o s y c) refl e) λ raster q f.
      reads_then (byte_told q (at WipeByte (count 0 0) low t (options raster false) s y c) refl f) λ wipe rest g.
      reads_if (wipe_ok wipe)
      (λ u. reads_if (raster_ok raster) (λ v. of_got (v, rw (u, v) at g)) (λ v. of_wrong (refused-told 4 y c rest (rw (u, v) at g))))
      (λ u. of_wrong (refused-told 9 y c rest (rw u at g)))

  pub options-told : (bs : List ℕ) → os ≡ told_of bs (at OptionsCount (count 0 0) low t o s y c) → Tells os (Chosen os low t y c) (options_read bs)
  unfolding options_read read_of is_cut of_options_count
  options-told bs e =
      let whole : ℕ → Result Read Refusal = λ n. if (options_size_ok n) (brings More (goes_on (reader OptionsCount (count 0 0) low t o) RasterByte 0)) (Err BadFile) in
      reads_then (count-told OptionsCount low t o s y c whole (λ n b. refl) (λ seen. refl) bs (byte_told bs _ refl e)) λ n p f.
      reads_if (options_size_ok n) (λ u. bytes_told p (rw u at f.1)) (λ u. of_wrong (refused-told 9 y c p (rw u at f.1)))

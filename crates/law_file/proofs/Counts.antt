-- "its count, 32 bits little-endian": after four bytes it is there.
use mathlib.Core.Path.{◌≡◌, ap, ◌∙◌}
use mathlib.Core.Bool.{true}
use mathlib.Core.List.{List}
use Prim.Native.Nat.{ℕ, suc, ◌+◌, ◌*◌, ◌/◌}
use native.Mathlib.Omega.{arith}
use Rattle.std.specs.Prelude.{Result}
use Rattle.refusal.specs.declared.Refusal.{Refusal}
use Rattle.session.specs.declared.Session.{Session}
use Rattle.reader.specs.declared.Stage.{Stage}
use Rattle.reader.specs.declared.Count.{Count}
use Rattle.reader.specs.declared.Tag.{Tag}
use Rattle.reader.specs.declared.Options.{Options}
use Rattle.reader.specs.declared.Read.{Read}
use Rattle.reader.specs.Reader.{count, reader, counted, counting, read_of, cut_at, is_cut}
use Rattle.desk.specs.declared.Outcome.{Outcome}
use Rattle.law_file.specs.File.{little, byte_read, count_read}
use Rattle.law_file.proofs.Reading.{of_got, reads_then}
use Rattle.law_file.proofs.Told.{Tells, at, told_after, AfterByte, byte_told}

-- each byte pushes those before it down by eight places
count_shifts : (a b c d : ℕ) → (((0 / 256 + a * 0x1000000) / 256 + b * 0x1000000) / 256 + c * 0x1000000) / 256 + d * 0x1000000 ≡ little a b c d
count_shifts a b c d = omega arith

-- at a stage that counts, and does `whole` once the count is there
module _ (stage : Stage) (low : ℕ) (t : Tag) (o : Options) (s : Session) (y c : List ℕ) (whole : ℕ → Result Read Refusal)
    (counts : (n : Count) (b : ℕ) → read_of (reader stage n low t o) b ≡ counting (reader stage n low t o) b whole)
    (cuts : (seen : ℕ) → cut_at stage (suc seen) ≡ true) where
  pub count-told : {os : List Outcome} (bs : List ℕ) → Tells os (AfterByte os (at stage (count 0 0) low t o s y c)) (byte_read bs)
      → Tells os (λ n rest. (l : ℕ) × (os ≡ told_after (whole n) (at stage (count l 3) low t o s y c) rest)) (count_read bs)
  unfolding count_read is_cut
  count-told {os} bs first =
      reads_then first λ a p e.
      reads_then (byte_told p (at stage (count _ 1) low t o s y c) (cuts 0) (on (count 0 0) a p e)) λ b q f.
      reads_then (byte_told q (at stage (count _ 2) low t o s y c) (cuts 1) (on (count _ 1) b q f)) λ k r g.
      reads_then (byte_told r (at stage (count _ 3) low t o s y c) (cuts 2) (on (count _ 2) k r g)) λ d rest h.
      let l : ℕ = counted k (count (counted b (count (counted a (count 0 0)) 1)) 2) in
      of_got (l, on (count l 3) d rest h ∙ ap (λ n. told_after (whole n) (at stage (count l 3) low t o s y c) rest) (count_shifts a b k d))
    where
      on : (n : Count) (b : ℕ) (rest : List ℕ) → AfterByte os (at stage n low t o s y c) b rest
          → os ≡ told_after (counting (reader stage n low t o) b whole) (at stage n low t o s y c) rest
      on n b rest e = e ∙ ap (λ r. told_after r (at stage n low t o s y c) rest) (counts n b)

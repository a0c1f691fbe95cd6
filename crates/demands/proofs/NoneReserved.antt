-- No word that is made is a reserved code.
use mathlib.Core.Path.{ap, ◌∙◌}
use mathlib.Core.Bool.{true}
use mathlib.Core.List.{List}
use Prim.Native.Nat.{ℕ, ◌+◌, ◌*◌, ◌/◌, ◌%◌}
use lib.ListN.{length, drop}
use Rattle.bits.specs.Bits.{digit, bits, parity}
use Rattle.bits.specs.Words.{reserved_code}
use Rattle.bits.proofs.Words.{inverse_not_reserved, nine_inverse}
use Rattle.parts.specs.Parts.{any}
use Rattle.timing.proofs.Codes.{xyz_not_reserved}
use Rattle.scan.specs.Packet.{sum_of, checksum_of}
use Rattle.packet.specs.Build.{header_word}
use Rattle.packet.proofs.Refusals.{packet_free}
use Rattle.plan.specs.Plan.{plan_of}
use Rattle.law_row.specs.MadeWords.{made_words}
use Rattle.law_row.proofs.MadeWords.{row_free, correction_free}
use Rattle.demands.specs.Demands.{NoneReserved}
use Rattle.demands.proofs.BuiltPackets.{none_refused, built_whole}
use Rattle.demands.proofs.BuiltRows.{built_row_y, built_row_c}

pub none_reserved : NoneReserved
unfolding any checksum_of header_word
none_reserved =
    record {
      inverse = λ w i. rw (inverse_not_reserved w i.0 i.1);
      xyz = λ f v h. rw (xyz_not_reserved f v h);
      line_number = λ line. (nine_inverse (line % 128 * 4), nine_inverse (line / 128 % 16 * 4));
      crc = λ register. (nine_inverse register, nine_inverse (register / 512));
      checksum = λ ws. nine_inverse (sum_of ws % 512);
      header = λ byte. nine_inverse (byte + digit (parity (bits 8 byte)) * 256);
      packet = λ did sdid user out made.
          ap (λ (l : List ℕ). any reserved_code (drop 3 l)) (built_whole did sdid user out made)
          ∙ packet_free did user (length out) sdid (none_refused did sdid user out made);
      row = λ code line carry y_active c_active y_laid c_laid y c made.
          let p = plan_of code line in
          let free = row_free code line carry y_active c_active y_laid c_laid y c made in (
            ap (λ (l : List ℕ). any reserved_code (made_words p true l)) (built_row_y code line carry y_active c_active y_laid c_laid y c made) ∙ free.0,
            ap (λ (l : List ℕ). any reserved_code (made_words p true l)) (built_row_c code line carry y_active c_active y_laid c_laid y c made) ∙ free.1,
          );
      corrected = λ code line carry wipe y c done. correction_free code line carry wipe y c done;
    }

-- Demand 2.
use mathlib.Core.Path.{ap, ◌∙◌}
use Rattle.cable.proofs.Words.{unscramble_from_eleventh}
use Rattle.timing.specs.Xyz.{read_xyz}
use Rattle.timing.proofs.Codes.{xyz_read_of_build, xyz_build_of_read}
use Rattle.law_clean.proofs.Clean.{clean_passes}
use Rattle.law_clean.proofs.Short.{clean_passes_short}
use Rattle.law_clean.proofs.Window.{window_passes}
use Rattle.demands.specs.Demands.{FromTheEleventh, XyzReadBack, DemandTwo}
use Rattle.demands.proofs.Numbers.{numbers}
use Rattle.demands.proofs.FirstSync.{first_sync_holds}
use Rattle.demands.proofs.LineReadBack.{line_read_back}
use Rattle.demands.proofs.PacketRight.{packet_right}
use Rattle.demands.proofs.PacketFound.{packet-found}
use Rattle.demands.proofs.Coding.{unscrambled_back, calls_cut}
use Rattle.demands.proofs.BuiltNoFlag.{built_no_flag}
use Rattle.demands.proofs.RowExtracted.{row_extracted}
use Rattle.demands.proofs.CorrectedFlags.{corrected_flags}
use Rattle.demands.proofs.FeedsCut.{feeds_cut}
use Rattle.demands.proofs.NoneReserved.{none_reserved}

pub demand_two : DemandTwo
unfolding FromTheEleventh XyzReadBack
demand_two =
    record {
      numbers = numbers;
      eleventh = unscramble_from_eleventh;
      alignment = first_sync_holds;
      xyz = λ w f v h. (xyz_build_of_read w f v h, λ e. ap read_xyz e ∙ xyz_read_of_build f v h);
      line = line_read_back;
      packet_right = packet_right;
      packet-found = packet-found;
      unscrambled_back = unscrambled_back;
      calls_cut = calls_cut;
      built_no_flag = built_no_flag;
      row_extracted = row_extracted;
      corrected_flags = corrected_flags;
      feeds_cut = feeds_cut;
      none_reserved = none_reserved;
      clean_passes = clean_passes;
      clean_passes_short = clean_passes_short;
      window_passes = window_passes;
    }

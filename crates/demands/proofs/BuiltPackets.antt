-- A packet that is built, as it lies in its output.
use mathlib.Core.Path.{◌≡◌, refl, sym, ap, ◌∙◌}
use mathlib.Core.List.{List}
use Prim.Native.Nat.{ℕ, ◌+◌}
use lib.ListN.{length}
use Rattle.std.specs.Prelude.{Result, Ok}
use Rattle.std.specs.Result.{result_unwrap_or}
use Rattle.refusal.specs.declared.Refusal.{Refusal}
use Rattle.refusal.specs.Refusal.{refusal_of}
use Rattle.parts.specs.Parts.{part, laid_unless}
use Rattle.packet.specs.Build.{build_refusal, built, packet_of}
use Rattle.law_row.proofs.FoundPacket.{made_number, made_packet}
use Rattle.demands.specs.Demands.{built_packet}

module _ (did sdid : ℕ) (user out : List ℕ) (made : refusal_of (built did user (length out)) ≡ 0) where
  pub none_refused : build_refusal did user (length out) ≡ 0
  none_refused = sym (made_number did sdid user out refl) ∙ made

  pub built_done : built did user (length out) ≡ Ok (length user + 7)
  unfolding built
  built_done = rw none_refused

  pub built_size : built_packet did sdid user out
      ≡ part 0 (length user + 7) (laid_unless (build_refusal did user (length out)) (packet_of did sdid user) out)
  built_size =
      ap (λ (r : Result ℕ Refusal). part 0 (result_unwrap_or r 0) (laid_unless (build_refusal did user (length out)) (packet_of did sdid user) out))
      built_done

  pub built_whole : built_packet did sdid user out ≡ packet_of did sdid user
  built_whole = made_packet did sdid user out refl refl built_size built_done

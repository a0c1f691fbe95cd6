use mathlib.Core.Path.{◌≡◌, refl, sym, ap, ap₂, ◌∙◌}
use mathlib.Core.List.{List}
use Prim.Native.Nat.{ℕ}
use native.Mathlib.Omega.{arith}
use native.Mathlib.Nat.{zero-add}
use lib.ListN.{length}
use borrow.Author.Tests.{le-leb, lt-leb}
use Rattle.std.specs.Prelude.{Ok}
use Rattle.refusal.specs.Refusal.{refusal_numbered}
use Rattle.parts.specs.Parts.{laid}
use Rattle.scan.specs.Scan.{scan, packets_of}
use Rattle.region.specs.Ancillary.{ancillary}
use Rattle.finding.proofs.Extracting.{length_both, laid_both}
use Rattle.finding.proofs.extract_channel.Goals as goal
use Rattle.finding.proofs.extract_channel.Goals.{After-scan_packets}

counted : (c : After-scan_packets) → c.scan_packets.result.words ≡ length (packets_of (ancillary c.args.plan c.args.words.now))
counted c = ap (λ s. s.words) c.scan_packets.ensures

pub returns-then-out-scan_packets-clause-answer : goal.returns-then-out-scan_packets-clause-answer
unfolding refusal_numbered
returns-then-out-scan_packets-clause-answer c =
    rw (lt-leb _ _ (rw (counted (goal.at.returns-then-out-scan_packets-clause-answer c).After-scan_packets) at c.if-out-scan_packets.true))

pub copy_region-at-requires : goal.copy_region-at-requires
copy_region-at-requires c =
    let here = (goal.at.copy_region-at-requires c).After-scan_packets in
    omega (arith, c.if-out-scan_packets.false, counted here, length_both c.args.plan c.args.words.now _ _ c.part-blanking.ensures refl)

pub copy_region-requires : goal.copy_region-requires
copy_region-requires c =
    let here = (goal.at.copy_region-requires c).After-scan_packets in
    omega (
      arith,
      c.if-out-scan_packets.false,
      counted here,
      c.copy_region-at.ensures.answer,
      c.copy_region-at.auto.out,
      length_both c.args.plan c.args.words.now _ _ c.part-blanking.ensures c.active_region.ensures,
    )

pub returns : goal.returns
returns c =
    let at = c.args in
    let here = (goal.at.returns c).After-scan_packets in
    let room = le-leb (length (packets_of (ancillary at.plan at.words.now))) (length at.out.now) (rw (counted here) at c.if-out-scan_packets.false) in
    record {
      answer =
          rw (room, c.copy_region.ensures.answer, c.copy_region-at.ensures.answer, zero-add)
          (sym (ap Ok (length_both at.plan at.words.now _ _ c.part-blanking.ensures c.active_region.ensures)));
      buffer =
          rw room
          (c.copy_region.ensures.buffer
          ∙ ap₂ (λ (at : ℕ) (l : List ℕ). laid at (packets_of (scan c.active_region.result.now)) l) c.copy_region-at.ensures.answer c.copy_region-at.ensures.buffer
          ∙ sym (laid_both at.plan at.words.now _ _ c.part-blanking.ensures c.active_region.ensures at.out.now));
    }

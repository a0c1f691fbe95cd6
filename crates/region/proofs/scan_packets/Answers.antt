use native.Mathlib.Omega.{arith}
use Rattle.region.proofs.Regions.{ancillary-scanned, ancillary_words}
use Rattle.region.proofs.scan_packets.Goals as goal

pub overflow_add-result : goal.overflow_add-result
overflow_add-result c =
    omega (
      arith,
      ancillary_words c.args.plan c.args.words.now _ _ _ _ c.part.ensures c.scan-blanking.ensures
          c.active_region.ensures c.scan-active.ensures,
      c.well_formed.1,
    )

pub returns : goal.returns
returns c =
    ancillary-scanned c.args.plan c.args.words.now _ _ _ _ c.part.ensures c.scan-blanking.ensures
    c.active_region.ensures c.scan-active.ensures

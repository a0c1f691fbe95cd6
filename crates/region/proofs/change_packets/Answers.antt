use mathlib.Core.Path.{◌≡◌, sym, ap, ◌∙◌}
use Prim.Native.Nat.{◌+◌, ◌-◌}
use native.Mathlib.Omega.{arith}
use Rattle.parts.specs.Parts.{in_part}
use Rattle.parts.proofs.Inside.{length_part, part_between, put_in_part}
use Rattle.scan.proofs.Walk.{whole_found}
use Rattle.region.specs.Region.{change_piece, changed}
use Rattle.region.proofs.Pieces.{todo, todo_end, todo_next, todo_packet}
use Rattle.region.proofs.change_packets.Goals as goal

pub change-requires : goal.change-requires
change-requires g c =
    let t = whole_found c.loop-packet.region c.loop-packet.at _ c.in-Some.ensures.found in
    c.requires _ (t.size ∙ sym (length_part _ _ c.loop-packet.region t.room))

pub loop-packet-preserved : goal.loop-packet-preserved
loop-packet-preserved g c f by =
    let s = c.in-Some.packet.start in
    let n = c.in-Some.packet.end - s in
    let end : s + n ≡ c.in-Some.packet.end = omega (arith, c.in-Some.ensures.place) in
    let next = todo_next f c.loop-packet.region c.loop-packet.at _ c.in-Some.ensures.found in
    c.loop-packet.invariant f by ∙ next.0
    ∙ todo_packet f c.loop-packet.region s n c.change.new.arg2 next.1 (by _ _ c.change.ensures) (c.change.auto.arg2 ∙ length_part s n c.loop-packet.region next.1.room)
    ∙ ap (todo (change_piece f) _) end

pub returns : goal.returns
unfolding in_part
returns g c f by =
    let ws = c.args.words.now in
    let r = c.range-here.ensures in
    let end = todo_next f c.loop-packet.region c.loop-packet.at _ c.in_default.ensures.found in
    let all : changed f _ ≡ c.loop-packet.region = c.loop-packet.invariant f by ∙ end.2 ∙ todo_end (change_piece f) c.loop-packet.region end.0 end.1 in
    put_in_part c.args.from c.args.count ws r.start r.end c.loop-packet.region ∙ rw (← all, part_between c.args.from c.args.count ws r.start r.end)

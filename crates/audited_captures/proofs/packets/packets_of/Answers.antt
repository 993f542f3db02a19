use Rattle.std.proofs.Common.{rules, ◌≡◌, ◌<◌, [], List, length, slice_index_or, subst, sym, map}
use Rattle.audited_captures.{specs.Packets.{numbered_packet, ArePackets, None}, specs.declared.packets.CapturedPacket.{CapturedPacket}, proofs.PacketLaws.{next_packet}}
use Rattle.audited_captures.proofs.packets.packets_of.Goals as goal

pub loop-i-init : goal.loop-i-init
loop-i-init c = subst (λ (ps : List CapturedPacket). ArePackets c.args.unit [] (map numbered_packet ps)) (sym c.new-packets.ensures.items) None

pub loop-i-preserved : goal.loop-i-preserved
loop-i-preserved c =
    let items = c.args.capture.now.entries.items in
    let i = c.loop-i.i in
    let item = c.entry-item.result in
    let within : i < length items = search rules in
    let is : item ≡ slice_index_or items i item = search rules in
    next_packet c.args.unit items i item _ _ within is c.loop-i.invariant c.in_ok-add_packet.ensures

use Rattle.std.{proofs.Common.{List, map, subst, sym, ◌∙◌}, proofs.lemmas.List.{length-map}}
use Rattle.bus_captures.specs.Values.{entry_value}
use Rattle.audited_captures.{specs.Counts.{AreCounts}, specs.Lines.{line_value}, specs.Packets.{numbered_packet, AreFirst, ArePackets}, specs.declared.packets.CapturedPacket.{CapturedPacket}, proofs.TrafficLaws.{traffic_so}}
use Rattle.audited_captures.proofs.traffic_lines.traffic_lines.Goals as goal

pub returns : goal.returns
returns c =
    let firsts = c.in_ok-firsts.firsts in
    let packets = map numbered_packet c.in_ok-packets.packets.items in
    let entries = map entry_value c.args.capture.now.entries.items in
    let read = subst (λ n. ArePackets n entries packets) c.unit_of.ensures.unit c.in_ok-packets.ensures in
    let first = subst (λ (ps : List CapturedPacket). AreFirst (map numbered_packet ps) (map numbered_packet firsts.packets.items)) c.deref.ensures.value c.in_ok-firsts.ensures.first in
    let counts = subst (λ (ps : List CapturedPacket). AreCounts (map numbered_packet ps) firsts.counts.items) c.deref.ensures.value c.in_ok-firsts.ensures.counts in
    traffic_so c.args.checked.now.0 c.args.bus entries packets (map numbered_packet firsts.packets.items) (map line_value c.in_ok-lines.lines.items) c.len.result
    read first (c.in_ok-lines.ensures packets counts) (c.len.ensures ∙ c.in_ok-packets.packets.ok.0 ∙ sym (length-map c.in_ok-packets.packets.items numbered_packet))

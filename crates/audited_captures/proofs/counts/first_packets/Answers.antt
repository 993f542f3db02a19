use Rattle.std.{proofs.Common.{rules, ◌≡◌, ◌<◌, ◌≤◌, ◌+◌, [], List, ℕ, length, slice_index_or, slice_set, subst, sym, ap, ◌∙◌, map, take, arith}, proofs.lemmas.List.{length-map, length-take}}
use Rattle.audited_captures.{specs.Counts.{AreCounts, place_of}, specs.Packets.{numbered_packet, count_like, AreFirst}, specs.declared.packets.CapturedPacket.{CapturedPacket}, proofs.PacketLaws.{none_counted, next_counts, next_first, count_within}, proofs.WordLaws.{mapped_more}}
use Rattle.audited_captures.specs.Packets as packets
use Rattle.audited_captures.proofs.counts.first_packets.Goals as goal

few_enough : (held counted long i : ℕ) → held ≡ counted → counted ≤ long → long ≤ i → i < 18446744073709551615 → held < 18446744073709551615
few_enough held counted long i is most many fits = omega (arith, is, most, many, fits)

pub loop-packet-init : goal.loop-packet-init
loop-packet-init c = record {
  first = subst (λ (ps : List CapturedPacket). AreFirst [] (map numbered_packet ps)) (sym c.new-firsts.ensures.items) packets.None;
  counts = none_counted _ (c.in_ok-counts.ensures.items_if_clones_equal (λ y same. same));
}

pub loop-packet-preserved : goal.loop-packet-preserved
loop-packet-preserved c =
    let items = c.args.packets.now in
    let i = c.loop-packet.packet-index in
    let item = c.packet-item.result in
    let within : i < length items = search rules in
    let is : item ≡ slice_index_or items i item = search rules in
    let ps = map numbered_packet (take i items) in
    let source : item.source.value < 256 = search rules in
    let destination : item.destination.value < 256 = search rules in
    let counted : c.count-before.result ≡ count_like (numbered_packet item) ps =
    c.count-before.ensures.before ∙ c.loop-packet.invariant.counts.each item.source.value item.destination.value 0 source destination in
    record {
      first = next_first items i item c.loop-packet.firsts.items _ c.count-before.result within is c.loop-packet.invariant.first counted c.in_ok-add_if_first.ensures;
      counts = subst (λ qs. AreCounts qs c.count-before.new.counts.items) (sym (mapped_more numbered_packet items i item within is))
          (next_counts ps (numbered_packet item) c.loop-packet.counts.items _ source destination c.loop-packet.invariant.counts
          (c.count-before.ensures.counted ∙ ap (λ n. slice_set c.loop-packet.counts.items (place_of item.source.value item.destination.value) (n + 1)) counted));
    }

pub count-before-requires-clause-few : goal.count-before-requires-clause-few
count-before-requires-clause-few c =
    let items = c.args.packets.now in
    let i = c.loop-packet.packet-index in
    let item = c.packet-item.result in
    let within : i < length items = search rules in
    let ps = map numbered_packet (take i items) in
    let source : item.source.value < 256 = search rules in
    let destination : item.destination.value < 256 = search rules in
    let counted : slice_index_or c.loop-packet.counts.items (place_of item.source.value item.destination.value) 0 ≡ count_like (numbered_packet item) ps =
    c.loop-packet.invariant.counts.each item.source.value item.destination.value 0 source destination in
    let most : count_like (numbered_packet item) ps ≤ length ps = count_within item.source.value item.destination.value ps in
    let many : length ps ≤ i = omega (arith, length-map (take i items) numbered_packet, length-take i items) in
    let fits : i < 18446744073709551615 = search rules in
    few_enough _ _ _ i counted most many fits

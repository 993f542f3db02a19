use Rattle.std.{proofs.Common.{rules, ◌≡◌, ◌<◌, ◌≤◌, [], List, length, slice_index_or, subst, sym, ap, ◌∙◌, map}, proofs.lemmas.List.{map-append, take_all}}
use Rattle.audited_captures.{specs.Lines.{line_value}, specs.Packets.{numbered_packet}, specs.TrafficLines.{AreLinesOf, AreTrafficLines, Empty}, specs.declared.lines.Line.{Line}, specs.declared.packets.CapturedPacket.{CapturedPacket}, proofs.TrafficLaws.{next_lines}}
use Rattle.audited_captures.proofs.traffic_lines.lines_of_firsts.Goals as goal

pub loop-first-init : goal.loop-first-init
loop-first-init c =
    λ packets counted. subst (λ (ls : List Line). AreTrafficLines c.args.checked.now.0 c.args.bus packets [] (map line_value ls)) (sym c.new-lines.ensures.items) Empty

pub loop-first-preserved : goal.loop-first-preserved
loop-first-preserved c =
    let plan = c.args.checked.now.0 in
    let items = c.args.firsts.now.packets.items in
    let i = c.loop-first.first-index in
    let item = c.first-item.result in
    let within : i < length items = search rules in
    let is : item ≡ slice_index_or items i item = search rules in
    let old = c.loop-first.lines.items in
    let more = c.in_ok-more.more.items in
    λ packets counted.
    (let of_one = subst (λ n. AreLinesOf plan c.args.bus (numbered_packet item) n (map line_value more)) (c.count_like.ensures packets counted) c.in_ok-more.ensures in
    next_lines plan c.args.bus packets items i item (map line_value old) (map line_value more) _ within is (c.loop-first.invariant packets counted) of_one
    (ap (map line_value) c.in_ok-append.ensures.items ∙ map-append line_value old more))

pub returns : goal.returns
returns c =
    let items = c.args.firsts.now.packets.items in
    let i = c.loop-first.first-index in
    let past : length items ≤ i = search rules in
    λ packets counted.
    subst (λ (ps : List CapturedPacket). AreTrafficLines c.args.checked.now.0 c.args.bus packets (map numbered_packet ps) (map line_value c.loop-first.lines.items))
    (take_all i items past) (c.loop-first.invariant packets counted)

use Rattle.std.{proofs.Common.{◌≡◌, ◌++◌, ◌∙◌, ap, map, List}, proofs.lemmas.List.{map-append}}
use Rattle.mctp_control.specs.RouteEntries.{entry_value}
use Rattle.audited_captures.{specs.Lines.{line_value}, specs.Readings.{part_value}, specs.declared.readings.Part.{Part}, specs.Routes.{begun_lines}, proofs.RouteLaws.{next_begun}}
use Rattle.audited_captures.proofs.routes.readings_lines.Goals as goal

pub loop-i-preserved : goal.loop-i-preserved
loop-i-preserved c =
    let name = c.args.name.now in
    let planned = map entry_value c.args.planned.now in
    let old = c.loop-i.lines.items in
    let more = c.in_ok-more.more.items in
    let joined : map line_value c.append.new.self.items ≡ map line_value old ++ map line_value more = ap (map line_value) c.in_ok-append.ensures.items ∙ map-append line_value old more in
    let begins = c.in_ok-more.ensures ∙ ap (λ (left : List Part). begun_lines name planned (map part_value left)) c.from_place.ensures in
    next_begun name planned c.args.parts.now c.loop-i.i (map line_value old) _ (map line_value more) _ c.loop-i-test.true c.loop-i.invariant begins joined

use Rattle.std.{proofs.Common.{◌≡◌, ◌++◌, map, subst, List}, specs.Borrow.{Bor}}
use Rattle.mctp_control.{specs.RouteEntries.{entry_value}, specs.declared.route_entry.RouteEntry.{RouteEntry}}
use Rattle.audited_captures.{specs.Lines.{line_value}, specs.Turns.{entry_values}, specs.Routes.{lines_if_extra}, proofs.RouteLaws.{next_extra}}
use Rattle.audited_captures.proofs.routes.extra_lines.Goals as goal

pub loop-i-preserved : goal.loop-i-preserved
loop-i-preserved c =
    let name = c.args.name.now in
    let planned = map entry_value c.args.planned.now in
    let old = map line_value c.loop-i.lines.items in
    let new = map line_value c.add_extra.new.lines.items in
    let f = c.index-found-i.result in
    let added = subst (λ (later : List (Bor RouteEntry)). new ≡ old ++ lines_if_extra name planned (entry_value f.now) (entry_values later)) c.from_place-later.ensures c.in_ok-add_extra.ensures in
    next_extra name planned c.args.found.now c.loop-i.i f old new _ c.loop-i-test.true c.index-found-i.is c.loop-i.invariant added

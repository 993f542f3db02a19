use Rattle.std.{proofs.Common.{rules, ◌≡◌, List, subst, map}, specs.Prelude.{IfOk, Some, slice_get}, specs.Borrow.{Bor}}
use Rattle.mctp_control.{specs.RouteEntries.{entry_value}, specs.declared.route_entry.RouteEntry.{RouteEntry}}
use Rattle.audited_captures.{specs.Lines.{LineValue, line_value}, specs.Turns.{entry_values}, specs.Readings.{Read, part_value, read_from}, specs.Routes.{reading_lines}, proofs.RouteLaws.{begun}}
use Rattle.audited_captures.proofs.routes.begun_lines.Goals as goal

pub returns-in-Read : goal.returns-in-Read
returns-in-Read c =
    let name = c.args.name.now in
    let planned = map entry_value c.args.planned.now in
    let parts = c.args.parts.now in
    let first = c.in-Some.first.now in
    let found = entry_values c.in-Read.found.items in
    let at : slice_get parts 0 ≡ Some first = search rules in
    let zero : first.handle ≡ 0 = search rules in
    let reads : read_from first.requester.value 0 (map part_value parts) ≡ Read found = search rules in
    let lines = subst (λ (items : List (Bor RouteEntry)). IfOk c.reading_lines.result (λ ls. map line_value ls.items ≡ reading_lines name planned (Read (entry_values items)))) c.deref.ensures.value c.reading_lines.ensures in
    subst (λ (told : List LineValue). IfOk c.reading_lines.result (λ ls. map line_value ls.items ≡ told)) (begun name planned parts first found at zero reads) lines

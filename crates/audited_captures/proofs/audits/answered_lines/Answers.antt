use Rattle.std.proofs.Common.{◌≡◌, ◌∙◌, ap, map}
use Rattle.mctp_control.specs.RouteEntries.{entry_value}
use Rattle.plan_values.specs.NodeValues.{name_bytes}
use Rattle.audited_captures.{specs.Exchanges.{exchange_value}, specs.Answers.{answer_values}, specs.Lines.{line_value}, specs.Readings.{part_value, parts_of}, specs.Routes.{routes_lines}, specs.Identities.{answers_of, eid_lines, pool_lines, first_of, size_of, kind_number}, proofs.AuditLaws.{joined}}
use Rattle.audited_captures.proofs.audits.answered_lines.Goals as goal

pub returns : goal.returns
returns c =
    let node = c.args.node.now in
    let name = name_bytes node.name in
    let xs = map exchange_value c.args.exchanges.now in
    let named : c.as_str-name.result.now ≡ name = c.as_str-name.ensures.value in
    let planned = map entry_value c.args.planned.now in
    let routes : map line_value c.in_ok-lines.lines.items ≡ routes_lines name planned (parts_of node.eid.value xs) =
    c.in_ok-lines.ensures ∙ ap (λ n. routes_lines n planned (map part_value c.deref.result.now)) named
    ∙ ap (λ parts. routes_lines name planned (map part_value parts)) c.deref.ensures.value
    ∙ ap (λ parts. routes_lines name planned parts) c.in_ok-parts.ensures in
    let eid : map line_value c.in_ok-identity.identity.items ≡ eid_lines name node.eid.value (kind_number node.kind) (answers_of node.eid.value xs) =
    c.in_ok-identity.ensures ∙ ap (λ n. eid_lines n node.eid.value (kind_number node.kind) (answer_values c.args.answers.now)) named
    ∙ ap (λ answers. eid_lines name node.eid.value (kind_number node.kind) answers) c.requires in
    let pool : map line_value c.in_ok-pool.pool.items ≡ pool_lines name (first_of node.pool) (size_of node.pool) (answers_of node.eid.value xs) =
    c.in_ok-pool.ensures ∙ ap (λ n. pool_lines n (first_of node.pool) (size_of node.pool) (answer_values c.args.answers.now)) named
    ∙ ap (λ answers. pool_lines name (first_of node.pool) (size_of node.pool) answers) c.requires in
    joined c.in_ok-lines.lines.items c.in_ok-identity.identity.items c.in_ok-pool.pool.items _ _ _ _ _ c.in_ok-append.ensures.items c.in_ok-append-2.ensures.items routes eid pool

use Rattle.std.{proofs.Common.{sym, subst, ap, ◌∙◌, length, map}, proofs.lemmas.List.{length-map}}
use Rattle.bus_captures.specs.Values.{entry_value}
use Rattle.plan_values.specs.declared.plan.Plan.{Plan}
use Rattle.pdr_repository.specs.Records.{entries}
use Rattle.audited_captures.{specs.Audits.{HasTables, AreBeside}, specs.Lines.{line_value}, specs.Repositories.{repository_values}, proofs.AuditLaws.{audited_so}, proofs.CheckedPlans.{has_tables}}
use Rattle.audited_captures.proofs.audits.audited.Goals as goal

pub lines_of_capture-requires-clause-tables : goal.lines_of_capture-requires-clause-tables
lines_of_capture-requires-clause-tables c =
    subst (λ (plan : Plan). HasTables plan) (sym c.plan.ensures.plan) (has_tables c.args.checked.now.0 c.args.checked.now.1 c.plan.ensures.accepted)

pub lines_of_capture-requires-clause-stored : goal.lines_of_capture-requires-clause-stored
lines_of_capture-requires-clause-stored c =
    sym (length-map c.args.repositories.now (λ records. entries records.items)) ∙ c.requires.as_many ∙ ap (λ (plan : Plan). length plan.nodes.items) (sym c.plan.ensures.plan)

pub returns : goal.returns
returns c =
    let plan = c.args.checked.now.0 in
    let rs = repository_values c.args.repositories.now in
    let captured = map entry_value c.args.capture.now.entries.items in
    let told = c.in_ok-told.told in
    let beside = subst (λ (plan : Plan). AreBeside plan c.args.is_complete rs captured (map line_value told.lines.items) told.count) c.plan.ensures.plan c.in_ok-told.ensures in
    let nodes = c.len.ensures ∙ c.plan-2.result.now.nodes.ok.0 ∙ ap (λ (plan : Plan). length plan.nodes.items) c.plan-2.ensures.plan in
    audited_so plan c.args.checked.now.1 c.args.bus c.args.is_complete rs captured told.lines.items c.in_ok-traffic.traffic.lines.items c.in_ok-refused.refused.lines.items c.append.new.self.items
    c.append-2.new.self.items _ c.requires beside c.in_ok-traffic.ensures c.in_ok-refused.ensures c.in_ok-append.ensures.items c.in_ok-append-2.ensures.items nodes

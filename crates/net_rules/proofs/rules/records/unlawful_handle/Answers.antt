use Rattle.std.proofs.Common.{true, false, ◌≡◌}
use Rattle.net_tables.specs.Repositories.{records_of, HasRecords, HasNewHandle}
use Rattle.net_rules.proofs.RecordSpots.{node_or_items_fail, node_or_record_spot}
use Rattle.net_rules.proofs.rules.records.unlawful_handle.Goals as goal

pub returns-then-not-has_records : goal.returns-then-not-has_records
returns-then-not-has_records c =
    let records = records_of c.args.plan.now c.args.node in
    rw c.at_node.ensures
    (node_or_items_fail (HasRecords c.args.plan.now c.args.node) records (HasNewHandle records) (λ has. let there : false ≡ true = c.if-not-has_records.ensures.1 has in absurd (cc)))

pub returns : goal.returns
returns c =
    node_or_record_spot (HasRecords c.args.plan.now c.args.node) (records_of c.args.plan.now c.args.node) c.records_at.result.now HasNewHandle c.in_ok-found.found c.at_found.result
    (c.has_records.ensures.0 c.if-not-has_records.false) c.records_at.ensures c.in_ok-found.ensures c.at_found.ensures

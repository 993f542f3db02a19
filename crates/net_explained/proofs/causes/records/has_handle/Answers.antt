use Rattle.std.proofs.Common.{◌≡◌}
use Rattle.plan_values.specs.declared.terminus.PlannedRecord.{PlannedRecord}
use Rattle.net_tables.specs.Repositories.{records_of}
use Rattle.net_explained.proofs.Items.{item_tells}
use Rattle.net_explained.proofs.causes.records.has_handle.Goals as goal

pub returns-in-Some : goal.returns-in-Some
returns-in-Some c =
    item_tells (records_of c.args.plan.now c.args.node) c.args.index (λ (r : PlannedRecord). r.handle ≡ c.args.handle) c.in-Some.listed.now c.is_of.result c.in-Some.ensures c.is_of.ensures

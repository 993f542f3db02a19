use Rattle.std.{proofs.Common.{List, subst, sym}, proofs.lemmas.Bool.{le-leb}}
use Rattle.plan_values.specs.declared.terminus.PlannedRecord.{PlannedRecord}
use Rattle.net_tables.{specs.Routing.{OfItem}, specs.Repositories.{records_of, HasNewHandle}}
use Rattle.net_rules.proofs.EntryLaws.{of_nothing}
use Rattle.net_rules.proofs.all_faults.records.is_handle_new.Goals as goal

pub returns-else-index-records : goal.returns-else-index-records
returns-else-index-records c =
    let i = c.args.index in
    let B : List PlannedRecord → Type 0 = λ records. OfItem records i (HasNewHandle records i) in
    let same = c.records_at-records.ensures in
    (λ yes. subst B same (c.has_new_handle.ensures.0 yes), λ of. c.has_new_handle.ensures.1 (subst B (sym same) of))

pub returns-then-index-records : goal.returns-then-index-records
returns-then-index-records c =
    let records = records_of c.args.plan.now c.args.node in
    (λ _. of_nothing c.records_at-records.result.now records c.args.index (HasNewHandle records c.args.index) c.records_at-records.ensures c.if-index-records.true, λ _. le-leb _ _ c.if-index-records.true)

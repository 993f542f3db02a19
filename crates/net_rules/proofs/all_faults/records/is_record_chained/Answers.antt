use Rattle.std.{proofs.Common.{ℕ, List, sym, subst}, proofs.lemmas.Bool.{le-leb}}
use Rattle.plan_values.specs.declared.terminus.PlannedRecord.{PlannedRecord}
use Rattle.net_tables.{specs.Routing.{OfItem}, specs.Repositories.{records_of, places_of, IsChained}}
use Rattle.net_rules.proofs.EntryLaws.{of_nothing}
use Rattle.net_rules.proofs.all_faults.records.is_record_chained.Goals as goal

pub returns-else-index-records : goal.returns-else-index-records
returns-else-index-records c =
    let i = c.args.index in
    let same = c.records_at-records.ensures in
    let given = c.places_at-places.ensures in
    let B : List PlannedRecord → Type 0 = λ records. OfItem records i (IsChained records (places_of c.args.certificate.now c.args.node) i) in
    let P : List ℕ → Type 0 = λ places. OfItem c.records_at-records.result.now i (IsChained c.records_at-records.result.now places i) in
    (λ yes. subst B same (subst P given (c.is_chained.ensures.0 yes)), λ of. c.is_chained.ensures.1 (subst P (sym given) (subst B (sym same) of)))

pub returns-then-index-records : goal.returns-then-index-records
returns-then-index-records c =
    let records = records_of c.args.plan.now c.args.node in (
      λ _. of_nothing c.records_at-records.result.now records c.args.index (IsChained records (places_of c.args.certificate.now c.args.node) c.args.index) c.records_at-records.ensures
          c.if-index-records.true,
      λ _. le-leb _ _ c.if-index-records.true,
    )

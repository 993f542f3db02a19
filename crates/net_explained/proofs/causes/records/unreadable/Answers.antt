use Rattle.std.{proofs.Common.{◌≡◌, ◌≢◌, ℕ, List, refl, sym, subst}, specs.Prelude.{◌↔◌}}
use Rattle.plan_values.specs.declared.terminus.PlannedRecord.{PlannedRecord}
use Rattle.pdr_repository.specs.Records.{IsRecordOf}
use Rattle.net_tables.specs.Repositories.{records_of}
use Rattle.net_explained.{specs.Causes.{AreNoRecordFor}, proofs.Items.{of_item, not_of_item}}
use Rattle.net_explained.proofs.causes.records.unreadable.Goals as goal

pub returns-in-Ok : goal.returns-in-Ok
returns-in-Ok c =
    let r = c.in-Some.listed.now in
    let told = subst (λ (b : List ℕ). (other : ℕ) → IsRecordOf other b ↔ (other ≡ c.in-Ok.handle)) c.deref.ensures.value c.in-Ok.ensures in
    of_item (records_of c.args.plan.now c.args.node) c.args.index (λ (r : PlannedRecord). IsRecordOf r.handle r.bytes.items) r c.in-Some.ensures ((told r.handle).1 (sym c.if-handle-listed.true))

pub returns-in-Ok-2 : goal.returns-in-Ok-2
returns-in-Ok-2 c =
    let r = c.in-Some.listed.now in
    let handle = c.in-Ok.handle in
    let told = subst (λ (b : List ℕ). (other : ℕ) → IsRecordOf other b ↔ (other ≡ handle)) c.deref.ensures.value c.in-Ok.ensures in
    let apart : r.handle ≢ handle = λ same. c.if-handle-listed.false (sym same) in (
      (refl, (r, sym c.in-Some.ensures, (apart, (told handle).1 refl))),
      not_of_item (records_of c.args.plan.now c.args.node) c.args.index (λ (r : PlannedRecord). IsRecordOf r.handle r.bytes.items) r c.in-Some.ensures (λ is. apart ((told r.handle).0 is)),
    )

pub returns-in-Err : goal.returns-in-Err
returns-in-Err c =
    let r = c.in-Some.listed.now in
    let none = subst (λ (b : List ℕ). AreNoRecordFor c.in-Err.why b) c.deref.ensures.value c.in-Err.ensures in (
      (refl, (r, sym c.in-Some.ensures, none)),
      not_of_item (records_of c.args.plan.now c.args.node) c.args.index (λ (r : PlannedRecord). IsRecordOf r.handle r.bytes.items) r c.in-Some.ensures (λ is. none.0 is.0 is.1),
    )

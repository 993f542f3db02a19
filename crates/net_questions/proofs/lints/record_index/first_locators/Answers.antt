use Rattle.std.{proofs.Common.{◌≡◌, List, length, Some, refl, sym, ◌∙◌, ap, subst, arith, rules}, specs.Prelude.{slice_get}, proofs.lemmas.Option.{slice_get_read}}
use Rattle.plan_values.specs.declared.terminus.PlannedRecord.{PlannedRecord}
use Rattle.net_questions.{specs.Sensors.{IsLocatorOf}, proofs.FirstNoted.{first_of_none, record_more, first_of_all}}
use Rattle.net_questions.proofs.lints.record_index.first_locators.Goals as goal

pub loop-at-init : goal.loop-at-init
loop-at-init c = first_of_none IsLocatorOf c.args.plan.now c.args.node c.new-first.result (λ number. search rules)

pub loop-at-preserved : goal.loop-at-preserved
loop-at-preserved c =
    let records = c.records_at-records.result.now in
    let x = c.index-records-at.result in
    let there : slice_get records c.loop-at.at ≡ Some x = slice_get_read records (length records) c.loop-at.at x refl (omega (arith, c.loop-at-test.true)) c.index-records-at.is in
    record_more IsLocatorOf c.args.plan.now c.args.node c.loop-at.at _ _ x c.deref.result.now c.loop-at.invariant
    (subst (λ (xs : List PlannedRecord). slice_get xs c.loop-at.at ≡ Some x) c.records_at-records.ensures there) (c.deref.ensures.value ∙ ap (λ (z : PlannedRecord). z.bytes.items) (sym c.index-records-at.is)) c.locator_handle.result c.locator_handle.ensures.found c.locator_handle.ensures.all c.in_ok-note.ensures

pub returns : goal.returns
returns c =
    first_of_all IsLocatorOf c.args.plan.now c.args.node c.loop-at.at c.loop-at.first (omega (arith, c.loop-at-test.false, ap length c.records_at-records.ensures)) c.loop-at.invariant

use Rattle.std.{proofs.Common.{◌≡◌, List, length, Some, refl, ap, subst, arith, rules}, specs.Prelude.{slice_get}, proofs.lemmas.Option.{slice_get_read}}
use Rattle.plan_values.specs.declared.terminus.PlannedRecord.{PlannedRecord}
use Rattle.net_questions.proofs.Contained.{contained_of_none, contained_more, contained_of_all}
use Rattle.net_questions.proofs.lints.record_index.contained_entities.Goals as goal

pub loop-listed-init : goal.loop-listed-init
loop-listed-init c = contained_of_none c.args.plan.now c.args.node c.new-contained.result (λ k. search rules)

pub loop-listed-preserved : goal.loop-listed-preserved
loop-listed-preserved c =
    let records = c.records_at-records.result.now in
    let x = c.listed-item.result in
    let there : slice_get records c.loop-listed.listed-index ≡ Some x = slice_get_read records (length records) c.loop-listed.listed-index x refl (omega arith) c.listed-item.is in
    contained_more c.args.plan.now c.args.node c.loop-listed.listed-index c.loop-listed.contained c.note_contained.new.contained x c.deref.result.now c.loop-listed.invariant
    (subst (λ (xs : List PlannedRecord). slice_get xs c.loop-listed.listed-index ≡ Some x) c.records_at-records.ensures there)
    c.deref.ensures.value c.in_ok-note_contained.ensures

pub returns : goal.returns
returns c =
    contained_of_all c.args.plan.now c.args.node c.loop-listed.listed-index c.loop-listed.contained (omega (arith, ap length c.records_at-records.ensures)) c.loop-listed.invariant

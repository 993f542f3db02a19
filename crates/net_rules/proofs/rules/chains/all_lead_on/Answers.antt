use Rattle.std.{proofs.Common.{◌≡◌, Some, length, sym, ◌∙◌, subst, arith, rules, refl}, specs.Prelude.{slice_get}, proofs.lemmas.Option.{slice_get_read, slice_get_within, same_Some}}
use borrow.Author.Count.{below_more}
use Rattle.plan_values.specs.declared.terminus.PlannedRecord.{PlannedRecord}
use Rattle.net_tables.{specs.Routing.{OfItem}, specs.Repositories.{IsChained}}
use Rattle.net_rules.{proofs.Handles.{values, value_of_place}, proofs.Filed.{filed_chained}}
use Rattle.net_rules.proofs.rules.chains.all_lead_on.Goals as goal

pub loop-j-preserved : goal.loop-j-preserved
loop-j-preserved c =
    let records = c.args.records.now in
    let places = c.args.places.now in
    let j = c.loop-j.j in
    let r = c.index-records-j.result in
    let p = c.in-Some.place.now in
    let here : slice_get records j ≡ Some r = slice_get_read records (length records) j r (search rules) (omega arith) c.index-records-j.is in
    let given : slice_get places j ≡ Some p = let look = c.in-Some.ensures.lookup in slice_get_read places (length places) j p refl look.3.0 look.1 in
    below_more (λ k. OfItem records k (IsChained records (values places) k)) j c.loop-j.invariant (λ item is.
    let one : r ≡ item = same_Some r item (sym here ∙ is) in
    let N : PlannedRecord → Type 0 = IsChained records (values places) j in
    subst N one (filed_chained records (values places) c.args.handles.now c.requires j p.value r here (value_of_place places j p given) (c.is_followed_by.ensures.0 c.if-not-is_followed_by.false)))

pub returns : goal.returns
returns c = λ _ k item is. c.loop-j.invariant k (let within = slice_get_within c.args.records.now k item is in omega arith) item is

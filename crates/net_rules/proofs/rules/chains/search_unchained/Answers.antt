use Rattle.std.{proofs.Common.{◌≡◌, ◌≤◌, Some, length, refl, sym, ◌∙◌, subst, arith, rules}, specs.Prelude.{slice_get}, proofs.lemmas.Option.{slice_get_read, slice_get_within, same_Some}}
use borrow.Author.Count.{below_more}
use Rattle.plan_values.specs.declared.terminus.PlannedRecord.{PlannedRecord}
use Rattle.net_tables.{specs.Routing.{OfItem}, specs.Repositories.{IsChained}}
use Rattle.net_rules.{proofs.Handles.{values, value_of_place, has_one_more, missed, had, is_chained, not_given, not_new, not_led_on}, proofs.rules.chains.search_unchained.Goals.{then-not-is_new-via-then-not-is_new, then-not-is_new-via-else-not-is_new+then-not-leads_on}}
use Rattle.net_rules.proofs.rules.chains.search_unchained.Goals as goal

pub returns-in_default : goal.returns-in_default
returns-in_default c =
    let records = c.args.records.now in
    let places = c.args.places.now in
    let j = c.loop-j.j in
    let r = c.index-records-j.result in
    let here : slice_get records j ≡ Some r = slice_get_read records (length records) j r (search rules) (omega arith) c.index-records-j.is in
    let past : length places ≤ j = search rules in
    (λ all. not_given records places c.in_ok-handles.handles c.in_ok-handles.ensures j r past (all r here), c.loop-j.invariant.earlier)

pub returns-then-not-is_new : goal.returns-then-not-is_new
returns-then-not-is_new c =
    let records = c.args.records.now in
    let places = c.args.places.now in
    let handles = c.in_ok-handles.handles in
    let j = c.loop-j.j in
    let r = c.index-records-j.result in
    let p = c.in-Some.place.now in
    let here : slice_get records j ≡ Some r = slice_get_read records (length records) j r (search rules) (omega arith) c.index-records-j.is in
    let given : slice_get places j ≡ Some p = let look = c.in-Some.ensures.lookup in slice_get_read places (length places) j p refl look.3.0 look.1 in
    let broken : ¬ IsChained records (values places) j r = elim c.then-not-is_new.branch [
      | then-not-is_new-via-then-not-is_new w ↦
          not_new records places handles c.in_ok-handles.ensures j r p c.loop-j.taken given c.loop-j.invariant.has (had _ c.in_ok-is_new.is_new c.in_ok-is_new.ensures.added w.if-not-is_new.true)
      | then-not-is_new-via-else-not-is_new+then-not-leads_on w ↦
          not_led_on records places handles c.in_ok-handles.ensures j r p given (λ leads. let on = w.leads_on.ensures.1 leads in let off = w.if-not-leads_on.true in absurd (cc))
    ] in
    (λ all. broken (all r here), c.loop-j.invariant.earlier)

pub loop-j-preserved : goal.loop-j-preserved
loop-j-preserved c =
    let records = c.args.records.now in
    let places = c.args.places.now in
    let handles = c.in_ok-handles.handles in
    let j = c.loop-j.j in
    let r = c.index-records-j.result in
    let p = c.in-Some.place.now in
    let here : slice_get records j ≡ Some r = slice_get_read records (length records) j r (search rules) (omega arith) c.index-records-j.is in
    let given : slice_get places j ≡ Some p = let look = c.in-Some.ensures.lookup in slice_get_read places (length places) j p refl look.3.0 look.1 in
    let missing = missed _ c.in_ok-is_new.is_new c.in_ok-is_new.ensures.added c.if-not-is_new.false in
    record {
      earlier = below_more (λ k. OfItem records k (IsChained records (values places) k)) j c.loop-j.invariant.earlier (λ item is.
          let one : r ≡ item = same_Some r item (sym here ∙ is) in
          let N : PlannedRecord → Type 0 = IsChained records (values places) j in
          subst N one (is_chained records places handles c.in_ok-handles.ensures j r p c.loop-j.taken given c.loop-j.invariant.has missing (c.if-not-leads_on.ensures.0 refl)));
      has = has_one_more (values places) j p.value c.loop-j.taken c.insert.new.self (value_of_place places j p given) c.in_ok-is_new.ensures.updates.0 c.loop-j.invariant.has;
    }

pub returns : goal.returns
returns c = λ k item is.
    let within = slice_get_within c.args.records.now k item is in
    c.loop-j.invariant.earlier k (omega arith) item is

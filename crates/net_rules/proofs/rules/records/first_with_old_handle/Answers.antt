use Rattle.std.{proofs.Common.{◌≡◌, Some, length, sym, ◌∙◌, subst, arith, rules}, specs.Prelude.{slice_get}, proofs.lemmas.Option.{slice_get_read, slice_get_within, same_Some}}
use borrow.Author.Count.{below_more}
use Rattle.plan_values.specs.declared.terminus.PlannedRecord.{PlannedRecord}
use Rattle.net_tables.{specs.Routing.{OfItem}, specs.Repositories.{HasNewHandle}}
use Rattle.net_rules.proofs.Handles.{handles_of, handle_of_record, has_one_more, is_new, is_not_new}
use Rattle.net_rules.proofs.rules.records.first_with_old_handle.Goals as goal

pub returns-then-not-is_new : goal.returns-then-not-is_new
returns-then-not-is_new c =
    let records = c.args.records.now in
    let j = c.loop-j.j in
    let r = c.index-records-j.result in
    let here : slice_get records j ≡ Some r = slice_get_read records (length records) j r (search rules) (omega arith) c.index-records-j.is in (
      λ all. is_not_new records j r c.loop-j.handles c.loop-j.invariant.has (λ new. let old = c.in_ok-is_new.ensures.new.1 new in let not = c.if-not-is_new.true in absurd (cc)) (all r here),
      c.loop-j.invariant.earlier,
    )

pub loop-j-preserved : goal.loop-j-preserved
loop-j-preserved c =
    let records = c.args.records.now in
    let j = c.loop-j.j in
    let r = c.index-records-j.result in
    let here : slice_get records j ≡ Some r = slice_get_read records (length records) j r (search rules) (omega arith) c.index-records-j.is in
    let new = c.in_ok-is_new.ensures.new.0 c.if-not-is_new.false in
    record {
      earlier = below_more (λ k. OfItem records k (HasNewHandle records k)) j c.loop-j.invariant.earlier (λ item is.
          let one : r ≡ item = same_Some r item (sym here ∙ is) in
          let N : PlannedRecord → Type 0 = HasNewHandle records j in
          subst N one (is_new records j r c.loop-j.handles c.loop-j.invariant.has new.0 new.1));
      has = has_one_more (handles_of records) j r.handle c.loop-j.handles c.add_handle.new.handles (handle_of_record records j r here) c.in_ok-is_new.ensures.added.0 c.loop-j.invariant.has;
    }

pub returns : goal.returns
returns c = λ k item is.
    let within = slice_get_within c.args.records.now k item is in
    c.loop-j.invariant.earlier k (omega arith) item is

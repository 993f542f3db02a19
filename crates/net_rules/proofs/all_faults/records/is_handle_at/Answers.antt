use Rattle.std.{proofs.Common.{◌≡◌, length, refl, sym, ◌∙◌, ap, Some, arith}, specs.Prelude.{slice_get}, proofs.lemmas.Option.{same_Some, slice_get_read}}
use Rattle.plan_values.specs.declared.terminus.PlannedRecord as listed
use Rattle.net_rules.proofs.all_faults.records.is_handle_at.Goals as goal

pub returns-then-records-index : goal.returns-then-records-index
returns-then-records-index c =
    let records = c.args.records.now in
    let item = c.index-records-index.result in
    let at : slice_get records c.args.index ≡ Some item = slice_get_read records (length records) c.args.index item refl (omega arith) c.index-records-index.is in (
      λ h. absurd (cc h),
      λ (r, here, given, is). absurd (
          let same : item ≡ r = same_Some item r (sym at ∙ here) in
          let handle : item.handle ≡ r.handle = ap (λ (x : listed.PlannedRecord). x.handle) same in
          let whole = c.index-records-index.is in
          let other = c.if-records-index.true in
          other (cc)
          ),
    )

pub returns : goal.returns
returns c =
    let records = c.args.records.now in
    let item = c.index-records-index.result in
    let at : slice_get records c.args.index ≡ Some item = slice_get_read records (length records) c.args.index item refl (omega arith) c.index-records-index.is in
    let whole = c.index-records-index.is in
    let same = c.if-records-index.false in
    (λ yes. (item, at, c.is_given.ensures.0 yes, cc), λ found. c.is_given.ensures.1 found.2)

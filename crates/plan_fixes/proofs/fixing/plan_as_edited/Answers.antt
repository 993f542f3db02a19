use Rattle.std.proofs.Common.{◌≡◌, Some, subst}
use Rattle.net_explained.specs.Edits.{IsEdited}
use Rattle.plan_values.specs.PlanValues.{PlanValue, plan_value}
use Rattle.plan_fixes.specs.Fixes.{IsTextOf}
use Rattle.plan_fixes.proofs.fixing.plan_as_edited.Goals as goal

pub returns-in-Some-3 : goal.returns-in-Some-3
returns-in-Some-3 c =
    let plan = c.in-Some.plan in
    let last = c.in-Some-2.last in
    let edit = c.args.edit.now in
    let reads : IsTextOf c.args.after.now plan = rw c.in-Some.is at c.in_ok-plan.ensures in
    let was_read : IsTextOf c.args.before.now last = rw c.in-Some-2.is at c.in_ok-last.ensures in
    let by : IsEdited (plan_value last) edit (plan_value c.in-Some-3.wanted) = rw c.in-Some-3.is at c.in_ok-wanted.ensures in
    let same : plan_value c.in-Some-3.wanted ≡ plan_value plan = c.are_same_plans.ensures.0 c.if-are_same_plans.true in
    record {
      reads = reads;
      last = last;
      was_read = was_read;
      edited = subst (λ (v : PlanValue). IsEdited (plan_value last) edit v) same by;
    }

use Rattle.std.proofs.Common.{Some, rules}
use Rattle.plan_values.specs.PlanValues.{plan_value}
use Rattle.net_explained.{specs.Edits.{IsEdited}, specs.Obstacles.{IsLater}, proofs.Later.{later_known, tried_so}, proofs.SamePlan.{same_plan}}
use Rattle.net_explained.proofs.trial.try_edit.Goals as goal

pub returns-in-Ok-certify : goal.returns-in-Ok-certify
returns-in-Ok-certify c =
    let before = plan_value c.in-Ok.before in
    let same = same_plan c.args.text.now (plan_value c.args.plan.now) before c.requires c.in-Ok.ensures.ok in
    let by : IsEdited before c.args.edit (plan_value c.in-Some.after) = rw c.in-Some.is at c.in_ok-after.ensures in
    tried_so _ before c.args.obstacle.now c.in-Some.after _ same by (c.in-Ok-certify._certificate, c.in-Ok-certify.ensures.accepted)

pub returns-in-Err-certify : goal.returns-in-Err-certify
returns-in-Err-certify c =
    let before = plan_value c.in-Ok.before in
    let next = c.in-Err-certify.next in
    let same = same_plan c.args.text.now (plan_value c.args.plan.now) before c.requires c.in-Ok.ensures.ok in
    let by : IsEdited before c.args.edit (plan_value c.in-Some.after) = rw c.in-Some.is at c.in_ok-after.ensures in
    let later : IsLater c.args.obstacle.now next = search rules in
    let none = c.in-Err-certify.ensures.none (later_known c.args.obstacle.now next later) in
    tried_so _ before c.args.obstacle.now c.in-Some.after _ same by (none, c.in-Err-certify.ensures.obstacle, later)

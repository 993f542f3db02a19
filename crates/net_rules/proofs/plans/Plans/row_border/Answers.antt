use Rattle.std.{proofs.Common.{arith}, proofs.lemmas.Grind.{common_steps}}
use Rattle.net_rules.proofs.RowsInForce.{both_alike, either_alike}
use Rattle.net_rules.proofs.plans.Plans.row_border.Goals as goal

pub returns-in-Some-clause-always : goal.returns-in-Some-clause-always
returns-in-Some-clause-always c =
    let one = c.row_border-end.ensures.0 in
    let other = c.row_border.ensures.0 in
    rw c.in-Some.is
    (both_alike c.args.self.now.plan.now c.in-Some.after.now c.args.node c.args.eid.value c.row_border-end.result c.row_border.result c.min.result c.row_border-end.ensures c.row_border.ensures
    (grind (arith, common_steps, one, other)) (grind (arith, common_steps)) (grind (arith, common_steps)))

pub returns-in-Some-clause-ever : goal.returns-in-Some-clause-ever
returns-in-Some-clause-ever c =
    let one = c.row_border-end.ensures.0 in
    let other = c.row_border.ensures.0 in
    rw c.in-Some.is
    (either_alike c.args.self.now.plan.now c.in-Some.after.now c.args.node c.args.eid.value c.row_border-end.result c.row_border.result c.min.result c.row_border-end.ensures c.row_border.ensures
    (grind (arith, common_steps, one, other)) (grind (arith, common_steps)) (grind (arith, common_steps)))

pub returns-in-None-clause-always : goal.returns-in-None-clause-always
returns-in-None-clause-always c = rw c.in-None.is c.row_border-end.ensures

pub returns-in-None-clause-ever : goal.returns-in-None-clause-ever
returns-in-None-clause-ever c = rw c.in-None.is c.row_border-end.ensures

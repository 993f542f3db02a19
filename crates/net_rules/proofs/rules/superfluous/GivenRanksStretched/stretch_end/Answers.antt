use Rattle.std.{proofs.Common.{ℕ, subst, arith}, proofs.lemmas.Grind.{common_steps}}
use Rattle.plan_values.specs.declared.plan.Plan.{Plan}
use Rattle.net_tables.specs.Routing.{Holds}
use Rattle.net_rules.{specs.PlanTables.{plans_value}, specs.Stretches.{IsStretch}, proofs.RowsInForce.{need_alike}}
use Rattle.net_rules.proofs.rules.superfluous.GivenRanksStretched.stretch_end.Goals as goal

pub returns : goal.returns
returns c =
    let given = c.args.self.now in
    let e = c.args.eid.value in
    let H : Plan → Type 0 = λ p. (holder : ℕ) → IsStretch (Holds p holder) e c.border-held.result in
    let held = subst H c.holders.ensures c.border-held.ensures in
    let one = c.stretch-given.ensures.0 in
    let two = c.row_border-covered.ensures.ever.0 in
    let three = (held given.node).0 in
    need_alike (plans_value given.plans.now) given.node given.ranks e c.stretch-given.result.end c.row_border-covered.result c.border-held.result c.min-2.result c.stretch-given.result.rank
    c.stretch-given.ensures c.row_border-covered.ensures.ever (held given.node) (grind (arith, common_steps)) (grind (arith, common_steps)) (grind (arith, common_steps))
    (grind (arith, common_steps, one, two, three))

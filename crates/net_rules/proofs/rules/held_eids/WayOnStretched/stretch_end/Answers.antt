use Rattle.std.{proofs.Common.{ℕ, subst, arith}, proofs.lemmas.Grind.{common_steps}}
use Rattle.plan_values.specs.declared.plan.Plan.{Plan}
use Rattle.net_tables.specs.Routing.{Holds}
use Rattle.net_rules.{specs.Stretches.{IsStretch}, specs.PlanTables.{plans_value}, proofs.RowsInForce.{led_alike, led_along_rows}}
use Rattle.net_rules.proofs.rules.held_eids.WayOnStretched.stretch_end.Goals as goal

pub returns-then-is_routing_bridge : goal.returns-then-is_routing_bridge
returns-then-is_routing_bridge c =
    let way = c.args.self.now in
    let met = c.is_routing_bridge.ensures.0 c.if-is_routing_bridge.true in
    led_along_rows (plans_value way.plans.now) way.node way.next c.args.eid.value c.row_border-end.result met.0 met.1 c.row_border-end.ensures.always

pub returns-else-is_routing_bridge : goal.returns-else-is_routing_bridge
returns-else-is_routing_bridge c =
    let way = c.args.self.now in
    let e = c.args.eid.value in
    let H : Plan → Type 0 = λ plan. (holder : ℕ) → IsStretch (Holds plan holder) e c.border.result in
    let held = subst H c.holders.ensures c.border.ensures in
    let some = (held way.node).0 in
    led_alike (plans_value way.plans.now) way.node way.next e c.border.result c.row_border-end.result c.min.result held
    c.row_border-end.ensures.always (grind (arith, common_steps, some)) (grind (arith, common_steps)) (grind (arith, common_steps))

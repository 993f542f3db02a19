use Rattle.std.proofs.Common.{◌≢◌, ℕ, refl, sym, inl, inr}
use Rattle.plan_values.{specs.declared.plan.Plan.{Plan}, specs.declared.nodes.Row.{Row}}
use Rattle.net_tables.{specs.Routing.{rows_of, Covers, Holds, IsBridge, HasRow}, specs.TwoPlans.{one_plan}}
use Rattle.net_rules.specs.HeldEids.{IsLedOn}
use Rattle.net_explained.proofs.Items.{not_of_item}
use Rattle.net_explained.proofs.causes.ways.cut.Goals as goal

not_led : (plan : Plan) (n e next holder : ℕ) → Holds plan holder e → holder ≢ n → ¬ Holds plan next e → ¬ (IsBridge plan next × HasRow plan next e) → ¬ IsLedOn (one_plan plan) n e next
unfolding IsLedOn
not_led plan n e next holder holds other not no_way led = elim (led holder holds other) [
  | inl there ↦ not there
  | inr way ↦ no_way way
]

pub returns-then-is_bridge : goal.returns-then-is_bridge
returns-then-is_bridge c =
    let plan = c.args.plan.now in
    let e = c.args.eid.value in
    let row = c.in_ok-found.found.now in
    let held = c.in_ok-holder.ensures.first.0 in
    let cut = c.in_ok-holder.ensures.cut in
    let covers = c.covers.ensures.0 c.if-not-covers.false in
    let bridge = c.is_bridge.ensures.0 c.if-is_bridge.true in (
      (refl, (held.0, held.1, (row, sym c.in_ok-found.ensures, (covers, cut.0, (bridge, λ has. cut.1 (bridge, has)))))),
      not_of_item (rows_of plan c.args.node) c.args.row (λ (row : Row). Covers row e → IsLedOn (one_plan plan) c.args.node e row.next) row c.in_ok-found.ensures
          (λ led. not_led plan c.args.node e row.next c.in_ok-holder.holder held.0 held.1 cut.0 cut.1 (led covers)),
    )

pub returns-else-is_bridge : goal.returns-else-is_bridge
returns-else-is_bridge c =
    let plan = c.args.plan.now in
    let e = c.args.eid.value in
    let row = c.in_ok-found.found.now in
    let held = c.in_ok-holder.ensures.first.0 in
    let cut = c.in_ok-holder.ensures.cut in
    let covers = c.covers.ensures.0 c.if-not-covers.false in
    let none : ¬ IsBridge plan row.next = λ bridge. cc (c.is_bridge.ensures.1 bridge, c.if-is_bridge.false) in (
      (refl, (held.0, held.1, (row, sym c.in_ok-found.ensures, (covers, cut.0, none)))),
      not_of_item (rows_of plan c.args.node) c.args.row (λ (row : Row). Covers row e → IsLedOn (one_plan plan) c.args.node e row.next) row c.in_ok-found.ensures
          (λ led. not_led plan c.args.node e row.next c.in_ok-holder.holder held.0 held.1 cut.0 cut.1 (led covers)),
    )

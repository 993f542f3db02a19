use Rattle.std.{proofs.Common.{ℕ, ◌≤◌, refl, sym, ◌∙◌, subst, arith, inl, inr}, proofs.lemmas.Bool.{cases_lt}, proofs.lemmas.Option.{same_Some, none-some}}
use Rattle.plan_values.specs.declared.nodes.Row.{Row}
use Rattle.net_tables.{specs.Routing.{rows_of, IsBridge}, specs.Rows.{IsOnBus, IsJoined, NamesNeighbor}}
use Rattle.net_explained.proofs.Items.{not_of_item}
use Rattle.net_explained.proofs.causes.rows.no_neighbor_in.Goals as goal

pub returns-then-row-node-clause-cause : goal.returns-then-row-node-clause-cause
unfolding NamesNeighbor
returns-then-row-node-clause-cause c = λ r is.
    let plan = c.args.plan.now in (
      (refl, (c.args.row.now, is, c.if-row-node.true)),
      not_of_item (rows_of plan c.args.node) r (λ (row : Row). NamesNeighbor plan c.args.node row) c.args.row.now (sym is) (λ names. names.0 c.if-row-node.true),
    )

pub returns-in-None-clause-cause : goal.returns-in-None-clause-cause
unfolding NamesNeighbor IsJoined
returns-in-None-clause-cause c = λ r is.
    let plan = c.args.plan.now in (
      (refl, (c.args.row.now, is, sym c.in-None.ensures)),
      not_of_item (rows_of plan c.args.node) r (λ (row : Row). NamesNeighbor plan c.args.node row) c.args.row.now (sym is)
          (λ names. none-some names.1.0 (c.in-None.ensures ∙ names.1.1)),
    )

pub returns-in-Some-clause-cause : goal.returns-in-Some-clause-cause
unfolding NamesNeighbor IsJoined
returns-in-Some-clause-cause c = λ r is.
    let plan = c.args.plan.now in
    let row = c.args.row.now in
    let bus = c.in-Some.bus in
    let out : ¬ IsOnBus plan row.next bus = λ on. cc (c.is_on_bus.ensures, on, c.if-not-is_on_bus.true) in (
      (refl, (row, is, (sym c.in-Some.ensures, out))),
      not_of_item (rows_of plan c.args.node) r (λ (row : Row). NamesNeighbor plan c.args.node row) row (sym is)
          (λ names. out (subst (λ (b : ℕ). IsOnBus plan row.next b) (same_Some names.1.0 bus (sym names.1.1 ∙ sym c.in-Some.ensures)) names.1.2)),
    )

pub returns-in-Some-3-clause-cause : goal.returns-in-Some-3-clause-cause
unfolding NamesNeighbor
returns-in-Some-3-clause-cause c = λ r is.
    let plan = c.args.plan.now in
    let row = c.args.row.now in
    let not : ¬ (2 ≤ row.size → IsBridge plan row.next) = λ fit. cc (c.is_bridge_for_several.ensures.1 fit, c.if-is_bridge_for_several.false) in
    let several : 2 ≤ row.size = elim (cases_lt row.size 2) [
      | inl one ↦ absurd (not (λ two. absurd (omega (arith, one, two))))
      | inr two ↦ two
    ] in (
      (refl, (row, is, (several, λ bridge. not (λ _. bridge)))),
      not_of_item (rows_of plan c.args.node) r (λ (row : Row). NamesNeighbor plan c.args.node row) row (sym is) (λ names. not names.2),
    )

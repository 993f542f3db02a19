use Rattle.std.proofs.Common.{◌≡◌, List, sym, ◌∙◌, ap, subst, arith, rules, inl, inr}
use Rattle.plan_values.specs.declared.nodes.Row.{Row}
use Rattle.net_tables.{specs.Routing.{rows_of}, proofs.Elements.{in_push}}
use Rattle.net_rules.specs.RowsByNode.{AreRowsByNode}
use Rattle.net_rules.proofs.plan_index.rows_by_node.Goals as goal

pub loop-node-preserved : goal.loop-node-preserved
loop-node-preserved c =
    let plan = c.args.plan.now in
    let old = c.loop-node.by_node.items in
    let made = c.in_ok-of.field-0 in
    let A : List (List Row) → Type 0 = AreRowsByNode plan in
    let is_made : made ≡ rows_of plan c.loop-node.node = c.in_ok-of.ensures ∙ c.rows_at.ensures in
    record {
      long = search rules;
      rows = subst A (sym c.in_ok-push.ensures.items) (λ n item is. elim (in_push old made n item is) [
        | inl before ↦ c.loop-node.invariant.rows n item before
        | inr (at, same) ↦ (
            let here : n ≡ c.loop-node.node = omega (arith, at, c.loop-node.invariant.long) in
            sym same ∙ (is_made ∙ ap (λ k. rows_of plan k) (sym here)))
      ]);
    }

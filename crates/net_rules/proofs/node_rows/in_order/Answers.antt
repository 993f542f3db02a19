use Rattle.std.{proofs.Common.{ℕ, rules}, proofs.lemmas.List.Sorted.{IsNonDecreasingBy-from_sort_by_key}}
use Rattle.plan_values.specs.declared.nodes.Row.{Row}
use Rattle.net_rules.proofs.node_rows.in_order.Goals as goal

pub returns-clause-ascend : goal.returns-clause-ascend
returns-clause-ascend c =
    let first : Row → ℕ = λ row. row.first.value in
    IsNonDecreasingBy-from_sort_by_key first _ c.sort_unstable_by_key.ensures.sorted (λ a r q k. search rules)

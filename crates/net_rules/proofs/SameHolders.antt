-- Two plans that differ in rows alone have the same holders.
use Rattle.std.{proofs.Common.{◌≡◌, ℕ, Option, Some, None, refl, sym, ◌∙◌, ap}, specs.Prelude.{option_map}}
use Rattle.plan_values.{specs.declared.plan.Plan.{Plan}, specs.declared.nodes.Node.{Node}, specs.NodeValues.{NodeValue, but_rows}}
use Rattle.net_tables.specs.Routing.{node_at, eid_of}
use Rattle.net_rules.{specs.MoveRules.{IsSameNode}, specs.MoveRanks.{HoldTheSame}}

pub same_eid : (before after : Plan) (n : ℕ) → IsSameNode before after n → eid_of before n ≡ eid_of after n
unfolding IsSameNode
same_eid before after n same = sym (of_value (node_at before n)) ∙ ap (λ o. option_map (λ (v : NodeValue). v.eid) o) same ∙ of_value (node_at after n)
  where
    of_value : (o : Option Node) → option_map (λ (v : NodeValue). v.eid) (option_map but_rows o) ≡ option_map (λ (node : Node). node.eid.value) o
    of_value None = refl
    of_value (Some node) = refl

pub hold_the_same : (before after : Plan) → ((n : ℕ) → IsSameNode before after n) → HoldTheSame before after
hold_the_same before after same n e =
    let one = same_eid before after n (same n) in
    (λ holds. sym one ∙ holds, λ holds. one ∙ holds)

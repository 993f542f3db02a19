-- The numbers that a plan gives its nodes: endpoint IDs, and where pools begin.
use Rattle.std.{specs.Prelude.{ℕ, Bool, true, false, List, [], ◌∷◌, Option, Some, None, option_map, option_and_then}, specs.List.{flat_map}}
use Rattle.plan_values.{specs.NodeValues.{name_bytes}, specs.declared.nodes.Node.{Node}, specs.declared.nodes.Pool.{Pool}, specs.declared.plan.Plan.{Plan}}
use Rattle.net_tables.{specs.Names.{node_name}, specs.Ownership.{pool_of}}
use Rattle.board_made.specs.declared.numbers.Number.{Number}

-- Endpoint IDs of a node, from the first on: that which it holds, or those of its pool. `owner` is the name of the
-- node's owner, and `within` is where the owner's pool begins.
pub record NumberValue : Type 0 where
  pub node : List ℕ
  pub is_pool : Bool
  pub first : ℕ
  pub size : ℕ
  pub owner : Option (List ℕ)
  pub within : Option ℕ

abbrev pub number_value : Number → NumberValue
number_value n = record {
  node = n.node.now;
  is_pool = n.is_pool;
  first = n.first;
  size = n.size;
  owner = option_map (λ o. o.now) n.owner;
  within = n.within;
}

-- where the pool of the node at the index begins
abbrev pub pool_begin : Plan → ℕ → Option ℕ
pool_begin plan n = option_map (λ p. p.first.value) (pool_of plan n)

abbrev pub held_number : Plan → Node → NumberValue
held_number plan n = record {
  node = name_bytes n.name;
  is_pool = false;
  first = n.eid.value;
  size = 1;
  owner = option_map (node_name plan) n.owner;
  within = option_and_then (pool_begin plan) n.owner;
}

abbrev pub pool_number : Plan → Node → Pool → NumberValue
pool_number plan n p = record {
  node = name_bytes n.name;
  is_pool = true;
  first = p.first.value;
  size = p.size;
  owner = option_map (node_name plan) n.owner;
  within = option_and_then (pool_begin plan) n.owner;
}

-- none, or the one of the pool
abbrev pub pool_numbers : Plan → Node → Option Pool → List NumberValue
pool_numbers plan n None = []
pool_numbers plan n (Some p) = pool_number plan n p ∷ []

-- the endpoint ID of a node, and its pool
abbrev pub numbers_of_node : Plan → Node → List NumberValue
numbers_of_node plan n = held_number plan n ∷ pool_numbers plan n n.pool

-- those of each node, in the plan's order
abbrev pub plan_numbers : Plan → List NumberValue
plan_numbers plan = flat_map (numbers_of_node plan) plan.nodes.items

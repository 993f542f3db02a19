-- That what is named in a plan stands in the plan's own lists.
use Rattle.std.{specs.Prelude.{ℕ, ◌&&◌, List, length, Bool, true, nat_lt, Option, Some, None}, specs.List.{list_all}}
use Rattle.plan_values.{specs.declared.nodes.Node.{Node}, specs.NodeValues.{PortValue, RowValue, NodeValue}}

-- the port's bus is one of so many
abbrev pub is_port_placed : ℕ → PortValue → Bool
is_port_placed buses p = nat_lt p.bus buses

-- the row's next node is one of so many
abbrev pub is_row_placed : ℕ → RowValue → Bool
is_row_placed nodes r = nat_lt r.next nodes

-- no value, or one that passes
abbrev pub is_none_or : {A : Type 0} → (A → Bool) → Option A → Bool
is_none_or test None = true
is_none_or test (Some x) = test x

-- the owner is one of so many nodes
abbrev pub is_owner_placed : ℕ → Option ℕ → Bool
is_owner_placed nodes owner = is_none_or (λ index. nat_lt index nodes) owner

-- what a node names is among so many buses and nodes
abbrev pub is_node_placed : ℕ → ℕ → NodeValue → Bool
is_node_placed buses nodes n =
    is_owner_placed nodes n.owner && (list_all (is_port_placed buses) n.ports && list_all (is_row_placed nodes) n.rows)

-- what nodes name is among so many buses, and among these nodes
abbrev pub are_placed : ℕ → List NodeValue → Bool
are_placed buses ns = list_all (is_node_placed buses (length ns)) ns

-- the same of a node itself
abbrev pub is_placed : ℕ → ℕ → Node → Bool
is_placed buses nodes n =
    is_owner_placed nodes n.owner
    && (list_all (λ p. nat_lt p.bus buses) n.ports.items && list_all (λ r. nat_lt r.next nodes) n.rows.items)

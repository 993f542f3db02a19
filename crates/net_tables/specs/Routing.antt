-- What a plan says of its nodes and their rows, as the rules and the network read it. A node is named by its index.
use Rattle.std.specs.Prelude.{◌≡◌, ℕ, ◌+◌, ◌<◌, ◌≤◌, List, [], Option, Some, option_map, unwrap_or, slice_get}
use Rattle.mctp_transport.specs.declared.address.Eid.{Eid}
use Rattle.plan_values.{specs.declared.plan.Plan.{Plan}, specs.declared.nodes.Node.{Node}, specs.declared.nodes.Row.{Row}, specs.declared.nodes.Port.{Port}, specs.declared.nodes.Kind.TheVariants.{Bridge}}

abbrev pub node_at : Plan → ℕ → Option Node
node_at plan n = slice_get plan.nodes.items n

-- the number of an EID, if there is one
abbrev pub eid_number : Option Eid → Option ℕ
eid_number eid = option_map (λ e. e.value) eid

-- a node's EID; none beyond the plan
abbrev pub eid_of : Plan → ℕ → Option ℕ
eid_of plan n = option_map (λ node. node.eid.value) (node_at plan n)

abbrev pub rows_of : Plan → ℕ → List Row
rows_of plan n = unwrap_or (option_map (λ node. node.rows.items) (node_at plan n)) []

abbrev pub ports_of : Plan → ℕ → List Port
ports_of plan n = unwrap_or (option_map (λ node. node.ports.items) (node_at plan n)) []

abbrev pub IsBridge : Plan → ℕ → Type 0
IsBridge plan n = option_map (λ node. node.kind) (node_at plan n) ≡ Some Bridge

-- the node's EID is e
abbrev pub Holds : Plan → ℕ → ℕ → Type 0
Holds plan n e = eid_of plan n ≡ Some e

-- some node holds e
abbrev pub IsHeld : Plan → ℕ → Type 0
IsHeld plan e = (n : ℕ) × Holds plan n e

-- e is one of the row's EIDs; a row that reaches past 255 covers those up to 255
abbrev pub Covers : Row → ℕ → Type 0
Covers row e = (row.first.value ≤ e) × (e < row.first.value + row.size) × (e ≤ 255)

-- one of the rows covers e and names m
abbrev pub NamesFor : List Row → ℕ → ℕ → Type 0
NamesFor rows e m = (r : ℕ) × (row : Row) × (slice_get rows r ≡ Some row) × Covers row e × (row.next ≡ m)

-- some row of n covers e and names m
abbrev pub Routes : Plan → ℕ → ℕ → ℕ → Type 0
Routes plan n e m = NamesFor (rows_of plan n) e m

-- n has a row for e
abbrev pub HasRow : Plan → ℕ → ℕ → Type 0
HasRow plan n e = (m : ℕ) × Routes plan n e m

-- what is for e moves on from n to m: n doesn't hold e, and routes it to m
abbrev pub MovesTo : Plan → ℕ → ℕ → ℕ → Type 0
MovesTo plan e n m = ¬ Holds plan n e × Routes plan n e m

-- the item at the index of the list, if there is one, has the property
abbrev pub OfItem : {A : Type 0} → List A → ℕ → (A → Type 0) → Type 0
OfItem {A} items i P = (item : A) → slice_get items i ≡ Some item → P item

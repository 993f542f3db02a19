-- The requests that give the owned nodes of a plan their endpoint IDs and pools.
use Rattle.std.{specs.Prelude.{◌≡◌, ◌⊎◌, ◌↔◌, ◌==◌, ℕ, ◌<◌, Bool, false, List, [], ◌∷◌, Option, Some, None, option_map, option_and_then, find, AllPairs, Contains}, specs.List.{list_any, flat_map}}
use Rattle.plan_values.{specs.declared.plan.Plan.{Plan}, specs.declared.certificate.Certificate.{Certificate}, specs.declared.nodes.Node.{Node}, specs.declared.nodes.Pool.{Pool}}
use Rattle.mctp_control.{specs.Headers.{HeaderValue}, specs.Requests.{SetsEid, AllocatesEids, RequestValue, request_value}}
use Rattle.net_tables.{specs.Routing.{node_at, ports_of}, specs.Ownership.{IsOwnedBy, level}}
use Rattle.net_sim.specs.declared.assigning.assignment.Assignment.{Assignment}

-- a request to a node, over a bus; both are places in the plan's lists
pub record AssignmentValue : Type 0 where
  pub bus : ℕ
  pub node : ℕ
  pub body : RequestValue

abbrev pub assignment_value : Assignment → AssignmentValue
assignment_value a = record { bus = a.bus; node = a.node; body = request_value a.body }

-- D bit clear, bit 5 clear, instance ID 0
abbrev pub plain_header : HeaderValue
plain_header = record { datagram = false; reserved = false; instance = 0 }

-- Set Endpoint ID with operation 0, set
abbrev pub sets_eid : ℕ → RequestValue
sets_eid eid = record { header = plain_header; command = SetsEid 0 0 eid }

-- Allocate Endpoint IDs with operation 0, allocate
abbrev pub allocates_pool : Pool → RequestValue
allocates_pool pool = record { header = plain_header; command = AllocatesEids 0 0 pool.size pool.first.value }

-- one of the node's ports is on the bus
abbrev pub is_on_bus : Plan → ℕ → ℕ → Bool
is_on_bus plan n bus = list_any (λ port. port.bus == bus) (ports_of plan n)

-- the bus of the node's lowest port whose bus the owner shares
abbrev pub shared_bus : Plan → Node → ℕ → Option ℕ
shared_bus plan node owner =
    option_map (λ port. port.bus) (find (λ port. is_on_bus plan owner port.bus) node.ports.items)

-- the request for a pool, if there is one
abbrev pub pool_requests : ℕ → ℕ → Option Pool → List AssignmentValue
pool_requests n bus None = []
pool_requests n bus (Some pool) = record { bus = bus; node = n; body = allocates_pool pool } ∷ []

-- what the node at an index is asked over a bus: to take its EID, then its pool
abbrev pub requests_over : ℕ → Node → ℕ → List AssignmentValue
requests_over n node bus =
    record { bus = bus; node = n; body = sets_eid node.eid.value } ∷ pool_requests n bus node.pool

-- the same over the bus that there is, if there is one
abbrev pub requests_by : ℕ → Node → Option ℕ → List AssignmentValue
requests_by n node None = []
requests_by n node (Some bus) = requests_over n node bus

-- what a node is asked over the bus that it shares with its owner
abbrev pub requests_of : Plan → ℕ → Option Node → List AssignmentValue
requests_of plan n None = []
requests_of plan n (Some node) = requests_by n node (option_and_then (shared_bus plan node) node.owner)

abbrev pub requests_to : Plan → ℕ → List AssignmentValue
requests_to plan n = requests_of plan n (node_at plan n)

-- n has an owner
unfoldable pub IsOwned : Plan → ℕ → Type 0
IsOwned plan n = (owner : ℕ) × IsOwnedBy plan n owner

-- m is asked before n: its level is lower, or the same, and it stands earlier in the plan
unfoldable pub IsAskedBefore : Plan → Certificate → ℕ → ℕ → Type 0
IsAskedBefore plan cert m n =
    (level plan cert m < level plan cert n) ⊎ ((level plan cert m ≡ level plan cert n) × (m < n))

-- The list has the requests to each of these nodes once, in the order of levels and places, and no others.
pub record AsksInOrder (plan : Plan) (cert : Certificate) (Who : ℕ → Type 0)
    (list : List AssignmentValue) : Type 0 where
  pub nodes : List ℕ
  pub each : (n : ℕ) → Contains nodes n ↔ Who n
  pub ordered : AllPairs (IsAskedBefore plan cert) nodes
  pub requests : list ≡ flat_map (requests_to plan) nodes

-- each owned node is asked
abbrev pub IsAssignmentOf : Plan → Certificate → List AssignmentValue → Type 0
IsAssignmentOf plan cert list = AsksInOrder plan cert (IsOwned plan) list

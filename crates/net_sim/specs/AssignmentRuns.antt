-- The devices of a plan while an assignment is carried out, and what they reply.
use Rattle.std.specs.Prelude.{◌≡◌, ◌↔◌, ℕ, List, [], ◌∷◌, length, map, slice_get, slice_set, Option, Some, None, option_map, IsSomeAnd}
use Rattle.plan_values.{specs.declared.plan.Plan.{Plan}, specs.declared.nodes.Node.{Node}, specs.declared.nodes.Pool.{Pool}}
use Rattle.mctp_control.{specs.Ranges.{IsWithin}, specs.RouteEntries.{EntryValue}, specs.Requests.{CommandValue, SetsEid, AllocatesEids, request_bytes}, specs.Responses.{AnswerValue, EidSet, PoolTold, ResponseValue, SpellsResponse}, specs.Devices.{PoolHeld, DeviceValue}, specs.Replies.{Replies}}
use Rattle.net_tables.{specs.Names.{device_kind}, specs.Routing.{node_at}, specs.Ownership.{IsOwnedBy}}
use Rattle.net_sim.specs.Assignments.{AssignmentValue}
use Rattle.plan_values.specs.declared.nodes.Kind.TheVariants as planned
use Rattle.mctp_transport.specs.declared.device_kind.DeviceKind.TheVariants as device

-- the size of a planned pool, 0 where there is none
abbrev pub planned_size : Option Pool → ℕ
planned_size None = 0
planned_size (Some pool) = pool.size

-- a planned pool, held from this bus, or from none
abbrev pub planned_pool : Option Pool → Option ℕ → Option PoolHeld
planned_pool None giver = None
planned_pool (Some pool) giver = Some (record { first = pool.first.value; size = pool.size; giver = giver })

-- a device that holds its planned EID and pool from this bus, or from none; it wants a pool of the planned size
abbrev pub holding : Node → Option ℕ → DeviceValue
holding node giver = record {
  kind = device_kind node.kind;
  eid = Some (record { eid = node.eid.value; giver = giver });
  wants = planned_size node.pool;
  pool = planned_pool node.pool giver;
}

-- a device that holds nothing, and wants a pool of the planned size
abbrev pub empty : Node → DeviceValue
empty node = record { kind = device_kind node.kind; eid = None; wants = planned_size node.pool; pool = None }

-- before the first request a device without owner is configured as planned, and an owned one is empty
abbrev pub starting : Node → Option ℕ → DeviceValue
starting node None = holding node None
starting node (Some owner) = empty node

-- the devices before the first request, in the plan's order
abbrev pub devices_at_start : Plan → List DeviceValue
devices_at_start plan = map (λ node. starting node node.owner) plan.nodes.items

-- The device that is asked replies to the request's bytes, which come over the request's bus, with its
-- routing table; the others stay as they are.
pub record IsReplied (tables : ℕ → List EntryValue) (before : List DeviceValue) (asked : AssignmentValue)
    (reply : Option (List ℕ))
    (after : List DeviceValue) : Type 0 where
  pub device : DeviceValue
  pub stands : slice_get before asked.node ≡ Some device
  pub new : DeviceValue
  pub replies : Replies device asked.bus (tables asked.node) (request_bytes asked.body) reply new
  pub becomes : after ≡ slice_set before asked.node new

-- the requests of the list are replied to so, one after another
abbrev pub AssignRun : (ℕ → List EntryValue) → List DeviceValue → List AssignmentValue → List (Option (List ℕ))
    → List DeviceValue → Type 0
AssignRun tables before [] [] after = after ≡ before
AssignRun tables before (asked ∷ list) (reply ∷ replies) after =
    (between : List DeviceValue) × IsReplied tables before asked reply between
    × AssignRun tables between list replies after
AssignRun tables before [] (reply ∷ replies) after = ⊥
AssignRun tables before (asked ∷ list) [] after = ⊥

-- the answer accepts what was asked: its status says so, and it tells the EID or the pool that was given
abbrev pub AcceptsCommand : CommandValue → AnswerValue → Type 0
AcceptsCommand (SetsEid operation reserved eid) (EidSet status present size) = (status.second ≡ 0) × (present ≡ eid)
AcceptsCommand (AllocatesEids operation reserved size first) (PoolTold status held from) =
    (status.acceptance ≡ 0) × (held ≡ size) × (from ≡ first)
AcceptsCommand _ _ = ⊥

-- there is a reply, and it is a response with such an answer
abbrev pub IsAccepted : AssignmentValue → Option (List ℕ) → Type 0
IsAccepted asked reply =
    IsSomeAnd reply (λ bytes. (r : ResponseValue) × SpellsResponse r bytes × AcceptsCommand asked.body.command r.answer)

-- each request's reply is one
abbrev pub AreAccepted : List AssignmentValue → List (Option (List ℕ)) → Type 0
AreAccepted [] [] = Unit {0}
AreAccepted (asked ∷ list) (reply ∷ replies) = IsAccepted asked reply × AreAccepted list replies
AreAccepted [] (reply ∷ replies) = ⊥
AreAccepted (asked ∷ list) [] = ⊥

-- n is behind b: b is its owner, or its owner is behind b
pub data IsBehind (plan : Plan) : ℕ → ℕ → Type 0 where
  owned : {n b : ℕ} → IsOwnedBy plan n b → IsBehind plan n b
  further : {n b : ℕ} (m : ℕ) → IsOwnedBy plan n m → IsBehind plan m b → IsBehind plan n b

abbrev pub HoldsEid : DeviceValue → ℕ → Type 0
HoldsEid d e = option_map (λ held. held.eid) d.eid ≡ Some e

-- e is one of the EIDs of the pool that the device holds
abbrev pub HasInPool : DeviceValue → ℕ → Type 0
HasInPool d e = IsSomeAnd d.pool (λ held. IsWithin held.first held.size e)

-- the device holds the node's EID and pool, if it has one
pub record HoldsPlanned (node : Node) (d : DeviceValue) : Type 0 where
  pub eid : HoldsEid d node.eid.value
  pub pool : option_map {U = ℕ × ℕ} (λ held. (held.first, held.size)) d.pool
      ≡ option_map {U = ℕ × ℕ} (λ pool. (pool.first.value, pool.size)) node.pool

-- What the devices of a plan hold once all is assigned.
pub record AreAssigned (plan : Plan) (devices : List DeviceValue) : Type 0 where
  -- each device holds what is planned
  pub planned : (n : ℕ) (node : Node) → node_at plan n ≡ Some node
      → (d : DeviceValue) × (slice_get devices n ≡ Some d) × HoldsPlanned node d
  pub as_many : length devices ≡ length plan.nodes.items
  -- no EID is held twice
  pub distinct : (m n e : ℕ) (c d : DeviceValue) → slice_get devices m ≡ Some c → slice_get devices n ≡ Some d
      → HoldsEid c e → HoldsEid d e → m ≡ n
  -- an EID that is held lies in a device's pool exactly where its holder is behind that device
  pub pools : (b n e : ℕ) (c d : DeviceValue) → slice_get devices b ≡ Some c → slice_get devices n ≡ Some d
      → HoldsEid d e → (HasInPool c e ↔ IsBehind plan n b)

-- the list can be carried out, whatever the routing tables
unfoldable pub CanBeCarriedOut : Plan → List AssignmentValue → Type 0
CanBeCarriedOut plan list = (tables : ℕ → List EntryValue)
    → (replies : List (Option (List ℕ))) × (after : List DeviceValue)
    × AssignRun tables (devices_at_start plan) list replies after

-- however the list is carried out, each request is accepted
unfoldable pub IsAcceptedThroughout : Plan → List AssignmentValue → Type 0
IsAcceptedThroughout plan list =
    (tables : ℕ → List EntryValue) (replies : List (Option (List ℕ))) (after : List DeviceValue)
    → AssignRun tables (devices_at_start plan) list replies after → AreAccepted list replies

-- once it is carried out, all is assigned
unfoldable pub AssignsAll : Plan → List AssignmentValue → Type 0
AssignsAll plan list = (tables : ℕ → List EntryValue) (replies : List (Option (List ℕ))) (after : List DeviceValue)
    → AssignRun tables (devices_at_start plan) list replies after → AreAssigned plan after

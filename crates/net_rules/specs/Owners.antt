-- The owners of nodes, and the levels that a certificate gives.
use Rattle.std.specs.Prelude.{ℕ, ◌<◌}
use Rattle.plan_values.{specs.declared.plan.Plan.{Plan}, specs.declared.certificate.Certificate.{Certificate}}
use Rattle.net_tables.{specs.Routing.{IsBridge}, specs.Rows.{IsOnBus}, specs.Ownership.{IsOwnedBy, level}}

-- each of the two has a port on one bus
unfoldable pub ShareBus : Plan → ℕ → ℕ → Type 0
ShareBus plan n m = (bus : ℕ) × IsOnBus plan n bus × IsOnBus plan m bus

-- n's owner, if it has one, is a bridge that shares a bus with it
unfoldable pub HasBridgeAsOwner : Plan → ℕ → Type 0
HasBridgeAsOwner plan n = (owner : ℕ) → IsOwnedBy plan n owner → IsBridge plan owner × ShareBus plan n owner

-- n's owner, if it has one, is of a lower level
unfoldable pub IsBelowItsOwner : Plan → Certificate → ℕ → Type 0
IsBelowItsOwner plan cert n = (owner : ℕ) → IsOwnedBy plan n owner → level plan cert owner < level plan cert n

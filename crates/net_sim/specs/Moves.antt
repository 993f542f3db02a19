-- What is decided on a move before anything has changed.
use Rattle.std.specs.Prelude.{◌≡◌, ◌≤◌, ℕ, All, Bool, true, List, [], length, MatchOption, Option, Some}
use Rattle.mctp_transport.{specs.PacketValues.{key_of}, specs.Packets.{key_value}, specs.declared.packet.Header.{Header}}
use Rattle.mctp_routing.specs.declared.decision.Decision.TheVariants.{Here}
use Rattle.net_runs.{specs.States.{Flight}, specs.Events.{most_flights}, specs.Networks.{IsDecided}}
use Rattle.net_sim.{specs.Flights.{flight_at}, specs.Routers.{RouterValue, rows_in_force, GoesOnWithinRank}, specs.Receiving.{HasRoomAfter}, specs.Traffics.{HasRoomAt}, specs.NetworkWalkers.{walker_value, Listens, ListensAt}, specs.declared.traffic.Traffic.{Traffic}, specs.declared.traffic.moving.DecidedMove.{DecidedMove}, specs.declared.traffic.moving.Room.{Room}, specs.declared.network_walker.NetworkWalker.{NetworkWalker}}

-- What is said of a move of the flight is so: where it is, the key of its packet, whether that ends a message, its
-- hops, and what is decided by the rows in force.
pub record IsDecidedOn (router : RouterValue) (f : Flight) (m : DecidedMove) : Type 0 where
  pub node : m.node ≡ f.node
  pub key : key_value m.key ≡ key_of f.packet
  pub ends : m.header.eom ≡ f.packet.eom
  pub hops : m.hops ≡ f.hops
  pub decided : IsDecided router.tables.plan (rows_in_force router f.node) f m.decision
  pub goes_on : GoesOnWithinRank router.tables.plan router.certificate f m.decision

-- the flight of this number is there, and so it is decided on it
abbrev pub IsDecidedMove : RouterValue → List (Option Flight) → ℕ → DecidedMove → Type 0
IsDecidedMove router flights number m = (f : Flight) × (flight_at flights number ≡ Some f) × IsDecidedOn router f m

-- where a copy is to move, a number is left for it
abbrev pub HasNumberFor : List (Option Flight) → Bool → Type 0
HasNumberFor flights keep = keep ≡ true → length flights ≤ most_flights

-- at the node there is room for a message that ends with a packet of this header, twice, and for one more that waits
abbrev pub IsRoomAt : {T : Type 0} → Traffic T → ℕ → Header → Room → Type 0
IsRoomAt traffic node header room = (room.told.items ≡ []) × HasRoomAfter header room.told
    × (room.kept.items ≡ []) × HasRoomAfter header room.kept × HasRoomAt traffic node

-- where the packet enters its node, the index of the walker that listens there under its key; else there is none
abbrev pub FindsListener : DecidedMove → List NetworkWalker → Option ℕ → Type 0
FindsListener m walkers found = MatchOption found
    (m.decision ≡ Here → All (λ walker. ¬ Listens m.node (key_value m.key) (walker_value walker)) walkers)
    (λ index. (m.decision ≡ Here) × ListensAt m.node (key_value m.key) walkers index)

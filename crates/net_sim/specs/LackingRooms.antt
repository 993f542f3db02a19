-- What room an event of a network lacks where memory is wanted.
use Rattle.std.specs.Prelude.{◌≡◌, ◌⊎◌, ◌<◌, ℕ, length, true, Some, slice_get}
use Rattle.mctp_transport.specs.PacketValues.{PacketValue, KeyValue, key_of, Spelled}
use Rattle.net_tables.specs.Routing.{Holds}
use Rattle.net_runs.{specs.States.{Flight, destination, unit_of}, specs.Events.{EventValue, Put, Move, Lose, Expire, AnswerAt, Switch}, specs.Walkers.{WalkedEvent, Happening, BeginWalk, Ask, TellWalk}}
use Rattle.net_sim.{specs.Flights.{slots_of, flight_at, room_of}, specs.Traffics.{HasRoomAt}, specs.NetworkWalkers.{walker_value, IsReady, Listens}, specs.declared.traffic.Traffic.{Traffic}, specs.declared.network.Network.{Network}, specs.declared.network_walker.NetworkWalker.{NetworkWalker}}

-- so many flights more can't be made without growing
abbrev pub LacksFlights : {T : Type 0} → Traffic T → ℕ → Type 0
LacksFlights traffic count = room_of traffic.flights < count

-- the flight of this number is at its destination
abbrev pub IsAtItsEnd : {T : Type 0} → Traffic T → ℕ → Flight → Type 0
IsAtItsEnd traffic number f =
    (flight_at (slots_of traffic.flights) number ≡ Some f) × Holds traffic.router.tables.plan f.node (destination f)

-- it is so at this node, with a packet of this key
abbrev pub ArrivesAt : {T : Type 0} → Traffic T → ℕ → ℕ → KeyValue → Type 0
ArrivesAt traffic number node key =
    (f : Flight) × IsAtItsEnd traffic number f × (f.node ≡ node) × (key_of f.packet ≡ key)

-- The event makes memory of its own, for a payload of more than 64 bytes or for a message that ends; or there is no
-- room for its flights, or for one message more that waits at the node where a flight ends.
abbrev pub LacksRoom : {T : Type 0} → Traffic T → EventValue → Type 0
LacksRoom traffic (Put node bytes) =
    LacksFlights traffic 1
    ⊎ ((p : PacketValue) × Spelled (unit_of traffic.router.tables.plan) p bytes × (64 < length p.payload))
LacksRoom traffic (Move number keep) =
    ((keep ≡ true) × (LacksFlights traffic 1 ⊎ ((f : Flight)
    × (flight_at (slots_of traffic.flights) number ≡ Some f) × (64 < length f.packet.payload))))
    ⊎ ((f : Flight) × IsAtItsEnd traffic number f × ((f.packet.eom ≡ true) ⊎ ¬ HasRoomAt traffic f.node))
LacksRoom traffic (Lose number) = ⊥
LacksRoom traffic (Expire node key) = ⊥
LacksRoom traffic (AnswerAt node) = LacksFlights traffic 64 ⊎ (64 < unit_of traffic.router.tables.plan)
LacksRoom traffic (Switch node) = ⊥

-- a message comes with the move, and the walker that it is for has no room for it
abbrev pub WalkerLacksRoom : {T : Type 0} → Network T → ℕ → Type 0
WalkerLacksRoom network number =
    (node : ℕ) × (key : KeyValue) × ArrivesAt network.traffic number node key
    × (k : ℕ) × (walker : NetworkWalker) × (slice_get network.walkers.items k ≡ Some walker)
    × Listens node key (walker_value walker) × ¬ IsReady walker

-- The event lacks room among the packets; or a walker for its message; or it is a walk that begins, which makes memory
-- of its own; or there is no room for the flight of a request.
abbrev pub NetworkLacksRoom : {T : Type 0} → Network T → WalkedEvent → Type 0
NetworkLacksRoom network (Happening (Move number keep)) =
    LacksRoom network.traffic (Move number keep) ⊎ WalkerLacksRoom network number
NetworkLacksRoom network (Happening event) = LacksRoom network.traffic event
NetworkLacksRoom network (BeginWalk node eid tag count) = Unit {0}
NetworkLacksRoom network (Ask k) = LacksFlights network.traffic 1
NetworkLacksRoom network (TellWalk k) = ⊥

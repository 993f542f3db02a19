-- The hops of a run: each packet that an event moved from a node to the next one.
use Rattle.std.{specs.Prelude.{◌≡◌, ℕ, ◌+◌, ◌-◌, ◌^◌, ◌==◌, ◌&&◌, Bool, nat_le, nat_lt, min, List, [], ◌∷◌, ◌++◌, Option, Some, None, find, option_map, slice_get}, specs.Option.{option_and_then, option_to_list}}
use Rattle.bus_captures.specs.Written.{CarriedValue}
use Rattle.mctp_transport.specs.PacketValues.{packet_value_bytes}
use Rattle.plan_values.{specs.declared.nodes.Port.{Port}, specs.declared.nodes.Row.{Row}, specs.declared.plan.Plan.{Plan}}
use Rattle.net_runs.{specs.Events.{Move, Moved, OutcomeValue}, specs.States.{Flight}, specs.WalkedRuns.{WalkedTurn}, specs.Walkers.{Happened, Happening, WalkedEvent, WalkedOutcome, WalkedState}}
use Rattle.net_tables.specs.Routing.{ports_of, rows_of}
use Rattle.bus_commands.specs.declared.departure.Departure.{Departure}

-- a packet that is to move: the node where it is, its destination, and its bytes
pub record DepartureValue : Type 0 where
  pub node : ℕ
  pub destination : ℕ
  pub bytes : List ℕ

abbrev pub departure_value : Departure → DepartureValue
departure_value d = record { node = d.node; destination = d.destination.value; bytes = d.bytes.items }

abbrev pub flight_departure : Flight → DepartureValue
flight_departure f =
    record { node = f.node; destination = f.packet.destination; bytes = packet_value_bytes f.packet }

-- the flight that the event is to move, if it is such an event
abbrev pub moving : WalkedEvent → Option ℕ
moving (Happening (Move number keep)) = Some number
moving _ = None

-- the packet that the event is to move, if there is one
abbrev pub departing : WalkedState → WalkedEvent → Option DepartureValue
departing w event =
    option_and_then (λ number. option_map flight_departure (w.network.flight number)) (moving event)

-- this is the packet that the event is to move, if there is one
abbrev pub IsDeparture : WalkedState → WalkedEvent → Option Departure → Type 0
IsDeparture w event departure = option_map departure_value departure ≡ departing w event

-- the node to which a packet went on, if one did
abbrev pub reached : OutcomeValue → Option ℕ
reached (Moved number node hops) = Some node
reached _ = None

-- the same of an outcome with walkers
abbrev pub arriving : WalkedOutcome → Option ℕ
arriving (Happened outcome handed) = reached outcome
arriving _ = None

-- the row covers the endpoint ID and leads to the node
abbrev pub leads : ℕ → ℕ → Row → Bool
leads e next row = nat_le row.first.value e && nat_lt e (row.first.value + row.size) && (row.next == next)

-- the port of the first row of n for e that leads to the next node
abbrev pub port_towards : Plan → ℕ → ℕ → ℕ → Option Port
port_towards plan n e next =
    option_and_then (λ row. slice_get (ports_of plan n) row.port) (find (leads e next) (rows_of plan n))

-- a number of four bytes: the largest one for a larger number
abbrev pub stamp : ℕ → ℕ
stamp number = min number (2 ^ 32 - 1)

-- the number of a port's bus in the plan's list, counted from 1, and the address of the port; 0 and none without a port
abbrev pub interface_of : Option Port → ℕ
interface_of None = 0
interface_of (Some port) = stamp (port.bus + 1)

abbrev pub address_of : Option Port → List ℕ
address_of None = []
address_of (Some port) = port.address.items

-- The packet as it went to the next node: at the second of the event's number, over the bus of the sending port, from
-- that port's address.
abbrev pub carried : Plan → ℕ → DepartureValue → ℕ → CarriedValue
carried plan number d next = record {
  seconds = stamp number;
  nanoseconds = 0;
  interface = interface_of (port_towards plan d.node d.destination next);
  address = address_of (port_towards plan d.node d.destination next);
  bytes = d.bytes;
}

-- a packet that left and arrived has made a hop
abbrev pub hop_between : Plan → ℕ → Option DepartureValue → Option ℕ → Option CarriedValue
hop_between plan number (Some d) (Some next) = Some (carried plan number d next)
hop_between plan number _ _ = None

-- the hop of a turn, which is that of the event of this number, from this state
abbrev pub hop_of : Plan → WalkedState → ℕ → WalkedTurn → Option CarriedValue
hop_of plan w number turn = hop_between plan number (departing w turn.event) (arriving turn.outcome)

-- the hops of the turns of a run, the first of which has this number
abbrev pub hops_from : Plan → WalkedState → ℕ → List WalkedTurn → List CarriedValue
hops_from plan w number [] = []
hops_from plan w number (turn ∷ turns) =
    option_to_list (hop_of plan w number turn) ++ hops_from plan turn.after (number + 1) turns

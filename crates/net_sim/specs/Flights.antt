-- The flights that a network holds, each under its number.
use Rattle.std.{specs.Prelude.{ℕ, ◌+◌, ◌-◌, ◌==◌, if◌then◌else◌, List, [], ◌∷◌, map, length, slice_get, Option, Some, None, option_map, option_and_then, vec_capacity}, specs.List.{range_with_len}}
use Rattle.mctp_transport.specs.PacketValues.{PacketValue}
pub use Rattle.net_sim.specs.FlightValues.{flight_value}
use Rattle.net_sim.{specs.declared.flights.Flight.{Flight}, specs.declared.flights.Slot.{Slot}, specs.declared.flights.Flights.{Flights}}
use Rattle.net_runs.specs.States as state

-- the flight that is kept under a number
abbrev pub kept : List Slot → ℕ → Option Flight
kept [] number = None
kept (slot ∷ slots) number = if slot.number == number then slot.flight else kept slots number

-- number by number, from 0 to the last that was given, the flight that is there
abbrev pub slots_of : Flights → List (Option state.Flight)
slots_of flights =
    map (λ number. option_map flight_value (kept flights.slots.items number)) (range_with_len 0 flights.next)

-- the flight of a number
abbrev pub flight_at : List (Option state.Flight) → ℕ → Option state.Flight
flight_at slots number = option_and_then (λ f. f) (slice_get slots number)

-- a flight one hop further, at this node
abbrev pub gone_on : ℕ → state.Flight → state.Flight
gone_on node f = record f { node = node; hops = f.hops + 1 }

-- how many numbers more can be given without growing
abbrev pub room_of : Flights → ℕ
room_of flights = vec_capacity flights.slots - length flights.slots.items

-- a flight of a packet that begins at the node
abbrev pub begun : ℕ → PacketValue → Option state.Flight
begun node p = Some (record { packet = p; origin = node; node = node; hops = 0 })

-- What a network holds, as plain lists.
use Rattle.std.specs.Prelude.{◌≡◌, ◌<◌, ◌≤◌, ℕ, length, List, map, option_map, Option, Some, slice_get, Result, MatchResult}
use Rattle.plan_values.specs.declared.certificate.Certificate.{Certificate}
use Rattle.net_tables.specs.TwoPlans.{Tables}
use Rattle.pdr_repository.specs.Records.{Entry}
use Rattle.net_sim.{specs.declared.effect.Effect.{Effect}, specs.declared.terminus_queue.TerminusQueue.{TerminusQueue}, specs.declared.traffic.Traffic.{Traffic}, specs.Effects.{effect_value}, specs.Flights.{slots_of, room_of}, specs.TerminusQueues.{queue_state, HasRoomFor}, specs.Standing.{TrafficValue, Plays, Wants}}
use Rattle.net_runs.specs.Events.{EventValue, most_flights}

-- the tables of the network, of one plan or of two, and the certificate for them
abbrev pub traffic_checked : {T : Type 0} → Traffic T → Tables × Certificate
traffic_checked network = (network.router.tables, network.router.certificate)

-- by the terminus IDs and the records that the termini mean
abbrev pub traffic_value : {T : Type 0} → (T → ℕ) → (T → List Entry) → Traffic T → TrafficValue
traffic_value tid records network = record {
  flights = slots_of network.flights;
  assemblers = network.assemblers.items;
  termini = map (option_map (queue_state tid records)) network.queues.items;
  switched = network.router.switched;
}

-- this effect is what comes of the event
abbrev pub HasEffect : {T : Type 0} → (T → ℕ) → (T → List Entry) → Traffic T → EventValue → Effect → Traffic T → Type 0
HasEffect tid records old event effect new =
    Plays old.router.tables (traffic_value tid records old) event (effect_value effect) (traffic_value tid records new)

-- so it is, or memory ran out, and nothing has changed
abbrev pub EndsInEffect : {T E : Type 0} → (T → ℕ) → (T → List Entry) → Traffic T → EventValue → Result Effect E
    → Traffic T → Type 0
EndsInEffect tid records old event result new = MatchResult result
    (λ effect. HasEffect tid records old event effect new)
    (λ _. Wants old.router.tables (traffic_value tid records old) event (traffic_value tid records new))

-- where the node has a terminus, one message more can wait there without growing
abbrev pub HasRoomAt : {T : Type 0} → Traffic T → ℕ → Type 0
HasRoomAt {T} network node =
    (d : Option (TerminusQueue T)) → slice_get network.queues.items node ≡ Some d → HasRoomFor d

-- a flight number is left, and one flight more can be made without growing
abbrev pub HasNumberAndRoom : {T : Type 0} → Traffic T → Type 0
HasNumberAndRoom network = (length (slots_of network.flights) ≤ most_flights) × (0 < room_of network.flights)

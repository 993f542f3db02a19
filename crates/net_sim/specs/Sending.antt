-- The packets of an answer, or the one packet of a request, are put in at a node.
use Rattle.std.specs.Prelude.{◌≡◌, ℕ, ◌+◌, List, [], ◌∷◌, ◌++◌, length, map, Option}
use Rattle.mctp_transport.{specs.PacketValues.{PacketValue, KeyValue, Spelled}, specs.Cutting.{ArePacketsOf}}
use Rattle.plan_values.specs.declared.plan.Plan.{Plan}
use Rattle.net_tables.{specs.Routing.{Holds}, specs.TwoPlans.{Tables}}
use Rattle.net_runs.{specs.States.{Flight, unit_of}, specs.Networks.{answer_key}, specs.Events.{Put, OutcomeValue, Answered, PutIn}}
use Rattle.net_sim.{specs.Flights.{begun}, specs.Standing.{TrafficValue, Plays}}

-- The packets of the answer to a message of this key are put in at the node, which holds the key's source,
-- as the flights that the outcome tells.
pub record Sends (plan : Plan) (node : ℕ) (asked : KeyValue) (answer : List ℕ) (old : List (Option Flight))
    (outcome : OutcomeValue) (new : List (Option Flight)) : Type 0 where
  pub eid : ℕ
  pub packets : List PacketValue
  pub first : ℕ
  pub last : ℕ
  pub holds : Holds plan node eid
  pub are : ArePacketsOf (unit_of plan) answer asked.source (answer_key eid asked) 0 packets
  pub tells : outcome ≡ Answered node first last
  pub begins : first ≡ length old
  pub ends : last + 1 ≡ length old + length packets
  pub flights : new ≡ old ++ map (begun node) packets

-- The message is one packet, and that packet's bytes are put in at the node, as the flight of this number.
pub record PutsOne (tables : Tables) (old : TrafficValue) (node : ℕ) (message : List ℕ) (destination : ℕ)
    (key : KeyValue) (number : ℕ) (new : TrafficValue) : Type 0 where
  pub packet : PacketValue
  pub bytes : List ℕ
  pub cut : ArePacketsOf (unit_of tables.plan) message destination key 0 (packet ∷ [])
  pub spelled : Spelled (unit_of tables.plan) packet bytes
  pub plays : Plays tables old (Put node bytes) (PutIn number node) new

-- What a network holds with its walkers, as plain lists, and what its calls do to that.
use Rattle.std.specs.Prelude.{◌≡◌, ℕ, List, map, take, length, Result, MatchResult}
use Rattle.plan_values.{specs.declared.certificate.Certificate.{Certificate}, specs.declared.event.Event.{Event}, specs.declared.plan.Plan.{Plan}}
use Rattle.net_tables.specs.TwoPlans.{Tables}
use Rattle.pdr_repository.specs.Records.{Entry}
use Rattle.net_runs.{specs.States.{at_start}, specs.Walkers.{WalkedEvent, WalkedOutcome}}
use Rattle.net_sim.{specs.declared.network.Network.{Network}, specs.declared.network.Played.{Played}, specs.declared.outcome.Outcome.{Outcome}, specs.Dealing.{resting, at_rest, planned_termini}, specs.NetworkWalkers.{walker_value}, specs.Outcomes.{event_value, outcome_value}, specs.Traffics.{traffic_value, traffic_checked}, specs.WalkedStanding.{NetworkValue, StandsForWalked, WalkedPlays, WalkedWants, without_walkers}}

-- the tables of the network, of one plan or of two, and the certificate for them
abbrev pub checked_of : {T : Type 0} → Network T → Tables × Certificate
checked_of network = traffic_checked network.traffic

-- by the terminus IDs and the records that the termini mean
abbrev pub network_value : {T : Type 0} → (T → ℕ) → (T → List Entry) → Network T → NetworkValue
network_value tid records network = record {
  traffic = traffic_value tid records network.traffic;
  walkers = map walker_value network.walkers.items;
}

-- nothing has happened yet, over these termini
abbrev pub StandsAtRest : {T : Type 0} → (T → ℕ) → (T → List Entry) → Plan → List T → Network T → Type 0
StandsAtRest tid records plan termini network = StandsForWalked (network_value tid records network)
    (without_walkers (at_rest plan (map (resting tid records) termini)))

-- where they are as planned, each run starts so
abbrev pub StandsAtStart : {T : Type 0} → (T → ℕ) → (T → List Entry) → Plan → Certificate → List T → Network T → Type 0
StandsAtStart tid records plan cert termini network =
    map (resting tid records) termini ≡ planned_termini plan cert
    → StandsForWalked (network_value tid records network) (without_walkers (at_start plan cert))

-- this outcome is what comes of the event
abbrev pub HasOutcome : {T : Type 0} → (T → ℕ) → (T → List Entry) → Network T → WalkedEvent → Outcome → Network T
    → Type 0
HasOutcome tid records old event outcome new =
    WalkedPlays (checked_of old).0 (network_value tid records old) event (outcome_value outcome)
    (network_value tid records new)

-- so it is, or memory ran out, and nothing has changed
abbrev pub EndsInOutcome : {T E : Type 0} → (T → ℕ) → (T → List Entry) → Network T → WalkedEvent → Result Outcome E
    → Network T → Type 0
EndsInOutcome tid records old event result new = MatchResult result
    (λ outcome. HasOutcome tid records old event outcome new)
    (λ _. WalkedWants (checked_of old).0 (network_value tid records old) event (network_value tid records new))

-- This is said of the events that were played, of what came of them, and of what the network held before and after.
abbrev pub OfPlayed : {T : Type 0}
    → (Tables → NetworkValue → List WalkedEvent → List WalkedOutcome → NetworkValue → Type 0)
    → (T → ℕ) → (T → List Entry) → Network T → List Event → Played → Network T → Type 0
OfPlayed Says tid records old events played new = Says (checked_of old).0 (network_value tid records old)
    (take (length played.outcomes.items) (map event_value events)) (map outcome_value played.outcomes.items)
    (network_value tid records new)

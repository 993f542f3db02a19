-- Events and what comes of them, as plain values.
use Rattle.std.specs.Prelude.{ℕ, List, codes, option_map}
use Rattle.mctp_transport.specs.Packets.{key_value}
use Rattle.plan_values.specs.declared.event.Event.{Event}
use Rattle.net_runs.{specs.Events.{Put, Move, Lose, Expire, AnswerAt, Switch}, specs.Walkers.{WalkedEvent, Happening, BeginWalk, Ask, TellWalk, WalkedOutcome, Happened, Begun, Asked, ToldWalk, WalkRefused}}
use Rattle.net_sim.{specs.declared.handed.Handed.{Handed}, specs.declared.standing.Standing.{Standing}, specs.declared.standing.Standing.TheVariants.{Open, Done, Ended}, specs.declared.walk_refusal.WalkRefusal.{WalkRefusal}, specs.declared.walk_refusal.WalkRefusal.TheVariants.{Shared, WalkerThere, NoTerminusThere, WrongCount, NoWalker, Unsettled, WalkOver}, specs.declared.outcome.Outcome.{Outcome}, specs.Effects.{effect_value, refusal_value, refusal_code}}
use Rattle.plan_values.specs.declared.event.Event.TheVariants as event
use Rattle.net_runs.specs.Walkers as value
use Rattle.net_sim.specs.declared.outcome.Outcome.TheVariants as outcome

abbrev pub event_value : Event → WalkedEvent
event_value (event.Put node bytes) = Happening (Put node bytes.items)
event_value (event.Move flight keep) = Happening (Move flight keep)
event_value (event.Lose flight) = Happening (Lose flight)
event_value (event.Expire node key) = Happening (Expire node (key_value key))
event_value (event.Answer node) = Happening (AnswerAt node)
event_value (event.Switch node) = Happening (Switch node)
event_value (event.Walk node eid tag count) = BeginWalk node eid.value tag.value count
event_value (event.Ask walker) = Ask walker
event_value (event.Collected walker) = TellWalk walker

abbrev pub walk_refusal_value : WalkRefusal → value.WalkRefusal
walk_refusal_value (Shared why) = value.Also (refusal_value why)
walk_refusal_value WalkerThere = value.N08
walk_refusal_value NoTerminusThere = value.N09
walk_refusal_value WrongCount = value.N10
walk_refusal_value NoWalker = value.N11
walk_refusal_value Unsettled = value.N12
walk_refusal_value WalkOver = value.N13

abbrev pub handed_value : Handed → value.Handed
handed_value handed = record { number = handed.walker; result = handed.result }

abbrev pub standing_value : Standing → value.Standing
standing_value Open = value.Open
standing_value Done = value.Finished
standing_value (Ended fault) = value.EndedBy fault

abbrev pub outcome_value : Outcome → WalkedOutcome
outcome_value (outcome.Happened effect handed) = Happened (effect_value effect) (option_map handed_value handed)
outcome_value (outcome.Begun walker) = Begun walker
outcome_value (outcome.Asked walker number) = Asked walker number
outcome_value (outcome.Collected walker records standing) = ToldWalk walker records (standing_value standing)
outcome_value (outcome.Refused why) = WalkRefused (walk_refusal_value why)

-- the code that users see
abbrev pub walk_refusal_code : WalkRefusal → List ℕ
walk_refusal_code (Shared why) = refusal_code why
walk_refusal_code WalkerThere = codes "N08"
walk_refusal_code NoTerminusThere = codes "N09"
walk_refusal_code WrongCount = codes "N10"
walk_refusal_code NoWalker = codes "N11"
walk_refusal_code Unsettled = codes "N12"
walk_refusal_code WalkOver = codes "N13"

-- What the end of `simmove` says of the files that it read, and of what it wrote.
use Rattle.std.specs.Prelude.{◌⊎◌, ℕ, List, map}
use Rattle.net_tables.specs.TwoPlans.{moving}
use Rattle.net_runs.specs.Walkers.{WalkedEvent}
use Rattle.net_sim.specs.Outcomes.{event_value}
use Rattle.plan_values.{specs.declared.plan.Plan.{Plan}, specs.declared.certificate.Certificate.{Certificate}, specs.declared.event.Event.{Event}}
use Rattle.command_answers.{specs.declared.refused.Refused.{Refused}, specs.declared.status.Status.{Status}, specs.Answers.{Stream}, specs.Moves.{IsMoveGiven, IsMoveFaultText, IsMoveUnread}, specs.Inputs.{GaveEvents, AreEventsUnread}}
use Rattle.play_commands.specs.Simulating.{RunsIn, IsTextIn}

-- the sources gave the plans, the certificate, and the events at the nodes of the plan before
pub record IsPlayGiven (befores afters certificates happenings : Stream) (before after : Plan)
    (certificate : Certificate) (events : List Event) : Type 0 where
  pub inputs : IsMoveGiven befores afters certificates before after certificate
  pub events_text : GaveEvents before happenings events

-- so it is of the move
abbrev pub MovesOn : Plan → Plan → Certificate → List WalkedEvent → Status → Stream → Type 0
MovesOn before after = RunsIn (moving before after)

-- The text answers on them: where every rule of a move holds it is the lines of what comes of a beginning of the
-- events, in a run of the move in which the walkers have walked, else the line of the first fault.
abbrev pub IsMovePlayText : Plan → Plan → Certificate → List WalkedEvent → List ℕ → Type 0
IsMovePlayText before after certificate events text =
    IsTextIn (moving before after) certificate events text ⊎ IsMoveFaultText before after certificate text

-- the sources gave two plans, a certificate and events at the nodes of the plan before, of which this is so
abbrev pub AreOfMoveFiles : (Plan → Plan → Certificate → List WalkedEvent → Type 0) → Stream → Stream → Stream → Stream
    → Type 0
AreOfMoveFiles IsSo befores afters certificates happenings =
    (before : Plan) × (after : Plan) × (certificate : Certificate) × (events : List Event)
    × IsPlayGiven befores afters certificates happenings before after certificate events
    × IsSo before after certificate (map event_value events)

abbrev pub TellsMovedRun : Stream → Stream → Stream → Stream → Status → Stream → Type 0
TellsMovedRun befores afters certificates happenings ended output =
    AreOfMoveFiles (λ before after certificate events. MovesOn before after certificate events ended output)
    befores afters certificates happenings

abbrev pub IsPlayFault : Stream → Stream → Stream → Stream → List ℕ → Type 0
IsPlayFault befores afters certificates happenings text =
    AreOfMoveFiles (λ before after certificate events. IsMoveFaultText before after certificate text)
    befores afters certificates happenings

abbrev pub IsPlayAnswer : Stream → Stream → Stream → Stream → List ℕ → Type 0
IsPlayAnswer befores afters certificates happenings text =
    AreOfMoveFiles (λ before after certificate events. IsMovePlayText before after certificate events text)
    befores afters certificates happenings

-- why the inputs were not read; each is read only where those before it were given
abbrev pub IsPlayUnread : Refused → Stream → Stream → Stream → Stream → Type 0
IsPlayUnread why befores afters certificates happenings = IsMoveUnread why befores afters certificates
    ⊎ ((before : Plan) × (after : Plan) × (certificate : Certificate)
    × IsMoveGiven befores afters certificates before after certificate × AreEventsUnread why before happenings)

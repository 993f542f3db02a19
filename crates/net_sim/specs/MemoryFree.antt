-- Events that take no memory.
use Rattle.std.specs.Prelude.{◌≡◌, ◌⊎◌, ℕ, Some, false}
use Rattle.plan_values.specs.declared.plan.Plan.{Plan}
use Rattle.net_tables.{specs.Routing.{Holds}, specs.TwoPlans.{Tables}}
use Rattle.net_runs.{specs.States.{NetworkState, Flight, destination}, specs.Events.{Move, Lose, Expire, Switch, Refusal, IsRefused}, specs.Walkers.{WalkedState, WalkedEvent, Happening, TellWalk, WalkRefusal, IsWalkRefused}}
use Rattle.net_sim.specs.WalkedStanding.{WalkedMayWant}

-- the flight of this number, if there is one, is not at its destination, so a move of it enters no node
abbrev pub EntersNoNode : Plan → NetworkState → ℕ → Type 0
EntersNoNode plan w number = (f : Flight) → w.flight number ≡ Some f → ¬ Holds plan f.node (destination f)

-- A loss, an expiry, a move without a copy that enters no node, a switch, or what a walker has collected is told.
abbrev pub TakesNoRoom : Plan → WalkedState → WalkedEvent → Type 0
TakesNoRoom plan w (Happening (Lose number)) = Unit {0}
TakesNoRoom plan w (Happening (Expire node key)) = Unit {0}
TakesNoRoom plan w (Happening (Move number false)) = EntersNoNode plan w.network number
TakesNoRoom plan w (Happening (Switch node)) = Unit {0}
TakesNoRoom plan w (TellWalk walker) = Unit {0}
TakesNoRoom plan w _ = ⊥

-- the event is refused, by the network or as one of walks
abbrev pub IsRefusedThere : Tables → WalkedState → WalkedEvent → Type 0
IsRefusedThere tables w (Happening event) = (why : Refusal) × IsRefused tables w.network event why
IsRefusedThere tables w event = (why : WalkRefusal) × IsWalkRefused tables.plan w event why

-- Memory never runs out at such an event, nor at one that is refused.
abbrev pub NeverWants : Tables → WalkedState → WalkedEvent → Type 0
NeverWants tables w event =
    IsRefusedThere tables w event ⊎ TakesNoRoom tables.plan w event → ¬ WalkedMayWant tables w event

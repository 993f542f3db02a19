-- Where what is sent keeps apart, the whole messages that a network tells are those that were sent.
use Rattle.std.{specs.Prelude.{◌≡◌, ℕ, ◌*◌, ◌≤◌, List, length, slice_get, Option, Some}, specs.List.{zip}}
use Rattle.mctp_transport.specs.PacketValues.{KeyValue}
use Rattle.plan_values.specs.declared.plan.Plan.{Plan}
use Rattle.net_tables.{specs.Routing.{Holds}, specs.TwoPlans.{Tables}}
use Rattle.net_runs.{specs.ExactMessages.{Epoch, IsQuiet}, specs.Walkers.{WalkedState, WalkedEvent, WalkedOutcome, Handed, BringsWholeAt}, specs.WalkedMessages.{IsWalkedTidyFrom}}
use Rattle.net_sim.{specs.WalkedStanding.{NetworkValue, StandsForWalked}, specs.Played.{IsRunOf}}

-- Each whole message that the outcomes tell under the key, at a node that holds d, is the message of the epoch at the
-- outcome's index, where that is of five packets at most.
abbrev pub TellWhatWasSent : (unit : ℕ) → Plan → KeyValue → ℕ → List WalkedOutcome → List Epoch → Type 0
TellWhatWasSent unit plan key d outcomes epochs =
    (i number n : ℕ) (message : List ℕ) (epoch : Epoch) (handed : Option Handed)
    → BringsWholeAt outcomes i number n key message handed
    → slice_get epochs i ≡ Some epoch → Holds plan n d → length epoch.message ≤ 5 * unit → message ≡ epoch.message

-- Where a key is quiet for d at first, and the turns of the run are tidy in epochs, one for each
-- turn, the outcomes tell what was sent.
abbrev pub IsToldAsSent : (unit : ℕ) {tables : Tables} {w : WalkedState} {events : List WalkedEvent}
    {outcomes : List WalkedOutcome} {new : NetworkValue}
    → IsRunOf tables w events outcomes new → Type 0
IsToldAsSent unit {tables} {w} {events} {outcomes} run =
    (key : KeyValue) (d : ℕ) (first : Epoch) (epochs : List Epoch) → length epochs ≡ length outcomes
    → IsQuiet tables.plan w.network key d → IsWalkedTidyFrom unit tables.plan key d w first (zip run.turns epochs)
    → TellWhatWasSent unit tables.plan key d outcomes epochs

-- From every state that the network stood for, these events with these outcomes are the turns of a run, and
-- each such run is told as what was sent.
abbrev pub PlaysAsSent : (unit : ℕ) → Tables → NetworkValue → List WalkedEvent → List WalkedOutcome → NetworkValue
    → Type 0
PlaysAsSent unit tables old events outcomes new = (w : WalkedState) → StandsForWalked old w
    → IsRunOf tables w events outcomes new × ((run : IsRunOf tables w events outcomes new) → IsToldAsSent unit run)

-- Each whole message that a network tells joins packets that were put in before it.
use Rattle.std.specs.Prelude.{◌≡◌, ◌⊎◌, ℕ, ◌<◌, List, slice_get, Option, Some, All}
use Rattle.mctp_transport.{specs.PacketValues.{PacketValue, KeyValue, key_of}, specs.Messages.{Joined}}
use Rattle.plan_values.{specs.declared.plan.Plan.{Plan}, specs.declared.certificate.Certificate.{Certificate}}
use Rattle.net_tables.{specs.Routing.{Holds}, specs.TwoPlans.{Tables}}
use Rattle.net_runs.{specs.Walkers.{WalkedState, WalkedEvent, WalkedOutcome, Handed, BringsWholeAt}, specs.WalkedRuns.{WalkedTurn, WalkedRunOf, walked_reached}, specs.WalkedMessages.{IsPutOfWalked}, specs.WalkedPromises.{WasPutInWalked}}
use Rattle.net_sim.{specs.WalkedStanding.{NetworkValue, StandsForWalked}, specs.Played.{IsRunOf}}

-- The event at the index puts the packet in: it is a put of the packet's bytes, or an answer or a walker's request that
-- has made a flight of the packet.
pub record IsPutInAt (plan : Plan) (events : List WalkedEvent) (turns : List WalkedTurn) (index : ℕ)
    (p : PacketValue) : Type 0 where
  pub turn : WalkedTurn
  pub there : slice_get turns index ≡ Some turn
  pub event : slice_get events index ≡ Some turn.event
  pub puts : IsPutOfWalked plan turn.event turn.outcome turn.after.network p

-- the packet was put in before all these events, or by one of them whose index is less than i
abbrev pub WasPutInBefore : Plan → List WalkedTurn → List WalkedEvent → List WalkedTurn → ℕ → PacketValue → Type 0
WasPutInBefore plan before events turns i p =
    WasPutInWalked plan before p ⊎ ((index : ℕ) × (index < i) × IsPutInAt plan events turns index p)

-- Each whole message that the outcomes tell joins packets of its key, all for the node where it comes, that were put in
-- before it: in the turns before the run, or by events of the run at lesser indices.
abbrev pub TellWhatWasPutIn : {tables : Tables} {w : WalkedState} {events : List WalkedEvent}
    {outcomes : List WalkedOutcome} {new : NetworkValue}
    → List WalkedTurn → IsRunOf tables w events outcomes new → Type 0
TellWhatWasPutIn {tables} {w} {events} {outcomes} before run =
    (i number n : ℕ) (key : KeyValue) (message : List ℕ) (handed : Option Handed)
    → BringsWholeAt outcomes i number n key message handed
    → (ps : List PacketValue) × Joined ps message
    × All (λ p. WasPutInBefore tables.plan before events run.turns i p × Holds tables.plan n p.destination
    × (key_of p ≡ key)) ps

-- After every run that the network stood for, these events with these outcomes go on with it, and in each way of going
-- on with it what they tell was put in before.
abbrev pub PlaysWhatWasPutIn : Tables → Certificate → NetworkValue → List WalkedEvent → List WalkedOutcome
    → NetworkValue → Type 0
PlaysWhatWasPutIn tables cert old events outcomes new = (before : List WalkedTurn) → WalkedRunOf tables cert before
    → StandsForWalked old (walked_reached tables.plan cert before)
    → IsRunOf tables (walked_reached tables.plan cert before) events outcomes new
    × ((run : IsRunOf tables (walked_reached tables.plan cert before) events outcomes new)
    → TellWhatWasPutIn before run)

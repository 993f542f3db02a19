-- What a network with walkers has to be like so that it goes on, whatever the event.
use Rattle.std.specs.Prelude.{◌≡◌, ◌≢◌, ℕ, ◌<◌, ◌≤◌, List, Some, None, All}
use Rattle.pldm_message.{specs.InstanceIds.{IsFree}, specs.Pdrs.{PartRequest, IsPartRequest}}
use Rattle.plan_values.{specs.declared.plan.Plan.{Plan}, specs.declared.certificate.Certificate.{Certificate}}
use Rattle.net_tables.{specs.Routing.{Holds}, specs.TwoPlans.{Tables}}
use Rattle.net_runs.{specs.Termini.{TerminusState, AreBytes, HoldsBytes}, specs.States.{NetworkState, Flight}, specs.Events.{Put}, specs.ByteRuns.{RecordsAreBytes}, specs.Walkers.{WalkerValue, WalkedState, WalkedEvent, Happening, BeginWalk, WalkedOutcome}, specs.WalkedRuns.{WalkedStep, WalkedTurn, WalkedRunOf, walked_reached}}

-- no flight has a number that is still to be given
abbrev pub HasNumberedFlights : NetworkState → Type 0
HasNumberedFlights w = (number : ℕ) (f : Flight) → w.flight number ≡ Some f → number ≤ w.made

-- A walker whose requests can be put in: its node holds an endpoint ID, and this, its tag and the endpoint ID that it
-- asks fit their bits. What is due can be asked for. While a request is outstanding one is due, and while none is, an
-- ID is free.
pub record IsLawfulWalker (plan : Plan) (walker : WalkerValue) : Type 0 where
  pub home : (own : ℕ) × (own < 256) × Holds plan walker.node own
  pub tag : walker.tag < 8
  pub eid : walker.eid < 256
  pub due : (r : PartRequest) → walker.walk.due ≡ Some r → IsPartRequest r
  pub outstanding : walker.walk.waiting ≢ None → walker.walk.due ≢ None
  pub free : walker.walk.waiting ≡ None → (id : ℕ) × IsFree walker.ids id

-- the walkers are such, and have numbers up to that of the last one
pub record HasLawfulWalkers (plan : Plan) (w : WalkedState) : Type 0 where
  pub numbered : (k : ℕ) (walker : WalkerValue) → w.walker k ≡ Some walker → k ≤ w.begun
  pub lawful : (k : ℕ) (walker : WalkerValue) → w.walker k ≡ Some walker → IsLawfulWalker plan walker

-- What a network with walkers needs: its termini hold bytes, and its flights and walkers are as said above.
pub record CanGoOn (plan : Plan) (w : WalkedState) : Type 0 where
  pub termini : (n : ℕ) (t : TerminusState) → w.network.terminus n ≡ Some t → HoldsBytes t
  pub flights : HasNumberedFlights w.network
  pub walkers : HasLawfulWalkers plan w

-- some outcome and some next state are there for the event
abbrev pub WalkedGoesOn : Tables → WalkedState → WalkedEvent → Type 0
WalkedGoesOn tables w event = (outcome : WalkedOutcome) × (new : WalkedState) × WalkedStep tables w event outcome new

-- each endpoint ID that a node holds is a byte
abbrev pub EidsAreBytes : Plan → Type 0
EidsAreBytes plan = (n e : ℕ) → Holds plan n e → e < 256

-- each put puts in bytes, and the tag of each walk that begins has three bits
abbrev pub PutBytesWalked : List WalkedTurn → Type 0
PutBytesWalked turns =
    All (λ turn. ((node : ℕ) (bytes : List ℕ) → turn.event ≡ Happening (Put node bytes) → AreBytes bytes)
    × ((node eid tag count : ℕ) → turn.event ≡ BeginWalk node eid tag count → tag < 8)) turns

-- whatever the event, each such run has what it needs in order to go on, and goes on
abbrev pub WalkedRunsGoOn : Tables → Certificate → Type 0
WalkedRunsGoOn tables cert =
    (turns : List WalkedTurn) (event : WalkedEvent) → EidsAreBytes tables.plan → RecordsAreBytes tables.plan cert
    → PutBytesWalked turns → WalkedRunOf tables cert turns
    → CanGoOn tables.plan (walked_reached tables.plan cert turns)
    × WalkedGoesOn tables (walked_reached tables.plan cert turns) event

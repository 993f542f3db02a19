-- Why an event of a walk is refused, and the requests of walkers, which are put in at their nodes.
use Rattle.std.specs.Prelude.{◌≡◌, ℕ, List, Option, Some, None}
use Rattle.plan_values.specs.declared.plan.Plan.{Plan}
use Rattle.net_tables.{specs.Routing.{Holds}, specs.TwoPlans.{Tables}}
use Rattle.net_runs.{specs.States.{NetworkState}, specs.Walkers.{WalkerValue, WalkedState, WalkedEvent, WalkRefusal, N12, N13, MustWait, IsOver, AreSettled, IsWalkRefused, IsFirstWalkRefusal, asking_key}}
use Rattle.net_sim.{specs.Standing.{TrafficValue}, specs.NetworkWalkers.{TellsRequest}, specs.Sending.{PutsOne}}

-- this is why the event is refused, if it is
abbrev pub WhyNot : Plan → WalkedState → WalkedEvent → Option WalkRefusal → Type 0
WhyNot plan w event None = (why : WalkRefusal) → ¬ IsWalkRefused plan w event why
WhyNot plan w event (Some why) = IsFirstWalkRefusal plan w event why

-- Its walk isn't over, and where nothing is outstanding, both its keys are settled.
abbrev pub MayAsk : Plan → NetworkState → WalkerValue → Type 0
MayAsk plan w walker = (¬ IsOver walker)
    × (walker.walk.waiting ≡ None → (own : ℕ) → Holds plan walker.node own → AreSettled plan w own walker)

-- why it may not
abbrev pub MayNotAsk : Plan → NetworkState → WalkerValue → WalkRefusal → Type 0
MayNotAsk plan w walker N12 = MustWait plan w walker
MayNotAsk plan w walker N13 = IsOver walker
MayNotAsk plan w walker _ = ⊥

-- The walker's request is told, and put in at its node as one packet under the key of its
-- requests, as the flight of this number.
pub record PutsRequest (tables : Tables) (old : TrafficValue) (walker : WalkerValue) (number : ℕ) (new : TrafficValue)
    (next : WalkerValue) : Type 0 where
  pub own : ℕ
  pub request : List ℕ
  pub holds : Holds tables.plan walker.node own
  pub tells : TellsRequest walker request next
  pub puts : PutsOne tables old walker.node request walker.eid (asking_key own walker) number new

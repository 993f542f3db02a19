-- What a network with walkers stands for, and what its calls do to that.
use Rattle.std.specs.Prelude.{◌≡◌, ℕ, ◌+◌, List, length, slice_get, None}
use Rattle.net_tables.specs.TwoPlans.{Tables}
use Rattle.net_runs.{specs.States.{NetworkState}, specs.Walkers.{WalkerValue, WalkedState, WalkedEvent, Happening, BeginWalk, Ask, TellWalk, WalkedOutcome, WalkRefusal, IsWalkRefused}, specs.WalkedRuns.{WalkedStep}}
use Rattle.net_sim.specs.Standing.{TrafficValue, HasNetworkState, MayWant}

-- what a network holds, and its walkers in the order in which they began
pub record NetworkValue : Type 0 where
  pub traffic : TrafficValue
  pub walkers : List WalkerValue

-- The network is as its state says, and the walkers are those of the numbers from 1 on.
pub record StandsForWalked (v : NetworkValue) (w : WalkedState) : Type 0 where
  pub network : HasNetworkState v.traffic w.network
  pub none : w.walker 0 ≡ None
  pub walkers : (i : ℕ) → w.walker (i + 1) ≡ slice_get v.walkers i
  pub begun : w.begun ≡ length v.walkers

-- the network in this state, and no walker yet
abbrev pub without_walkers : NetworkState → WalkedState
without_walkers w = record { network = w; walker = λ _. None; begun = 0 }

-- From every state that it stood for, this is a step, to a state that it stands for then.
abbrev pub WalkedPlays : Tables → NetworkValue → WalkedEvent → WalkedOutcome → NetworkValue → Type 0
WalkedPlays tables old event outcome new = (w : WalkedState) → StandsForWalked old w
    → (next : WalkedState) × WalkedStep tables w event outcome next × StandsForWalked new next

-- the event isn't refused, and takes room: one that does in the network, a walk that begins, or a request
abbrev pub WalkedMayWant : Tables → WalkedState → WalkedEvent → Type 0
WalkedMayWant tables w (Happening event) = MayWant tables w.network event
WalkedMayWant tables w (BeginWalk node eid tag count) =
    (why : WalkRefusal) → ¬ IsWalkRefused tables.plan w (BeginWalk node eid tag count) why
WalkedMayWant tables w (Ask k) = (why : WalkRefusal) → ¬ IsWalkRefused tables.plan w (Ask k) why
WalkedMayWant tables w (TellWalk k) = ⊥

-- Memory ran out at the event, which may take some, and the network stands for the states that it stood for.
abbrev pub WalkedWants : Tables → NetworkValue → WalkedEvent → NetworkValue → Type 0
WalkedWants tables old event new =
    (w : WalkedState) → StandsForWalked old w → StandsForWalked new w × WalkedMayWant tables w event

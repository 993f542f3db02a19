-- What is promised of the walks over a network that is played.
use Rattle.std.specs.Prelude.{◌≡◌, ◌≢◌, ℕ, List, ◌∷◌, ◌++◌, None, All}
use Rattle.plan_values.specs.declared.certificate.Certificate.{Certificate}
use Rattle.net_tables.{specs.Routing.{Holds}, specs.Repositories.{terminus_of, records_by_place}, specs.TwoPlans.{Tables}}
use Rattle.net_runs.{specs.Walkers.{WalkedEvent, WalkedOutcome, BeginWalk, Begun, fresh_walker}, specs.WalkedRuns.{WalkedTurn, WalkedRunOf, walked_reached}, specs.NetworkWalks.{KeepsOff, WalksThere}}
use Rattle.net_sim.{specs.WalkedStanding.{NetworkValue, StandsForWalked}, specs.Played.{IsRunOf}}

-- At each moment of the turns, each walker that began before it, to whose keys no other put came since, has walked over
-- the planned records of the terminus that it asks.
abbrev pub HaveWalked : Tables → Certificate → List WalkedTurn → Type 0
HaveWalked tables cert turns = (earlier later rest : List WalkedTurn) (begins : WalkedTurn) (k node eid tag count n : ℕ)
    → turns ≡ (earlier ++ begins ∷ later) ++ rest → begins.event ≡ BeginWalk node eid tag count
    → begins.outcome ≡ Begun k
    → All (λ turn. KeepsOff tables.plan (fresh_walker node eid tag count) turn.event turn.outcome) later
    → Holds tables.plan n eid → terminus_of tables.plan n ≢ None
    → WalksThere tables (records_by_place tables.plan cert n) (fresh_walker node eid tag count) k
    begins.after later (walked_reached tables.plan cert (earlier ++ begins ∷ later))

-- After every run that the network stood for, these events with these outcomes go on with it, and in each way of going
-- on with it so do all walks.
abbrev pub PlaysWalks : Tables → Certificate → NetworkValue → List WalkedEvent → List WalkedOutcome → NetworkValue
    → Type 0
PlaysWalks tables cert old events outcomes new = (before : List WalkedTurn) → WalkedRunOf tables cert before
    → StandsForWalked old (walked_reached tables.plan cert before)
    → IsRunOf tables (walked_reached tables.plan cert before) events outcomes new
    × ((run : IsRunOf tables (walked_reached tables.plan cert before) events outcomes new)
    → HaveWalked tables cert (before ++ run.turns))

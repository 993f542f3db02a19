-- That an event leaves one outcome and one next state with walkers too: which walker is handed a message, what it makes
-- of it, and what each request is, are determined.
use Rattle.std.specs.Prelude.{◌≡◌, ℕ, List, Some}
use Rattle.plan_values.specs.declared.certificate.Certificate.{Certificate}
use Rattle.net_tables.specs.TwoPlans.{Tables}
use Rattle.net_runs.{specs.Walkers.{WalkerValue, WalkedState, WalkedEvent, WalkedOutcome}, specs.WalkedRuns.{WalkedStep, WalkedTurn, WalkedRunOf, walked_reached}}

-- no two walkers are at one node and ask one endpoint ID under one tag
abbrev pub HaveWalkersApart : WalkedState → Type 0
HaveWalkersApart w = (i j : ℕ) (x y : WalkerValue) → w.walker i ≡ Some x → w.walker j ≡ Some y
    → (x.node ≡ y.node) × (x.eid ≡ y.eid) × (x.tag ≡ y.tag) → i ≡ j

-- What comes of the event, and the network and the walkers after it, are determined.
abbrev pub HasOneWalkedOutcome : Tables → WalkedState → WalkedEvent → Type 0
HasOneWalkedOutcome tables w event =
    (a b : WalkedOutcome) (u v : WalkedState) → WalkedStep tables w event a u → WalkedStep tables w event b v
    → (a ≡ b) × (u ≡ v)

-- so it is at each moment of each run by the tables
abbrev pub WalkedRunsHaveOneOutcome : Tables → Certificate → Type 0
WalkedRunsHaveOneOutcome tables cert =
    (turns : List WalkedTurn) (event : WalkedEvent) → WalkedRunOf tables cert turns
    → HasOneWalkedOutcome tables (walked_reached tables.plan cert turns) event

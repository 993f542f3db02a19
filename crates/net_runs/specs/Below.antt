-- The run of the network below a run with walkers, turn by turn.
use Rattle.std.specs.Prelude.{◌≡◌, ◌⊎◌, List, [], ◌∷◌, Some}
use Rattle.net_tables.specs.TwoPlans.{Tables}
use Rattle.net_runs.{specs.Events.{EventValue, OutcomeValue, Put, PutIn}, specs.Runs.{Turn, RunFrom, after_all}, specs.Walkers.{WalkerValue, WalkedState, WalkedEvent, Happening, Ask, WalkedOutcome, Happened, Asked}, specs.WalkedRuns.{IsAsking, WalkedTurn, WalkedRunFrom, walked_after}}

-- It is of walkers alone, or an event of a walk that is refused, so nothing happens to the network.
abbrev pub IsOfWalkersAlone : WalkedEvent → WalkedOutcome → Type 0
IsOfWalkersAlone (Happening event) (Happened outcome handed) = ⊥
IsOfWalkersAlone (Ask k) (Asked j flight) = ⊥
IsOfWalkersAlone _ _ = Unit {0}

-- What happens to the network with it, and what comes of that: the same event and outcome. For a request of a walker
-- that is put in this is a put of its bytes at the walker's node, as the same flight.
abbrev pub IsAlikeBelow : Tables → WalkedState → WalkedEvent → WalkedOutcome → WalkedState → EventValue
    → OutcomeValue → Type 0
IsAlikeBelow tables w (Happening event) (Happened outcome handed) new lower told = (lower ≡ event) × (told ≡ outcome)
IsAlikeBelow tables w (Ask k) (Asked j flight) new lower told =
    (walker : WalkerValue) × (next : WalkerValue) × (w.walker k ≡ Some walker)
    × (asking : IsAsking tables w.network walker flight new.network next)
    × (lower ≡ Put walker.node asking.bytes) × (told ≡ PutIn flight walker.node)
IsAlikeBelow tables w _ _ new lower told = ⊥

-- a turn below a turn: what happens is alike, and the network is the same after it
pub record IsTurnBelow (tables : Tables) (w : WalkedState) (turn : WalkedTurn) (below : Turn) : Type 0 where
  pub alike : IsAlikeBelow tables w turn.event turn.outcome turn.after below.event below.outcome
  pub same : below.after ≡ turn.after.network

-- Turn by turn: one turn is below each with which something happens to the network, and none is below the others, which
-- leave the network as it is.
abbrev pub AreBelow : Tables → WalkedState → List WalkedTurn → List Turn → Type 0
AreBelow tables w [] [] = Unit {0}
AreBelow tables w [] (below ∷ belows) = ⊥
AreBelow tables w (turn ∷ turns) [] = IsOfWalkersAlone turn.event turn.outcome
    × (turn.after.network ≡ w.network) × AreBelow tables turn.after turns []
AreBelow tables w (turn ∷ turns) (below ∷ belows) =
    (IsOfWalkersAlone turn.event turn.outcome × (turn.after.network ≡ w.network)
    × AreBelow tables turn.after turns (below ∷ belows))
    ⊎ (IsTurnBelow tables w turn below × AreBelow tables turn.after turns belows)

-- Below the run with walkers there is a run of the network, turn by turn, to the same network.
pub record HasRunBelow (tables : Tables) (w : WalkedState) (turns : List WalkedTurn) : Type 0 where
  pub below : List Turn
  pub run : RunFrom tables w.network below
  pub alike : AreBelow tables w turns below
  pub reaches : after_all w.network below ≡ (walked_after w turns).network

-- so it is of every run with walkers
abbrev pub RunsBelow : Tables → Type 0
RunsBelow tables =
    (w : WalkedState) (turns : List WalkedTurn) → WalkedRunFrom tables w turns → HasRunBelow tables w turns

-- In runs with walkers too, each message comes as it was sent where the packets of its key keep apart.
use Rattle.std.specs.Prelude.{◌≡◌, ◌⊎◌, ℕ, ◌*◌, ◌≤◌, List, [], ◌∷◌, length, Option, Some, All}
use Rattle.mctp_transport.specs.PacketValues.{PacketValue, KeyValue, key_of}
use Rattle.plan_values.specs.declared.plan.Plan.{Plan}
use Rattle.net_tables.{specs.TwoPlans.{Tables}, specs.Routing.{Holds}}
use Rattle.net_runs.{specs.States.{NetworkState, Flight}, specs.Runs.{IsPutOf}, specs.ExactMessages.{Epoch, IsOfEpoch, IsQuiet}, specs.Walkers.{WalkedState, WalkedEvent, Happening, Ask, WalkedOutcome, Happened, Asked, Handed, BringsWhole}, specs.WalkedRuns.{WalkedTurn, WalkedRunFrom}}

-- A request of a walker counts as a put: the packet of its flight is put in.
abbrev pub IsPutOfWalked : Plan → WalkedEvent → WalkedOutcome → NetworkState → PacketValue → Type 0
IsPutOfWalked plan (Happening event) (Happened outcome handed) new p = IsPutOf plan event outcome new p
IsPutOfWalked plan (Ask k) (Asked j flight) new p = (f : Flight) × (new.flight flight ≡ Some f) × (f.packet ≡ p)
IsPutOfWalked plan _ _ new p = ⊥

abbrev pub WalkedTurnOfEpoch : Type 0
WalkedTurnOfEpoch = WalkedTurn × Epoch

abbrev pub IsWalkedTidyFrom : (unit : ℕ) → Plan → KeyValue → ℕ → WalkedState → Epoch → List WalkedTurnOfEpoch → Type 0
IsWalkedTidyFrom unit plan key d w epoch [] = Unit {0}
IsWalkedTidyFrom unit plan key d w epoch (turn ∷ turns) =
    ((turn.1 ≡ epoch) ⊎ IsQuiet plan w.network key d)
    × ((p : PacketValue) → IsPutOfWalked plan turn.0.event turn.0.outcome turn.0.after.network p → key_of p ≡ key
    → p.destination ≡ d → IsOfEpoch unit turn.1 key d p)
    × IsWalkedTidyFrom unit plan key d turn.0.after turn.1 turns

abbrev pub walked_turns_of : List WalkedTurnOfEpoch → List WalkedTurn
walked_turns_of [] = []
walked_turns_of (turn ∷ turns) = turn.0 ∷ walked_turns_of turns

abbrev pub TellsWalkedAsSent : (unit : ℕ) → Plan → KeyValue → ℕ → WalkedTurnOfEpoch → Type 0
TellsWalkedAsSent unit plan key d turn =
    (number n : ℕ) (message : List ℕ) (handed : Option Handed) → Holds plan n d → length turn.1.message ≤ 5 * unit
    → BringsWhole turn.0.outcome number n key message handed → message ≡ turn.1.message

abbrev pub WalkedRunsAsSent : (unit : ℕ) → Tables → KeyValue → ℕ → WalkedState → Type 0
WalkedRunsAsSent unit tables key d w =
    (first : Epoch) (turns : List WalkedTurnOfEpoch) → IsQuiet tables.plan w.network key d
    → WalkedRunFrom tables w (walked_turns_of turns)
    → IsWalkedTidyFrom unit tables.plan key d w first turns → All (TellsWalkedAsSent unit tables.plan key d) turns

-- Runs in which one request is sent under a key come to that request, whatever is lost, repeated or out of order.
use Rattle.std.specs.Prelude.{◌≡◌, ℕ, ◌*◌, ◌≤◌, List, length, Option, true, All}
use Rattle.mctp_transport.specs.PacketValues.{PacketValue, KeyValue, key_of, Spelled}
use Rattle.plan_values.specs.declared.plan.Plan.{Plan}
use Rattle.net_tables.{specs.Routing.{Holds}, specs.TwoPlans.{Tables}}
use Rattle.net_runs.{specs.States.{unit_of}, specs.Events.{Put}, specs.ExactMessages.{Epoch, IsOfEpoch, IsQuiet}, specs.Walkers.{WalkedState, WalkedEvent, Happening, Ask, WalkedOutcome, Handed, BringsWholeAt}, specs.WalkedRuns.{WalkedTurn}, specs.WalkedMessages.{IsPutOfWalked}}
use Rattle.net_sim.{specs.WalkedStanding.{NetworkValue}, specs.Played.{IsRunOf}}

-- a packet that the turn puts in under the key for d, by a put or as a walker's request, is one of the message's
abbrev pub PutsOnly : Plan → KeyValue → ℕ → Epoch → WalkedTurn → Type 0
PutsOnly plan key d sent turn =
    ((node : ℕ) (bytes : List ℕ) (p : PacketValue) → turn.event ≡ Happening (Put node bytes)
    → Spelled (unit_of plan) p bytes → key_of p ≡ key → p.destination ≡ d → IsOfEpoch (unit_of plan) sent key d p)
    × ((k : ℕ) (p : PacketValue) → turn.event ≡ Ask k → IsPutOfWalked plan turn.event turn.outcome turn.after.network p
    → key_of p ≡ key → p.destination ≡ d → IsOfEpoch (unit_of plan) sent key d p)

-- Where a key with the owner bit is quiet for d, and a run puts in under it for d packets of one message
-- alone, each whole message that its outcomes tell under the key, at a node that holds d, is that
-- message, if it is of five packets at most.
abbrev pub RequestsComeAsSent : Tables → Type 0
RequestsComeAsSent tables =
    (w : WalkedState) (events : List WalkedEvent) (outcomes : List WalkedOutcome) (new : NetworkValue)
    (key : KeyValue) (d : ℕ) (sent : Epoch) → (run : IsRunOf tables w events outcomes new) → key.owner ≡ true
    → IsQuiet tables.plan w.network key d
    → All (PutsOnly tables.plan key d sent) run.turns → length sent.message ≤ 5 * unit_of tables.plan
    → (i number n : ℕ) (message : List ℕ) (handed : Option Handed)
    → BringsWholeAt outcomes i number n key message handed
    → Holds tables.plan n d → message ≡ sent.message

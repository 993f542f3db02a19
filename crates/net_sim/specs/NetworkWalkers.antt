-- The walkers that a network holds.
use Rattle.std.specs.Prelude.{◌≡◌, ◌≢◌, ◌⊎◌, ℕ, List, Option, Some, None, Result, Err, MatchResult, slice_get}
use Rattle.mctp_transport.{specs.PacketValues.{KeyValue}, specs.Hearing.{Whole}}
use Rattle.pldm_message.{specs.InstanceIds.{IdSet, Gives, TakesBack}, specs.InstanceIdValues.{ids_of}}
use Rattle.pdr_repository.{specs.declared.walk_fault.Step.{Step as WalkStep}, specs.declared.walk_fault.WalkFault.{WalkFault}, specs.declared.walk_fault.WalkFault.TheVariants.{OutOfMemory}, specs.Walkers.{WalkState, Asks, Takes}, specs.WalkerRooms.{HasRoom}, specs.WalkerStates.{state_of}}
use Rattle.net_runs.{specs.Events.{OutcomeValue, Brings}, specs.Walkers.{WalkerValue, Handed, answering_key, ended_after}}
use Rattle.net_sim.specs.declared.network_walker.NetworkWalker.{NetworkWalker}

abbrev pub walker_value : NetworkWalker → WalkerValue
walker_value w =
    record {
      node = w.node;
      eid = w.eid.value;
      tag = w.tag.value;
      walk = state_of w.walker;
      ids = ids_of w.ids;
      ended = w.ended;
    }

-- The walker takes the message, and memory suffices. The ID of the outstanding request is free
-- again where the message is its answer.
pub record HasTakenMessage (old : WalkerValue) (message : List ℕ) (result : Result WalkStep WalkFault)
    (new : WalkerValue) : Type 0 where
  pub walk : WalkState
  pub ids : IdSet
  pub takes : Takes old.walk message result walk
  pub memory : result ≢ Err OutOfMemory
  pub given_back : MatchResult result (λ step. (id : ℕ) × (old.walk.waiting ≡ Some id) × TakesBack old.ids id ids)
      (λ fault. ids ≡ old.ids)
  pub is : new ≡ record old { walk = walk; ids = ids; ended = ended_after old.ended result }

-- it is at this node, and asks this endpoint ID under this tag
abbrev pub IsAt : (node eid tag : ℕ) → WalkerValue → Type 0
IsAt node eid tag walker = (walker.node ≡ node) × (walker.eid ≡ eid) × (walker.tag ≡ tag)

-- such a walker stands at this index
abbrev pub StandsAt : (node eid tag : ℕ) → List NetworkWalker → ℕ → Type 0
StandsAt node eid tag walkers index =
    (walker : NetworkWalker) × (slice_get walkers index ≡ Some walker) × IsAt node eid tag (walker_value walker)

-- one message more can be taken without growing
abbrev pub IsReady : NetworkWalker → Type 0
IsReady w = HasRoom w.walker

-- it is at this node, and this is the key of its answers
abbrev pub Listens : ℕ → KeyValue → WalkerValue → Type 0
Listens node key walker = (walker.node ≡ node) × (answering_key walker ≡ key)

-- such a walker stands at this index
abbrev pub ListensAt : ℕ → KeyValue → List NetworkWalker → ℕ → Type 0
ListensAt node key walkers index =
    (walker : NetworkWalker) × (slice_get walkers index ≡ Some walker) × Listens node key (walker_value walker)

-- The walker's request is told: the outstanding one again under its instance ID, or a new one under the next ID.
pub record TellsRequest (old : WalkerValue) (request : List ℕ) (new : WalkerValue) : Type 0 where
  pub id : ℕ
  pub walk : WalkState
  pub ids : IdSet
  pub under : ((old.walk.waiting ≡ Some id) × (ids ≡ old.ids)) ⊎ ((old.walk.waiting ≡ None) × Gives old.ids id ids)
  pub asks : Asks old.walk id (Some request) walk
  pub is : new ≡ record old { walk = walk; ids = ids }

-- The walker of this number takes the message that the outcome tells. Where it tells none, the walker stays as it is.
abbrev pub HandsOver : WalkerValue → ℕ → OutcomeValue → Option Handed → WalkerValue → Type 0
HandsOver old number outcome None new =
    (new ≡ old)
    × ((flight node : ℕ) (key : KeyValue) (message : List ℕ) → ¬ Brings outcome flight node key (Whole message))
HandsOver old number outcome (Some handed) new =
    (handed.number ≡ number) × (flight : ℕ) × (node : ℕ) × (key : KeyValue) × (message : List ℕ)
    × Brings outcome flight node key (Whole message) × HasTakenMessage old message handed.result new

-- One step of a network with walkers, and runs: a network's step, and what it does to the walkers.
use Rattle.std.specs.Prelude.{◌≡◌, ◌≢◌, ◌⊎◌, ℕ, ◌+◌, List, [], ◌∷◌, length, Option, Some, None, Err, MatchResult, All}
use Rattle.mctp_transport.{specs.PacketValues.{PacketValue, Spelled}, specs.Cutting.{ArePacketsOf}, specs.Hearing.{Whole}}
use Rattle.pldm_message.specs.InstanceIds.{IdSet, Gives, TakesBack}
use Rattle.pdr_repository.{specs.declared.walk_fault.WalkFault.TheVariants.{OutOfMemory}, specs.Walkers.{WalkState, Asks, Takes}}
use Rattle.plan_values.{specs.declared.plan.Plan.{Plan}, specs.declared.certificate.Certificate.{Certificate}}
use Rattle.net_tables.{specs.TwoPlans.{Tables, one_plan}, specs.Routing.{Holds}}
use Rattle.net_runs.{specs.States.{NetworkState, unit_of}, specs.Events.{Put, Switch, OutcomeValue, PutIn, Brings}, specs.Networks.{Step}, specs.Walkers.{WalkerValue, WalkedState, WalkedEvent, Happening, BeginWalk, Ask, TellWalk, WalkedOutcome, Happened, Begun, Asked, ToldWalk, WalkRefused, WalkRefusal, Handed, walked_at_start, fresh_walker, asking_key, answering_key, AreSettled, with_walker, IsWalkRefused, IsFirstWalkRefusal, ended_after, standing_of}}

-- The walker's request is put in at its node, as one packet. The outstanding one is put in again under its instance ID;
-- a new one is put in where both keys are settled, under the next ID.
pub record IsAsking (tables : Tables) (w : NetworkState) (walker : WalkerValue) (flight : ℕ) (new : NetworkState)
    (next : WalkerValue) : Type 0 where
  pub own : ℕ
  pub id : ℕ
  pub request : List ℕ
  pub packet : PacketValue
  pub bytes : List ℕ
  pub walk : WalkState
  pub ids : IdSet
  pub holds : Holds tables.plan walker.node own
  pub under : ((walker.walk.waiting ≡ Some id) × (ids ≡ walker.ids))
      ⊎ ((walker.walk.waiting ≡ None) × AreSettled tables.plan w own walker × Gives walker.ids id ids)
  pub asks : Asks walker.walk id (Some request) walk
  pub cut : ArePacketsOf (unit_of tables.plan) request walker.eid (asking_key own walker) 0 (packet ∷ [])
  pub spelled : Spelled (unit_of tables.plan) packet bytes
  pub put : Step tables w (Put walker.node bytes) (PutIn flight walker.node) new
  pub is : next ≡ record walker { walk = walk; ids = ids }

-- the outcome tells a message that comes at the walker's node under the key of its answers
abbrev pub IsFor : WalkerValue → OutcomeValue → List ℕ → Type 0
IsFor walker outcome message =
    (flight : ℕ) × Brings outcome flight walker.node (answering_key walker) (Whole message)

-- The walker for which the message is takes it, and memory suffices. The ID of the outstanding request is free
-- again where the message is its answer.
pub record IsHanded (walkers : ℕ → Option WalkerValue) (outcome : OutcomeValue) (handed : Handed)
    (next : ℕ → Option WalkerValue) : Type 0 where
  pub walker : WalkerValue
  pub message : List ℕ
  pub walk : WalkState
  pub ids : IdSet
  pub there : walkers handed.number ≡ Some walker
  pub meant : IsFor walker outcome message
  pub takes : Takes walker.walk message handed.result walk
  pub memory : handed.result ≢ Err OutOfMemory
  pub given_back : MatchResult handed.result
      (λ step. (id : ℕ) × (walker.walk.waiting ≡ Some id) × TakesBack walker.ids id ids) (λ fault. ids ≡ walker.ids)
  pub is : next
      ≡ with_walker walkers handed.number
      (record walker { walk = walk; ids = ids; ended = ended_after walker.ended handed.result })

-- no walker is handed anything
abbrev pub IsForNone : (ℕ → Option WalkerValue) → OutcomeValue → Type 0
IsForNone walkers outcome =
    (k : ℕ) (walker : WalkerValue) (message : List ℕ) → walkers k ≡ Some walker → ¬ IsFor walker outcome message

-- what comes of an event that isn't refused
abbrev pub WalkedHappens : Tables → WalkedState → WalkedEvent → WalkedOutcome → WalkedState → Type 0
WalkedHappens tables w (Happening event) (Happened outcome None) new =
    Step tables w.network event outcome new.network × IsForNone w.walker outcome × (new.walker ≡ w.walker)
    × (new.begun ≡ w.begun)
WalkedHappens tables w (Happening event) (Happened outcome (Some handed)) new =
    Step tables w.network event outcome new.network × IsHanded w.walker outcome handed new.walker
    × (new.begun ≡ w.begun)
WalkedHappens tables w (BeginWalk node eid tag count) (Begun k) new =
    (k ≡ w.begun + 1)
    × (new
    ≡ record { network = w.network; walker = with_walker w.walker k (fresh_walker node eid tag count); begun = k })
WalkedHappens tables w (Ask k) (Asked j flight) new =
    (j ≡ k) × (walker : WalkerValue) × (next : WalkerValue) × (w.walker k ≡ Some walker)
    × IsAsking tables w.network walker flight new.network next × (new.walker ≡ with_walker w.walker k next)
    × (new.begun ≡ w.begun)
WalkedHappens tables w (TellWalk k) (ToldWalk j records standing) new =
    (j ≡ k) × (walker : WalkerValue) × (w.walker k ≡ Some walker) × (records ≡ length walker.walk.records)
    × (standing ≡ standing_of walker) × (new ≡ w)
WalkedHappens tables w _ _ new = ⊥

-- One step: a refused event of a walk changes nothing.
abbrev pub WalkedStep : Tables → WalkedState → WalkedEvent → WalkedOutcome → WalkedState → Type 0
WalkedStep tables w event (WalkRefused why) new = IsFirstWalkRefusal tables.plan w event why × (new ≡ w)
WalkedStep tables w event outcome new =
    ((why : WalkRefusal) → ¬ IsWalkRefused tables.plan w event why) × WalkedHappens tables w event outcome new

pub record WalkedTurn : Type 0 where
  pub event : WalkedEvent
  pub outcome : WalkedOutcome
  pub after : WalkedState

abbrev pub WalkedRunFrom : Tables → WalkedState → List WalkedTurn → Type 0
WalkedRunFrom tables w [] = Unit {0}
WalkedRunFrom tables w (turn ∷ turns) =
    WalkedStep tables w turn.event turn.outcome turn.after × WalkedRunFrom tables turn.after turns

abbrev pub WalkedRunOf : Tables → Certificate → List WalkedTurn → Type 0
WalkedRunOf tables cert turns = WalkedRunFrom tables (walked_at_start tables.plan cert) turns

abbrev pub WalkedRun : Plan → Certificate → List WalkedTurn → Type 0
WalkedRun plan cert turns = WalkedRunOf (one_plan plan) cert turns

-- none of the turns switches a node
abbrev pub NoneSwitchesWalked : List WalkedTurn → Type 0
NoneSwitchesWalked turns = All (λ turn. (node : ℕ) → turn.event ≢ Happening (Switch node)) turns

abbrev pub walked_after : WalkedState → List WalkedTurn → WalkedState
walked_after w [] = w
walked_after w (turn ∷ turns) = walked_after turn.after turns

abbrev pub walked_reached : Plan → Certificate → List WalkedTurn → WalkedState
walked_reached plan cert turns = walked_after (walked_at_start plan cert) turns

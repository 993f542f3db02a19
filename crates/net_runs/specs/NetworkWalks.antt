-- What is promised of each walk over the network.
use Rattle.std.specs.Prelude.{Option, ◌≡◌, ◌≢◌, ◌⊎◌, ℕ, ◌<◌, ◌≤◌, List, ◌∷◌, ◌++◌, true, false, Some, None, Result, Ok, All, MatchResult, length, [], ◌+◌, if◌then◌else◌}
use Rattle.mctp_transport.specs.PacketValues.{PacketValue, key_of, Spelled}
use Rattle.pdr_repository.{specs.Records.{Entry, bytes_by_place}, specs.Walkers.{IsAnswerIn}, specs.Walks.{Exchange, Walk, Collects, IsBeginning, due_after, exchanges}, specs.declared.walk_fault.Step.{Step as WalkStep}, specs.declared.walk_fault.WalkFault.{WalkFault}, specs.declared.walk_fault.WalkFault.TheVariants.{FailedBefore, NotAsked, TooMuch}}
use Rattle.pldm_message.specs.Messages.{ResponseHeadValue}
use Rattle.plan_values.{specs.declared.plan.Plan.{Plan}, specs.declared.certificate.Certificate.{Certificate}}
use Rattle.net_tables.{specs.TwoPlans.{Tables, one_plan, moving}, specs.Routing.{Holds}, specs.Repositories.{terminus_of, records_by_place}}
use Rattle.net_runs.{specs.States.{unit_of}, specs.Events.{Put, Switch, OutcomeValue, PutIn, Switched}, specs.Walkers.{WalkedOutcome, Handed, WalkerValue, WalkedState, WalkedEvent, Happening, BeginWalk, Begun, Happened, fresh_walker, asking_key, answering_key, Ask, Asked, five_packets}, specs.WalkedRuns.{IsFor, WalkedTurn, WalkedStep, WalkedRunOf, walked_reached}}

-- the packet is under one of the walker's keys, to where that key's messages go
abbrev pub IsUnderKeys : Plan → WalkerValue → PacketValue → Type 0
IsUnderKeys plan walker p = (own : ℕ) × Holds plan walker.node own
    × (((key_of p ≡ asking_key own walker) × (p.destination ≡ walker.eid))
    ⊎ ((key_of p ≡ answering_key walker) × (p.destination ≡ own)))

-- the event puts no packet in under a key of the walker
abbrev pub KeepsOff : Plan → WalkerValue → WalkedEvent → WalkedOutcome → Type 0
KeepsOff plan walker event outcome =
    (at flight node : ℕ) (bytes : List ℕ) (handed : Option Handed) (p : PacketValue) → event ≡ Happening (Put at bytes)
    → outcome ≡ Happened (PutIn flight node) handed → Spelled (unit_of plan) p bytes → ¬ IsUnderKeys plan walker p

-- The message is an answer under the instance ID of the outstanding request. The exchange is the request that is due,
-- with this answer.
pub record IsExchange (walker : WalkerValue) (message : List ℕ) (x : Exchange) : Type 0 where
  pub head : ResponseHeadValue
  pub due : walker.walk.due ≡ Some x.request
  pub waiting : walker.walk.waiting ≡ Some head.instance
  pub spelled : IsAnswerIn message (record { head = head; outcome = x.answer })

-- The outcome tells that the walker takes an answer, and the message that comes with it is that of the exchange.
pub record TakesWith (k : ℕ) (w : WalkedState) (outcome : WalkedOutcome) (x : Exchange) : Type 0 where
  pub lower : OutcomeValue
  pub step : WalkStep
  pub told : outcome ≡ Happened lower (Some (record { number = k; result = Ok step }))
  pub walker : WalkerValue
  pub there : w.walker k ≡ Some walker
  pub message : List ℕ
  pub meant : IsFor walker lower message
  pub exchange : IsExchange walker message x

-- the outcome doesn't tell that the walker takes an answer
abbrev pub TakesNone : ℕ → WalkedOutcome → Type 0
TakesNone k outcome =
    (lower : OutcomeValue) (step : WalkStep)
    → outcome ≢ Happened lower (Some (record { number = k; result = Ok step }))

-- the exchanges that the walker takes in the turns: one of each turn that tells so, in their order, and no others
abbrev pub AreTakenIn : ℕ → WalkedState → List WalkedTurn → List Exchange → Type 0
AreTakenIn k w [] xs = xs ≡ []
AreTakenIn k w (turn ∷ turns) xs =
    (TakesNone k turn.outcome × AreTakenIn k turn.after turns xs)
    ⊎ ((x : Exchange) × (rest : List Exchange) × TakesWith k w turn.outcome x × (xs ≡ x ∷ rest)
    × AreTakenIn k turn.after turns rest)

-- The exchanges that the walker has taken in the turns since it began. They are a walk over the records, so what it has
-- collected is a beginning of them by place, and all of them once nothing more is due. It counts these exchanges, and
-- one answer more where that was too much; and it never counts more than the records have parts.
pub record HasWalked (records : List Entry) (k : ℕ) (since : WalkedState) (turns : List WalkedTurn)
    (walker : WalkerValue) : Type 0 where
  pub taken : List Exchange
  pub in_turns : AreTakenIn k since turns taken
  pub walk : Walk records walker.walk.count taken
  pub collects : Collects taken walker.walk.records walker.walk.under_way
  pub due : walker.walk.due ≡ due_after walker.walk.count taken
  pub beginning : IsBeginning walker.walk.records (bytes_by_place records)
  pub whole : walker.walk.due ≡ None → walker.walk.records ≡ bytes_by_place records
  pub number : walker.walk.taken ≡ length taken + (if walker.walk.failed then 1 else 0)
  pub counted : walker.walk.taken ≤ exchanges walker.walk.count records
  pub ended : ((walker.walk.failed ≡ false) × (walker.ended ≡ None))
      ⊎ ((walker.walk.failed ≡ true) × (walker.ended ≡ Some TooMuch))

-- a message that isn't asked for or too much, and then that it had failed before
abbrev pub HasCode : WalkerValue → Result WalkStep WalkFault → Type 0
HasCode walker result = MatchResult result (λ step. walker.walk.failed ≡ false)
    (λ fault. ((walker.walk.failed ≡ false) × ((fault ≡ NotAsked) ⊎ (fault ≡ TooMuch)))
    ⊎ ((walker.walk.failed ≡ true) × (fault ≡ FailedBefore)))

-- what stands of a walker all along
pub record IsSameWalker (old walker : WalkerValue) : Type 0 where
  pub node : walker.node ≡ old.node
  pub eid : walker.eid ≡ old.eid
  pub tag : walker.tag ≡ old.tag
  pub count : walker.walk.count ≡ old.walk.count

-- The walker that began has walked over the records in the turns since, and whatever comes next, it makes of a message
-- what it should.
pub record WalksThere (tables : Tables) (records : List Entry) (first : WalkerValue) (k : ℕ) (since : WalkedState)
    (turns : List WalkedTurn) (w : WalkedState) : Type 0 where
  pub walker : WalkerValue
  pub there : w.walker k ≡ Some walker
  pub same : IsSameWalker first walker
  pub walked : HasWalked records k since turns walker
  pub codes : (event : WalkedEvent) (outcome : OutcomeValue) (result : Result WalkStep WalkFault)
      (new : WalkedState)
      → KeepsOff tables.plan first event (Happened outcome (Some (record { number = k; result = result })))
      → WalkedStep tables w event (Happened outcome (Some (record { number = k; result = result }))) new
      → HasCode walker result

-- At every moment of every run in which, after its begin, no other put is under its keys, each walker that asks a node
-- with a terminus has walked over the planned records of that terminus.
abbrev pub WalksOverBy : Tables → Certificate → Type 0
WalksOverBy tables cert = (earlier later : List WalkedTurn) (begins : WalkedTurn) (k node eid tag count n : ℕ)
    → WalkedRunOf tables cert (earlier ++ begins ∷ later) → begins.event ≡ BeginWalk node eid tag count
    → begins.outcome ≡ Begun k
    → All (λ turn. KeepsOff tables.plan (fresh_walker node eid tag count) turn.event turn.outcome) later
    → Holds tables.plan n eid → terminus_of tables.plan n ≢ None
    → WalksThere tables (records_by_place tables.plan cert n) (fresh_walker node eid tag count) k
    begins.after later (walked_reached tables.plan cert (earlier ++ begins ∷ later))

abbrev pub WalksOverNetworks : Plan → Certificate → Type 0
WalksOverNetworks plan cert = WalksOverBy (one_plan plan) cert

-- Each walk that isn't refused can begin at the start, and its first request is put in.
abbrev pub CanAsk : Tables → Certificate → Type 0
CanAsk tables cert =
    (node own eid tag count n : ℕ) → node < length tables.plan.nodes.items → n < length tables.plan.nodes.items
    → Holds tables.plan node own → Holds tables.plan n eid
    → terminus_of tables.plan n ≢ None → own < 256 → eid < 256 → tag < 8 → 8 ≤ count
    → count ≤ five_packets (unit_of tables.plan)
    → (one two : WalkedTurn) × WalkedRunOf tables cert (one ∷ two ∷ []) × (one.event ≡ BeginWalk node eid tag count)
    × (one.outcome ≡ Begun 1) × (two.event ≡ Ask 1) × (two.outcome ≡ Asked 1 1)

-- In a move each such walk can begin at the start, and a node can switch before the first request is put in.
abbrev pub CanSwitchAndAsk : Plan → Plan → Certificate → Type 0
CanSwitchAndAsk before after cert =
    (at node own eid tag count n : ℕ) → at < length before.nodes.items → node < length before.nodes.items
    → n < length before.nodes.items
    → Holds before node own → Holds before n eid → terminus_of before n ≢ None → own < 256 → eid < 256 → tag < 8
    → 8 ≤ count → count ≤ five_packets (unit_of before)
    → (one two three : WalkedTurn) × WalkedRunOf (moving before after) cert (one ∷ two ∷ three ∷ [])
    × ((one.event ≡ BeginWalk node eid tag count) × (one.outcome ≡ Begun 1))
    × ((two.event ≡ Happening (Switch at)) × (two.outcome ≡ Happened (Switched at) None)) × (three.event ≡ Ask 1)
    × (three.outcome ≡ Asked 1 1)

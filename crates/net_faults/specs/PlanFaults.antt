-- All that rules certificates of a plan out, in the order of the rules.
use Rattle.std.specs.Prelude.{◌≡◌, ◌↔◌, ◌⊎◌, ℕ, ◌+◌, ◌<◌, List, [], ◌∷◌, ◌++◌, length, map, filter, slice_get, Option, Some, None, Bool, nat_eq, unwrap_or}
use Rattle.plan_values.{specs.declared.plan.Plan.{Plan}, specs.declared.certificate.Certificate.{Certificate}}
use Rattle.net_tables.{specs.Ownership.{IsOwnedBy}, specs.Repositories.{records_of}}
use Rattle.net_rules.{specs.declared.rule.Rule.{Rule}, specs.declared.rule.Rule.TheVariants.{C01, C02, C03, C04, C05, C06, C07, C08, C09, C10, C11, C12, C13, C14, C15, C16}, specs.declared.fault_run.FaultRun.{FaultRun}, specs.declared.certifying.chains.ChainFault.{ChainFault}, specs.Circles.{IsOnCircle}, specs.FaultLists.{AreFaults}, specs.Faults.{LessByFirstDifference}, specs.RecordChains.{IsBadChain}, specs.Rules.{Accepts}}
use Rattle.net_faults.{specs.declared.plan_fault.PlanFault.{PlanFault}, specs.declared.plan_fault.PlanFault.TheVariants.{Broken, Obstacle}, specs.Circles.{IsAmong, IsCircle, IsNotLeast}, specs.FirstRows.{GoesTo}}
use Rattle.net_rules.specs.declared.certify_error.CertifyError.TheVariants as error

-- the nodes of a loop, from its first one back to it
abbrev pub nodes_of : PlanFault → List ℕ
nodes_of (Obstacle (error.OwnerLoop nodes) more) = nodes.items
nodes_of (Obstacle (error.Loop eid nodes) more) = nodes.items
nodes_of _ = []

-- the first node of a loop
abbrev pub first_of : List ℕ → ℕ
first_of nodes = unwrap_or (slice_get nodes 0) 0

-- the numbers by which those of one kind are ordered: a loop's first node, behind its EID if it has one; a chain's node
abbrev pub key_of : PlanFault → List ℕ
key_of (Obstacle (error.OwnerLoop nodes) more) = first_of nodes.items ∷ []
key_of (Obstacle (error.Loop eid nodes) more) = eid.value ∷ first_of nodes.items ∷ []
key_of (Obstacle (error.BadChain node kind entry) more) = node ∷ []
key_of _ = []

-- each comes before those behind it
abbrev pub Ascend : List PlanFault → Type 0
Ascend found = (i j : ℕ) (f g : PlanFault) → i < j → slice_get found i ≡ Some f → slice_get found j ≡ Some g
    → LessByFirstDifference (key_of f) (key_of g)

-- ---- loops of owners

abbrev pub IsOwnerLoopTold : Plan → PlanFault → Type 0
IsOwnerLoopTold plan (Obstacle (error.OwnerLoop nodes) more) =
    (first : ℕ) × IsCircle (IsOwnedBy plan) first nodes.items × (more ≡ 0)
IsOwnerLoopTold plan _ = ⊥

-- Each is a loop of owners, and each node on one is on one of these.
pub record AreOwnerLoops (plan : Plan) (found : List PlanFault) : Type 0 where
  pub sound : (i : ℕ) (f : PlanFault) → slice_get found i ≡ Some f → IsOwnerLoopTold plan f
  pub all : (n : ℕ) → IsOnCircle (IsOwnedBy plan) n
      → (i : ℕ) × (f : PlanFault) × (slice_get found i ≡ Some f) × IsAmong (nodes_of f) n
  pub in_order : Ascend found

-- ---- loops of rows

-- The EIDs of which a fact holds, in order.
pub record AreEidsOf (P : ℕ → Type 0) (eids : List ℕ) : Type 0 where
  pub exact : (e : ℕ) → IsAmong eids e ↔ P e
  pub ascend : (i j d e : ℕ) → i < j → slice_get eids i ≡ Some d → slice_get eids j ≡ Some e → d < e

-- what is for these EIDs, and for no others, goes round these nodes
abbrev pub AreEidsRound : Plan → ℕ → List ℕ → List ℕ → Type 0
AreEidsRound plan first nodes eids = AreEidsOf (λ e. IsCircle (GoesTo plan e) first nodes) eids

-- a loop of rows, its least EID, and how many more go round it
abbrev pub IsLoopTold : Plan → PlanFault → Type 0
IsLoopTold plan (Obstacle (error.Loop eid nodes) more) = (first : ℕ) × (eids : List ℕ)
    × AreEidsRound plan first nodes.items eids × (slice_get eids 0 ≡ Some eid.value) × (length eids ≡ more + 1)
IsLoopTold plan _ = ⊥

-- Each is a loop of rows, and what is for any EID goes round no other nodes than those of one of these.
pub record AreRoutingLoops (plan : Plan) (found : List PlanFault) : Type 0 where
  pub sound : (i : ℕ) (f : PlanFault) → slice_get found i ≡ Some f → IsLoopTold plan f
  pub all : (e n : ℕ) → IsOnCircle (GoesTo plan e) n → (i : ℕ) × (f : PlanFault) × (first : ℕ)
      × (slice_get found i ≡ Some f) × IsCircle (GoesTo plan e) first (nodes_of f) × IsAmong (nodes_of f) n
  pub in_order : Ascend found

-- ---- bad chains

abbrev pub IsChainTold : Plan → PlanFault → Type 0
IsChainTold plan (Obstacle (error.BadChain node kind entry) more) =
    IsBadChain (records_of plan node) kind entry × (more ≡ 0)
IsChainTold plan _ = ⊥

-- Each is what is wrong with the chain of a node's records, and each node with a bad chain has one.
pub record AreBadChains (plan : Plan) (found : List PlanFault) : Type 0 where
  pub sound : (i : ℕ) (f : PlanFault) → slice_get found i ≡ Some f → IsChainTold plan f
  pub all : (n : ℕ) (kind : ChainFault) (entry : ℕ) → IsBadChain (records_of plan n) kind entry
      → (i : ℕ) × (f : PlanFault) × (slice_get found i ≡ Some f) × (key_of f ≡ n ∷ [])
  pub in_order : Ascend found

-- ---- all of them

-- how many of the loops of owners, the loops of rows and the chains come before the rule's broken places
abbrev pub turn_of : Rule → ℕ
turn_of C01 = 0
turn_of C02 = 0
turn_of C03 = 0
turn_of C04 = 0
turn_of C05 = 0
turn_of C06 = 0
turn_of C07 = 0
turn_of C08 = 1
turn_of C09 = 1
turn_of C10 = 1
turn_of C11 = 2
turn_of C12 = 2
turn_of C13 = 2
turn_of C14 = 2
turn_of C15 = 3
turn_of C16 = 3

abbrev pub is_of_turn : ℕ → FaultRun → Bool
is_of_turn turn run = nat_eq (turn_of run.rule) turn

-- the broken places of the rules of one turn
abbrev pub broken_in : ℕ → List FaultRun → List PlanFault
broken_in turn runs = map Broken (filter (is_of_turn turn) runs)

-- The list has the broken places in the order of the rules, the loops of owners behind those of C07, the loops of rows
-- in C10's place, and the bad chains in C14's.
pub record ArePlanFaults (plan : Plan) (found : List PlanFault) : Type 0 where
  pub runs : List FaultRun
  pub owner_loops : List PlanFault
  pub loops : List PlanFault
  pub chains : List PlanFault
  pub are_runs : AreFaults plan None runs
  pub are_owner_loops : AreOwnerLoops plan owner_loops
  pub are_loops : AreRoutingLoops plan loops
  pub are_chains : AreBadChains plan chains
  pub listed : found ≡ broken_in 0 runs ++ (owner_loops ++ (broken_in 1 runs ++ (loops ++ (broken_in 2 runs
      ++ (chains ++ broken_in 3 runs)))))

-- some certificate of the plan is accepted
abbrev pub HasCertificate : Plan → Type 0
HasCertificate plan = (cert : Certificate) × Accepts plan cert

-- All that is wrong: with the plan alone, or with it and the certificate. With a certificate these are broken places.
abbrev pub AreAllFaults : Plan → Option Certificate → List PlanFault → Type 0
AreAllFaults plan None found = ArePlanFaults plan found
AreAllFaults plan (Some cert) found =
    (runs : List FaultRun) × AreFaults plan (Some cert) runs × (found ≡ map Broken runs)

-- ---- lists that are being made

-- no loop of rows for e has n as its first node, or it is listed
abbrev pub HasItsLoop : Plan → List PlanFault → ℕ → ℕ → Type 0
HasItsLoop plan found e n = IsNotLeast (GoesTo plan e) n
    ⊎ ((i : ℕ) × (f : PlanFault) × (slice_get found i ≡ Some f) × IsCircle (GoesTo plan e) n (nodes_of f))

-- What is found once the nodes before m are done for e, and each node for the EIDs below e.
pub record AreLoopsBefore (plan : Plan) (e m : ℕ) (found : List PlanFault) : Type 0 where
  pub sound : (i : ℕ) (f : PlanFault) → slice_get found i ≡ Some f → IsLoopTold plan f
  pub before : (i : ℕ) (f : PlanFault) → slice_get found i ≡ Some f → LessByFirstDifference (key_of f) (e ∷ m ∷ [])
  pub all : (d n : ℕ) → LessByFirstDifference (d ∷ n ∷ []) (e ∷ m ∷ []) → HasItsLoop plan found d n
  pub in_order : Ascend found

-- The loops of owners whose first node comes before n.
pub record AreOwnerLoopsBefore (plan : Plan) (n : ℕ) (found : List PlanFault) : Type 0 where
  pub sound : (i : ℕ) (f : PlanFault) → slice_get found i ≡ Some f → IsOwnerLoopTold plan f
  pub before : (i : ℕ) (f : PlanFault) → slice_get found i ≡ Some f → LessByFirstDifference (key_of f) (n ∷ [])
  pub all : (m : ℕ) → m < n → IsNotLeast (IsOwnedBy plan) m
      ⊎ ((i : ℕ) × (f : PlanFault) × (slice_get found i ≡ Some f) × IsCircle (IsOwnedBy plan) m (nodes_of f))
  pub in_order : Ascend found

-- The bad chains of the nodes before n.
pub record AreBadChainsBefore (plan : Plan) (n : ℕ) (found : List PlanFault) : Type 0 where
  pub sound : (i : ℕ) (f : PlanFault) → slice_get found i ≡ Some f → IsChainTold plan f
  pub before : (i : ℕ) (f : PlanFault) → slice_get found i ≡ Some f → LessByFirstDifference (key_of f) (n ∷ [])
  pub all : (m : ℕ) (kind : ChainFault) (entry : ℕ) → m < n → IsBadChain (records_of plan m) kind entry
      → (i : ℕ) × (f : PlanFault) × (slice_get found i ≡ Some f) × (key_of f ≡ m ∷ [])
  pub in_order : Ascend found

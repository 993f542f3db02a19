-- The certificate of a plan, and why there is none.
use Rattle.std.specs.Prelude.{◌≡◌, ◌≢◌, ℕ, ◌<◌, List, length, slice_get, Some, Bool, nat_lt}
use Rattle.net_rules.{specs.declared.certify_error.CertifyError.{CertifyError}, specs.declared.rule.Rule.{Rule}, specs.declared.rule.Rule.TheVariants.{C07, C10, C14}, specs.OwnerLoops.{IsLevel, IsFirstOwnerLoop}, specs.RecordChains.{ArePlaces, IsBadChain}, specs.Rules.{Accepts}, specs.Faults.{order_of, site_of}, specs.PlanFaults.{PlanMeets, IsFirstPlanFault}, specs.Circles.{HasNoCircle}, specs.RoutingLoops.{IsRank, IsFirstRoutingLoop}, specs.RankRuns.{AreLongestRuns, below}}
use Rattle.plan_values.{specs.declared.plan.Plan.{Plan}, specs.declared.certificate.Certificate.{Certificate}, specs.declared.certificate.NodeRanks.{NodeRanks}, specs.declared.certificate.NodeLevel.{NodeLevel}, specs.declared.certificate.NodePlaces.{NodePlaces}, specs.declared.terminus.PlannedRecord.{PlannedRecord}, specs.CertificateValues.{certificate_value}}
use Rattle.net_tables.{specs.Routing.{MovesTo}, specs.Ownership.{IsOwnedBy, level_given}, specs.Ranks.{rank_given}, specs.Repositories.{records_of, places_given}}
use Rattle.net_rules.specs.declared.certify_error.CertifyError.TheVariants as error

-- For each node and EID the rank that it is to have, as the longest runs of neighboring EIDs of equal rank above 0,
-- so many nodes in their order, and those with nothing to give left out.
pub record AreRanksOf (IsRankOf : ℕ → ℕ → ℕ → Type 0) (count : ℕ) (given : List NodeRanks) : Type 0 where
  pub ranks : (n e : ℕ) → IsRankOf n e (rank_given given n e)
  pub longest : (i : ℕ) (one : NodeRanks) → slice_get given i ≡ Some one
      → AreLongestRuns (rank_given given one.node) one.ranges.items
  pub some : (i : ℕ) (one : NodeRanks) → slice_get given i ≡ Some one → 0 < length one.ranges.items
  pub within : (i : ℕ) (one : NodeRanks) → slice_get given i ≡ Some one → one.node < count
  pub ascend : (i j : ℕ) (one other : NodeRanks) → i < j → slice_get given i ≡ Some one → slice_get given j ≡ Some other
      → one.node < other.node

-- the ranks are the numbers of moves along rows
abbrev pub AreExactRanks : Plan → List NodeRanks → Type 0
AreExactRanks plan given = AreRanksOf (IsRank plan) (length plan.nodes.items) given

-- For each node the number of owners above it, the nodes in plan order, and those without an owner left out.
pub record AreExactLevels (plan : Plan) (given : List NodeLevel) : Type 0 where
  pub levels : (n : ℕ) → IsLevel plan n (level_given given n)
  pub some : (i : ℕ) (one : NodeLevel) → slice_get given i ≡ Some one → 0 < one.level
  pub within : (i : ℕ) (one : NodeLevel) → slice_get given i ≡ Some one → one.node < length plan.nodes.items
  pub ascend : (i j : ℕ) (one other : NodeLevel) → i < j → slice_get given i ≡ Some one → slice_get given j ≡ Some other
      → one.node < other.node

-- some places lead along the next handles of the records
abbrev pub HavePlaces : List PlannedRecord → Type 0
HavePlaces records = (places : List ℕ) × ArePlaces records places

-- For each terminus the places of its records along the next handles, the nodes in plan order,
-- and those without a terminus left out.
pub record AreExactPlaces (plan : Plan) (given : List NodePlaces) : Type 0 where
  pub places : (n : ℕ) → ArePlaces (records_of plan n) (places_given given n)
  pub some : (i : ℕ) (one : NodePlaces) → slice_get given i ≡ Some one → 0 < length one.places.items
  pub within : (i : ℕ) (one : NodePlaces) → slice_get given i ≡ Some one → one.node < length plan.nodes.items
  pub ascend : (i j : ℕ) (one other : NodePlaces) → i < j → slice_get given i ≡ Some one
      → slice_get given j ≡ Some other → one.node < other.node

-- The certificate gives each level and each place as the plan has them, each rank that is to be, and nothing else.
pub record IsExactBy (plan : Plan) (IsRankOf : ℕ → ℕ → ℕ → Type 0) (cert : Certificate) : Type 0 where
  pub levels : AreExactLevels plan cert.levels.items
  pub places : AreExactPlaces plan cert.places.items
  pub ranks : AreRanksOf IsRankOf (length plan.nodes.items) cert.ranks.items

-- every such certificate is the same: it gives the same levels, the same places and, range by range, the same ranks
abbrev pub IsOnlyExactBy : Plan → (ℕ → ℕ → ℕ → Type 0) → Certificate → Type 0
IsOnlyExactBy plan IsRankOf cert =
    (other : Certificate) → IsExactBy plan IsRankOf other → certificate_value other ≡ certificate_value cert

-- the certificate gives each level, each place and each rank as the plan has them, and nothing else
abbrev pub IsExact : Plan → Certificate → Type 0
IsExact plan cert = IsExactBy plan (IsRank plan) cert

abbrev pub IsOnlyExact : Plan → Certificate → Type 0
IsOnlyExact plan cert = IsOnlyExactBy plan (IsRank plan) cert

-- no certificate of the plan is accepted
abbrev pub HasNoCertificate : Plan → Type 0
HasNoCertificate plan = (cert : Certificate) → ¬ Accepts plan cert

-- Nothing rules certificates out as far as the rules of a lesser order go: the plan meets them, neither its owners nor
-- its rows lead round a loop, and the records of each terminus have places.
pub record CanBeMetBefore (plan : Plan) (order : ℕ) : Type 0 where
  pub plan_meets : (rule : Rule) → order_of rule < order → PlanMeets plan rule
  pub owners : order_of C07 < order → HasNoCircle (IsOwnedBy plan)
  pub routes : order_of C10 < order → (e : ℕ) → HasNoCircle (MovesTo plan e)
  pub chains : order_of C14 < order → (n : ℕ) → HavePlaces (records_of plan n)

-- What the error names is there, and nothing before it rules certificates out.
abbrev pub NamesObstacle : Plan → CertifyError → Type 0
NamesObstacle plan error.OutOfMemory = Unit {0}
NamesObstacle plan (error.Fault fault) =
    CanBeMetBefore plan (order_of fault.rule) × IsFirstPlanFault plan (site_of fault)
NamesObstacle plan (error.OwnerLoop nodes) =
    CanBeMetBefore plan (order_of C07) × PlanMeets plan C07 × IsFirstOwnerLoop plan nodes.items
NamesObstacle plan (error.Loop eid nodes) =
    CanBeMetBefore plan (order_of C10) × IsFirstRoutingLoop plan eid.value nodes.items
NamesObstacle plan (error.BadChain node kind entry) =
    CanBeMetBefore plan (order_of C14) × IsBadChain (records_of plan node) kind entry
    × ((n : ℕ) → n < node → HavePlaces (records_of plan n))

-- what each part of the search for a certificate answers where there is none
abbrev pub NamesOwnerLoop : Plan → CertifyError → Type 0
NamesOwnerLoop plan error.OutOfMemory = Unit {0}
NamesOwnerLoop plan (error.Fault fault) = ⊥
NamesOwnerLoop plan (error.OwnerLoop nodes) = IsFirstOwnerLoop plan nodes.items
NamesOwnerLoop plan (error.Loop eid nodes) = ⊥
NamesOwnerLoop plan (error.BadChain node kind entry) = ⊥

abbrev pub NamesRoutingLoop : Plan → CertifyError → Type 0
NamesRoutingLoop plan error.OutOfMemory = Unit {0}
NamesRoutingLoop plan (error.Fault fault) = ⊥
NamesRoutingLoop plan (error.OwnerLoop nodes) = ⊥
NamesRoutingLoop plan (error.Loop eid nodes) = IsFirstRoutingLoop plan eid.value nodes.items
NamesRoutingLoop plan (error.BadChain node kind entry) = ⊥

abbrev pub NamesBadChain : Plan → CertifyError → Type 0
NamesBadChain plan error.OutOfMemory = Unit {0}
NamesBadChain plan (error.Fault fault) = ⊥
NamesBadChain plan (error.OwnerLoop nodes) = ⊥
NamesBadChain plan (error.Loop eid nodes) = ⊥
NamesBadChain plan (error.BadChain node kind entry) =
    IsBadChain (records_of plan node) kind entry × ((n : ℕ) → n < node → HavePlaces (records_of plan n))

-- What is made of a certificate before the rule of an order: the plan meets the rules of a lesser order, and
-- the parts that those demand are there.
pub record IsMadeBefore (plan : Plan) (order : ℕ) (made : Certificate) : Type 0 where
  pub meets : (rule : Rule) → order_of rule < order → PlanMeets plan rule
  pub levels : order_of C07 < order → AreExactLevels plan made.levels.items
  pub ranks : order_of C10 < order → AreExactRanks plan made.ranks.items
  pub places : order_of C14 < order → AreExactPlaces plan made.places.items

-- the first places that are found are exact as far as the nodes before n
pub record ArePlacesBefore (plan : Plan) (n : ℕ) (given : List NodePlaces) : Type 0 where
  pub places : (m : ℕ) → m < n → ArePlaces (records_of plan m) (places_given given m)
  pub some : (i : ℕ) (one : NodePlaces) → slice_get given i ≡ Some one → 0 < length one.places.items
  pub within : (i : ℕ) (one : NodePlaces) → slice_get given i ≡ Some one → one.node < n
  pub ascend : (i j : ℕ) (one other : NodePlaces) → i < j → slice_get given i ≡ Some one
      → slice_get given j ≡ Some other → one.node < other.node

-- and levels
pub record AreLevelsBefore (counts : List ℕ) (n : ℕ) (given : List NodeLevel) : Type 0 where
  pub levels : (m k : ℕ) → m < n → slice_get counts m ≡ Some k → level_given given m ≡ k
  pub some : (i : ℕ) (one : NodeLevel) → slice_get given i ≡ Some one → 0 < one.level
  pub within : (i : ℕ) (one : NodeLevel) → slice_get given i ≡ Some one → one.node < n
  pub ascend : (i j : ℕ) (one other : NodeLevel) → i < j → slice_get given i ≡ Some one → slice_get given j ≡ Some other
      → one.node < other.node

-- unless memory ran out, there is no certificate
abbrev pub RulesOutCertificates : Plan → CertifyError → Type 0
RulesOutCertificates plan e = e ≢ error.OutOfMemory → HasNoCertificate plan

-- the node has some
abbrev pub has_ranges : NodeRanks → Bool
has_ranges one = nat_lt 0 (length one.ranges.items)

-- What was found of so many nodes once the EIDs below e are done: each node's longest runs, in their order.
pub record AreRankedBelow (IsRankOf : ℕ → ℕ → ℕ → Type 0) (count e : ℕ) (given : List NodeRanks) : Type 0 where
  pub long : length given ≡ count
  pub node : (n : ℕ) (one : NodeRanks) → slice_get given n ≡ Some one → one.node ≡ n
  pub ranked : (n d : ℕ) → n < count → d < e → (k : ℕ) × IsRankOf n d k
  pub runs : (n : ℕ) (one : NodeRanks) (ranks : ℕ → ℕ) → slice_get given n ≡ Some one
      → ((d : ℕ) → d < e → IsRankOf n d (ranks d)) → AreLongestRuns (below e ranks) one.ranges.items

-- and no circle
pub record AreRoutedBelow (plan : Plan) (e : ℕ) (given : List NodeRanks) : Type 0 where
  pub circles : (d : ℕ) → d < e → HasNoCircle (MovesTo plan d)
  pub ranked : AreRankedBelow (IsRank plan) (length plan.nodes.items) e given

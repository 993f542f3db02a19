-- What it means that devices said what is planned.
use Rattle.std.specs.Prelude.{◌≡◌, ◌≢◌, ◌⊎◌, ◌↔◌, ◌||◌, ◌<◌, ℕ, ⊤, Bool, IsTrue, true, List, Option, None, Some, Result, Ok, Err, length, slice_get}
use Rattle.mctp_control.{specs.RouteEntries.{EntryValue}, specs.Responses.{AnswerValue, EidSet, EidTold, PoolTold, EntriesTold, Failed}}
use Rattle.plan_values.{specs.declared.certificate.Certificate.{Certificate}, specs.declared.nodes.Node.{Node}, specs.declared.plan.Plan.{Plan}}
use Rattle.audited_captures.{specs.AsPlanned.{IsAmong, AreAsPlanned}, specs.Audits.{AreAudited, NodeFacts, AreFacts, AreRecorded, is_match, lines_of_node, told_lines_of}, specs.Exchanges.{ExchangeValue}, specs.Identities.{answers_of, tells_eid, tells_pool, first_of, size_of, kind_number}, specs.Lines.{LineValue}, specs.Packets.{NumberedPacket}, specs.Strangers.{HasNoStrangers}, specs.declared.sums.Sum.{Sum}, specs.Traffic.{IsPlanned}, specs.TrafficLines.{IsTraffic}, specs.Counting.{difference_count, has_compared}, specs.RecordParts.{RecordPartValue}, specs.RecordReadings.{AreToldAsPlanned, IsComparedAt, IsReadToEnd}, specs.Failures.{fails}, specs.Talk.{AreAllAsked, AreAllOwned}, specs.Tids.{tells_tid, planned_tid}, specs.Untold.{is_bridge, is_some}, specs.Readings.{PartValue, ReadingValue, Read, Refused, Unended, parts_of, readings}}
use Rattle.bus_captures.specs.Values as captured
use Rattle.audited_captures.specs.declared.failures.Topic.TheVariants as topic

-- a reading came to its end, with the planned entries
abbrev pub IsReadAsPlanned : List EntryValue → ReadingValue → Type 0
IsReadAsPlanned planned Unended = ⊥
IsReadAsPlanned planned Refused = ⊥
IsReadAsPlanned planned (Read found) = AreAsPlanned planned found

-- where the answer tells an endpoint ID or a type, it is the planned one
abbrev pub HasPlannedEid : (eid type : ℕ) → AnswerValue → Type 0
HasPlannedEid eid type (EidSet status found size) = eid ≡ found
HasPlannedEid eid type (EidTold found status medium) = (eid ≡ found) × (type ≡ status.second)
HasPlannedEid eid type (PoolTold status size first) = ⊤
HasPlannedEid eid type (EntriesTold next entries) = ⊤
HasPlannedEid eid type (Failed command code) = ⊤

-- where the answer tells a pool, it is the planned one; two without endpoint IDs are one
abbrev pub HasPlannedPool : (first size : ℕ) → AnswerValue → Type 0
HasPlannedPool first size (PoolTold status found_size found_first) =
    (size ≡ found_size) × ((size ≡ 0) ⊎ (first ≡ found_first))
HasPlannedPool first size (EidSet status found wanted) = ⊤
HasPlannedPool first size (EidTold found status medium) = ⊤
HasPlannedPool first size (EntriesTold next entries) = ⊤
HasPlannedPool first size (Failed command code) = ⊤

-- some answer tells an endpoint ID
abbrev pub SomeTellsEid : List AnswerValue → Type 0
SomeTellsEid answers = (a : AnswerValue) × IsAmong a answers × IsTrue (tells_eid a)

-- some answer tells a pool
abbrev pub SomeTellsPool : List AnswerValue → Type 0
SomeTellsPool answers = (a : AnswerValue) × IsAmong a answers × IsTrue (tells_pool a)

-- where the answer tells a terminus ID, it is the planned one
abbrev pub HasPlannedTid : Option ℕ → Result ℕ ℕ → Type 0
HasPlannedTid planned (Ok tid) = (tid ≡ 0) ⊎ (planned ≡ Some tid)
HasPlannedTid planned (Err code) = ⊤

abbrev pub IsFailure : Result ℕ ℕ → Type 0
IsFailure (Ok tid) = ⊥
IsFailure (Err code) = ⊤

-- some answer tells a terminus ID
abbrev pub SomeTellsTid : List (Result ℕ ℕ) → Type 0
SomeTellsTid tids = (t : Result ℕ ℕ) × IsAmong t tids × IsTrue (tells_tid t)

-- All that a node said is planned: each reading of its routing table, each answer that tells its endpoint ID, its type,
-- its pool or its terminus ID, and each answer about its records. And it refused nothing for good: no answer about its
-- routing table fails, one to Set or Get Endpoint ID only where another tells its endpoint ID, one to Allocate Endpoint
-- IDs only where another tells its pool, or none is planned, and one to GetTID only where another tells its terminus
-- ID, or no terminus is planned.
pub record SaysAsPlanned (node : Node) (xs : List ExchangeValue) (f : NodeFacts) : Type 0 where
  pub tables : (r : ReadingValue) → IsAmong r (readings (parts_of node.eid.value xs))
      → IsReadAsPlanned f.planned r
  pub routes_told : (p : PartValue) → IsAmong p (parts_of node.eid.value xs) → ¬ IsTrue (fails topic.Table p.answer)
  pub eid_told : (a : AnswerValue) → IsAmong a (answers_of node.eid.value xs) → IsTrue (fails topic.Eid a)
      → SomeTellsEid (answers_of node.eid.value xs)
  pub pool_told : (a : AnswerValue) → IsAmong a (answers_of node.eid.value xs) → IsTrue (fails topic.Pool a)
      → SomeTellsPool (answers_of node.eid.value xs) ⊎ (size_of node.pool ≡ 0)
  pub eids : (a : AnswerValue) → IsAmong a (answers_of node.eid.value xs)
      → HasPlannedEid node.eid.value (kind_number node.kind) a
  pub pools : (a : AnswerValue) → IsAmong a (answers_of node.eid.value xs)
      → HasPlannedPool (first_of node.pool) (size_of node.pool) a
  pub tids : (t : Result ℕ ℕ) → IsAmong t f.tids → HasPlannedTid (planned_tid node) t
  pub tid_told : (t : Result ℕ ℕ) → IsAmong t f.tids → IsFailure t
      → SomeTellsTid f.tids ⊎ (planned_tid node ≡ None)
  pub records : AreToldAsPlanned f.records f.parts

-- the answer tells what is laid beside the plan: an endpoint ID, a type or a pool
abbrev pub TellsOfPlan : AnswerValue → Type 0
TellsOfPlan a = IsTrue (tells_eid a || tells_pool a)

-- it fails, where the plan says what it should have told: an endpoint ID, or a pool
abbrev pub RefusesPlan : Node → AnswerValue → Type 0
RefusesPlan node a = IsTrue (fails topic.Eid a) ⊎ (IsTrue (fails topic.Pool a) × (size_of node.pool ≢ 0))

-- the answer to GetTID tells a terminus ID, or fails where a terminus is planned
abbrev pub TellsOfTid : Option ℕ → Result ℕ ℕ → Type 0
TellsOfTid planned t = IsTrue (tells_tid t) ⊎ (IsFailure t × (planned ≢ None))

-- Something that a node said was laid beside the plan: a reading of its routing table, an answer about that which
-- fails, an answer that tells its endpoint ID, its type, its pool or its terminus ID, one that refuses this, or an
-- answer about a record of which it is known where it begins, or that isn't planned.
pub data IsCompared (node : Node) (xs : List ExchangeValue) (f : NodeFacts) : Type 0 where
  ByTable : (r : ReadingValue) → IsAmong r (readings (parts_of node.eid.value xs)) → IsCompared node xs f
  ByPart : (p : PartValue) → IsAmong p (parts_of node.eid.value xs) → IsTrue (fails topic.Table p.answer)
      → IsCompared node xs f
  ByAnswer : (a : AnswerValue) → IsAmong a (answers_of node.eid.value xs) → TellsOfPlan a → IsCompared node xs f
  ByRefusal : (a : AnswerValue) → IsAmong a (answers_of node.eid.value xs) → RefusesPlan node a
      → IsCompared node xs f
  ByTid : (t : Result ℕ ℕ) → IsAmong t f.tids → TellsOfTid (planned_tid node) t → IsCompared node xs f
  ByRecord : (i : ℕ) (x : RecordPartValue) → slice_get f.parts i ≡ Some x → IsComparedAt f.records f.parts i x
      → IsCompared node xs f

-- a line of a node tells of a comparison exactly where one was made
abbrev pub NodesCompareWhereHeard : Type 0
NodesCompareWhereHeard = (node : Node) (xs : List ExchangeValue) (f : NodeFacts) (unanswered : ℕ) → AreRecorded f
    → (has_compared (lines_of_node node f.planned xs unanswered (told_lines_of node f)) ≡ true)
    ↔ IsCompared node xs f

-- no line of a node tells a difference exactly where all that it said is planned
abbrev pub NodesMatchWhereAsPlanned : Type 0
NodesMatchWhereAsPlanned = (node : Node) (xs : List ExchangeValue) (f : NodeFacts) (unanswered : ℕ) → AreRecorded f
    → (difference_count (lines_of_node node f.planned xs unanswered (told_lines_of node f)) ≡ 0)
    ↔ SaysAsPlanned node xs f

-- The node told all that the plan has of it: its endpoint ID, a bridge its routing table to the end, its pool where one
-- is planned, and each of its records to its end where a terminus is planned.
pub record TellsAll (node : Node) (xs : List ExchangeValue) (f : NodeFacts) : Type 0 where
  pub eid : SomeTellsEid (answers_of node.eid.value xs)
  pub routes : IsTrue (is_bridge node.kind)
      → (found : List EntryValue) × IsAmong (Read found) (readings (parts_of node.eid.value xs))
  pub pool : size_of node.pool ≢ 0 → SomeTellsPool (answers_of node.eid.value xs)
  pub records : IsTrue (is_some node.terminus) → (place : ℕ) → place < length f.records
      → IsReadToEnd f.records f.parts place

-- each of the packets is planned on the bus
abbrev pub ArePlanned : Plan → Option ℕ → List NumberedPacket → Type 0
ArePlanned plan bus packets =
    (p : NumberedPacket) → IsAmong p packets → IsPlanned plan bus p.source p.destination

-- no line about packets tells a difference exactly where each packet of the capture is planned on the bus
abbrev pub TrafficMatchesWhereAsPlanned : Type 0
TrafficMatchesWhereAsPlanned = (plan : Plan) (bus : Option ℕ) (entries : List captured.EntryValue)
    (lines : List LineValue) → (passed : IsTraffic plan bus entries lines)
    → (difference_count lines ≡ 0) ↔ ArePlanned plan bus passed.packets

-- Where an audit matches, each node has said what is planned, and all of it where that is wanted. No device took an
-- endpoint ID that no node holds, each message's sender says rightly whether it owns the tag, and each answer was asked
-- for. Each packet is planned on the bus. And something that some node said was laid beside the plan.
abbrev pub AuditMatches : Type 0
AuditMatches = (plan : Plan) (cert : Certificate) (bus : Option ℕ) (complete : Bool)
    (entries : List captured.EntryValue) (lines : List LineValue) (sum : Sum)
    → (are : AreAudited plan cert bus complete entries lines sum) → is_match lines ≡ true
    → ((n : ℕ) (node : Node) → slice_get plan.nodes.items n ≡ Some node
    → (f : NodeFacts) × AreFacts plan are.repositories are.beside.heard n node f
    × SaysAsPlanned node are.beside.heard.exchanges f
    × (complete ≡ true → TellsAll node are.beside.heard.exchanges f))
    × HasNoStrangers plan are.beside.heard.exchanges
    × AreAllOwned are.beside.messages
    × AreAllAsked are.beside.heard.words
    × ArePlanned plan bus are.passed.packets
    × ((n : ℕ) × (node : Node) × (slice_get plan.nodes.items n ≡ Some node)
    × (f : NodeFacts) × AreFacts plan are.repositories are.beside.heard n node f
    × IsCompared node are.beside.heard.exchanges f)

-- and where all of this is so, the audit matches
abbrev pub MatchesAudit : Type 0
MatchesAudit = (plan : Plan) (cert : Certificate) (bus : Option ℕ) (complete : Bool)
    (entries : List captured.EntryValue) (lines : List LineValue) (sum : Sum)
    → (are : AreAudited plan cert bus complete entries lines sum)
    → ((n : ℕ) (node : Node) (f : NodeFacts) → slice_get plan.nodes.items n ≡ Some node
    → AreFacts plan are.repositories are.beside.heard n node f
    → SaysAsPlanned node are.beside.heard.exchanges f
    × (complete ≡ true → TellsAll node are.beside.heard.exchanges f))
    → HasNoStrangers plan are.beside.heard.exchanges
    → AreAllOwned are.beside.messages
    → AreAllAsked are.beside.heard.words
    → ArePlanned plan bus are.passed.packets
    → (n : ℕ) (node : Node) → slice_get plan.nodes.items n ≡ Some node
    → ((f : NodeFacts) → AreFacts plan are.repositories are.beside.heard n node f
    → IsCompared node are.beside.heard.exchanges f)
    → is_match lines ≡ true

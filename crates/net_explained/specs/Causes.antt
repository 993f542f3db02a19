-- Why a plan breaks a rule at a site, and who else is involved.
use Rattle.std.{specs.Prelude.{◌≡◌, ◌≢◌, ℕ, ◌<◌, ◌≤◌, List, [], ◌∷◌, length, Option, Some, None, slice_get}, specs.Option.{IsSomeAnd}}
use Rattle.mctp_transport.specs.PacketValues.{IsAssignable}
use Rattle.pdr_record.{specs.Faults.{IsFault}, specs.Records.{RecordValue, Spelled}, specs.declared.record_error.RecordError.{RecordError}}
use Rattle.pdr_repository.specs.Records.{IsRecordOf}
use Rattle.plan_values.{specs.declared.plan.Plan.{Plan}, specs.declared.nodes.Pool.{Pool}, specs.declared.nodes.Row.{Row}, specs.declared.terminus.PlannedRecord.{PlannedRecord}}
use Rattle.net_rules.{specs.declared.rule.Rule.TheVariants.{C01, C02, C03, C04, C05, C06, C07, C08, C09, C11, C12, C13, C15}, specs.Names.{HaveOneName}, specs.Owners.{ShareBus}, specs.Pools.{IsPoolInRange}, specs.Locators.{IsEidLocator, IsHeldByTerminus}, specs.Faults.{FaultSite}, specs.PlanFaults.{IsMetByPlan}}
use Rattle.net_tables.{specs.Routing.{Holds, Covers, HasRow, IsBridge}, specs.Rows.{IsInRange, IsOnBus, bus_of}, specs.Ownership.{IsOwnedBy, owner_of, pool_of, IsInPoolOf}, specs.Repositories.{terminus_of, records_of}}
use Rattle.net_explained.{specs.Rows.{HasRowThat, CoversAt}, specs.declared.cause.Cause.{Cause}, specs.declared.cause.Cause.TheVariants.{SharedName, UnassignableEid, SharedEid, RowOutOfRange, OverlappedRow, NextIsItself, NoSuchPort, NextNotOnBus, EndpointForSeveral, OwnerIsEndpoint, OwnerSharesNoBus, OutsideOwnersPool, InPeersPool, PoolOfEndpoint, PoolOutOfRange, PoolBeyondOwners, PoolsMeet, NextIsEndpoint, NextHasNoRow, NoRecords, HandleIsZero, SharedHandle, UnreadableRecord, OtherHandle, LongLocator, NobodyHolds, OtherTerminus}}

-- ---- names and endpoint IDs

-- m comes before n and has its name
abbrev pub SharesName : Plan → ℕ → ℕ → Type 0
SharesName plan n m = (m < n) × HaveOneName plan m n

-- n holds e, which can't be assigned
abbrev pub HoldsUnassignable : Plan → ℕ → ℕ → Type 0
HoldsUnassignable plan n e = Holds plan n e × ¬ IsAssignable e

-- m comes before n, and both hold e
abbrev pub SharesEid : Plan → ℕ → ℕ → ℕ → Type 0
SharesEid plan n m e = (m < n) × Holds plan m e × Holds plan n e

-- ---- rows

-- row i of n comes before row r, and both cover e
abbrev pub Overlaps : Plan → ℕ → ℕ → ℕ → ℕ → Type 0
Overlaps plan n i e r = (i < r) × CoversAt plan n i e × CoversAt plan n r e

-- n has no such port as the row's
abbrev pub LeadsNowhere : Plan → ℕ → Row → Type 0
LeadsNowhere plan n row = bus_of plan n row.port ≡ None

-- the row's port is on the bus, and its next node has no port there
abbrev pub LeadsOffBus : Plan → ℕ → ℕ → Row → Type 0
LeadsOffBus plan n bus row = (bus_of plan n row.port ≡ Some bus) × ¬ IsOnBus plan row.next bus

-- the row covers several endpoint IDs and leads to an endpoint
abbrev pub LeadsSeveral : Plan → Row → Type 0
LeadsSeveral plan row = (2 ≤ row.size) × ¬ IsBridge plan row.next

-- n's row r covers e, which the holder, another node than n, holds, and which the row's next node doesn't hold
abbrev pub LeadsPast : Plan → ℕ → ℕ → ℕ → ℕ → (ℕ → Type 0) → Type 0
LeadsPast plan n holder r e IsSuch = Holds plan holder e × (holder ≢ n)
    × HasRowThat plan n r (λ row. Covers row e × ¬ Holds plan row.next e × IsSuch row.next)

-- ---- owners and pools

-- n holds e, and its owner, which is this one, hasn't e in its pool
abbrev pub LiesOutside : Plan → ℕ → ℕ → ℕ → Type 0
LiesOutside plan n owner e = Holds plan n e × IsOwnedBy plan n owner × ¬ IsInPoolOf plan owner e

-- n holds e, and the peer is a bridge with n's owner that has e in its pool
abbrev pub LiesInPeers : Plan → ℕ → ℕ → ℕ → Type 0
LiesInPeers plan n peer e =
    Holds plan n e × IsBridge plan peer × (owner_of plan peer ≡ owner_of plan n) × IsInPoolOf plan peer e

-- n has such a pool
abbrev pub HasPoolThat : Plan → ℕ → (Pool → Type 0) → Type 0
HasPoolThat plan n P = (pool : Pool) × (pool_of plan n ≡ Some pool) × P pool

-- n has e in its pool, and its owner, which is this one, hasn't
abbrev pub ReachesBeyond : Plan → ℕ → ℕ → ℕ → Type 0
ReachesBeyond plan n owner e = IsInPoolOf plan n e × IsOwnedBy plan n owner × ¬ IsInPoolOf plan owner e

-- m comes before n, has its owner, and both have e in their pools
abbrev pub Meet : Plan → ℕ → ℕ → ℕ → Type 0
Meet plan n m e = (m < n) × (owner_of plan m ≡ owner_of plan n) × IsInPoolOf plan n e × IsInPoolOf plan m e

-- ---- records

-- n's record j, if n has it, is such a record
abbrev pub HasRecordThat : Plan → ℕ → ℕ → (PlannedRecord → Type 0) → Type 0
HasRecordThat plan n j P = (r : PlannedRecord) × (slice_get (records_of plan n) j ≡ Some r) × P r

-- n has a terminus, without records
abbrev pub IsEmptyTerminus : Plan → ℕ → Type 0
IsEmptyTerminus plan n = (terminus_of plan n ≢ None) × (records_of plan n ≡ [])

-- record i of n comes before record j, and both have one handle
abbrev pub SharesHandle : Plan → ℕ → ℕ → ℕ → Type 0
SharesHandle plan n i j =
    (i < j) × HasRecordThat plan n i (λ other. HasRecordThat plan n j (λ r. other.handle ≡ r.handle))

-- the bytes are those of no record
abbrev pub AreNoRecord : List ℕ → Type 0
AreNoRecord bytes = (whole : RecordValue) → ¬ Spelled whole bytes

-- and this is why
abbrev pub AreNoRecordFor : RecordError → List ℕ → Type 0
AreNoRecordFor why bytes = AreNoRecord bytes × IsFault why bytes

-- n's record j is a terminus locator of the TID whose value is not one byte long
abbrev pub LocatesNoEid : Plan → ℕ → ℕ → ℕ → Type 0
LocatesNoEid plan n tid j = HasRecordThat plan n j (λ r.
    (value : List ℕ) × IsEidLocator r.bytes.items tid value × (length value ≢ 1))

-- n's record j is a terminus locator of the TID and e
abbrev pub Locates : Plan → ℕ → ℕ → ℕ → ℕ → Type 0
Locates plan n j tid e = HasRecordThat plan n j (λ r. IsEidLocator r.bytes.items tid (e ∷ []))

-- n's record j is a terminus locator of the TID and e, and no node holds e
abbrev pub LocatesNobody : Plan → ℕ → ℕ → ℕ → ℕ → Type 0
LocatesNobody plan n tid j e = Locates plan n j tid e × ((m : ℕ) → ¬ Holds plan m e)

-- n's record j is a terminus locator of the TID and e; the holder holds e, and no holder's terminus has the TID
abbrev pub LocatesOther : Plan → ℕ → ℕ → ℕ → ℕ → ℕ → Type 0
LocatesOther plan n holder tid j e = Locates plan n j tid e × Holds plan holder e × ¬ IsHeldByTerminus plan tid e

-- ---- causes

-- so it is at a site with an entry and an endpoint ID
abbrev pub AtEntryAndEid : FaultSite → (ℕ → ℕ → Type 0) → Type 0
AtEntryAndEid p P = IsSomeAnd p.entry (λ i. IsSomeAnd p.eid (P i))

-- the plan breaks the rule at the site for this cause
abbrev pub IsCause : Plan → FaultSite → Cause → Type 0
IsCause plan p (SharedName m) = (p.rule ≡ C01) × SharesName plan p.node m
IsCause plan p UnassignableEid = (p.rule ≡ C02) × IsSomeAnd p.eid (HoldsUnassignable plan p.node)
IsCause plan p (SharedEid m) = (p.rule ≡ C03) × IsSomeAnd p.eid (SharesEid plan p.node m)
IsCause plan p RowOutOfRange =
    (p.rule ≡ C04) × IsSomeAnd p.entry (λ r. HasRowThat plan p.node r (λ row. ¬ IsInRange row))
IsCause plan p (OverlappedRow i eid) = (p.rule ≡ C05) × IsSomeAnd p.entry (Overlaps plan p.node i eid.value)
IsCause plan p NextIsItself =
    (p.rule ≡ C06) × IsSomeAnd p.entry (λ r. HasRowThat plan p.node r (λ row. row.next ≡ p.node))
IsCause plan p NoSuchPort =
    (p.rule ≡ C06) × IsSomeAnd p.entry (λ r. HasRowThat plan p.node r (LeadsNowhere plan p.node))
IsCause plan p (NextNotOnBus bus) =
    (p.rule ≡ C06) × IsSomeAnd p.entry (λ r. HasRowThat plan p.node r (LeadsOffBus plan p.node bus))
IsCause plan p EndpointForSeveral =
    (p.rule ≡ C06) × IsSomeAnd p.entry (λ r. HasRowThat plan p.node r (LeadsSeveral plan))
IsCause plan p (OwnerIsEndpoint owner) = (p.rule ≡ C07) × IsOwnedBy plan p.node owner × ¬ IsBridge plan owner
IsCause plan p (OwnerSharesNoBus owner) = (p.rule ≡ C07) × IsOwnedBy plan p.node owner × ¬ ShareBus plan p.node owner
IsCause plan p (OutsideOwnersPool owner) = (p.rule ≡ C08) × IsSomeAnd p.eid (LiesOutside plan p.node owner)
IsCause plan p (InPeersPool peer) = (p.rule ≡ C08) × IsSomeAnd p.eid (LiesInPeers plan p.node peer)
IsCause plan p PoolOfEndpoint = (p.rule ≡ C09) × HasPoolThat plan p.node (λ _. ¬ IsBridge plan p.node)
IsCause plan p PoolOutOfRange = (p.rule ≡ C09) × HasPoolThat plan p.node (λ pool. ¬ IsPoolInRange pool)
IsCause plan p (PoolBeyondOwners owner eid) = (p.rule ≡ C09) × ReachesBeyond plan p.node owner eid.value
IsCause plan p (PoolsMeet m eid) = (p.rule ≡ C09) × Meet plan p.node m eid.value
IsCause plan p (NextIsEndpoint holder) =
    (p.rule ≡ C11) × AtEntryAndEid p (λ r e. LeadsPast plan p.node holder r e (λ m. ¬ IsBridge plan m))
IsCause plan p (NextHasNoRow holder) =
    (p.rule ≡ C11)
    × AtEntryAndEid p (λ r e. LeadsPast plan p.node holder r e (λ m. IsBridge plan m × ¬ HasRow plan m e))
IsCause plan p NoRecords = (p.rule ≡ C12) × IsEmptyTerminus plan p.node
IsCause plan p HandleIsZero =
    (p.rule ≡ C12) × IsSomeAnd p.entry (λ j. HasRecordThat plan p.node j (λ r. r.handle ≡ 0))
IsCause plan p (SharedHandle i) = (p.rule ≡ C12) × IsSomeAnd p.entry (SharesHandle plan p.node i)
IsCause plan p (UnreadableRecord why) =
    (p.rule ≡ C13) × IsSomeAnd p.entry (λ j. HasRecordThat plan p.node j (λ r. AreNoRecordFor why r.bytes.items))
IsCause plan p (OtherHandle handle) = (p.rule ≡ C13)
    × IsSomeAnd p.entry (λ j. HasRecordThat plan p.node j (λ r. (r.handle ≢ handle) × IsRecordOf handle r.bytes.items))
IsCause plan p (LongLocator tid) = (p.rule ≡ C15) × IsSomeAnd p.entry (LocatesNoEid plan p.node tid)
IsCause plan p (NobodyHolds tid) = (p.rule ≡ C15) × AtEntryAndEid p (LocatesNobody plan p.node tid)
IsCause plan p (OtherTerminus holder tid) = (p.rule ≡ C15) × AtEntryAndEid p (LocatesOther plan p.node holder tid)

-- the cause for which the plan breaks the rule at the site; none exactly where the plan meets the rule there
abbrev pub IsCauseAt : Plan → FaultSite → Option Cause → Type 0
IsCauseAt plan p None = IsMetByPlan plan p
IsCauseAt plan p (Some cause) = IsCause plan p cause × ¬ IsMetByPlan plan p

-- What is lawful in a plan and still looks wrong.
use Rattle.std.specs.Prelude.{◌≡◌, ◌≢◌, ◌⊎◌, ℕ, suc, ◌<◌, ◌+◌, ◌*◌, ◌-◌, ◌^◌, nat_lt, nat_eq, if◌then◌else◌, List, [], ◌∷◌, Option, Some, None, slice_get}
use Rattle.plan_values.{specs.declared.plan.Plan.{Plan}, specs.declared.nodes.Port.{Port}, specs.declared.nodes.Row.{Row}, specs.declared.terminus.PlannedRecord.{PlannedRecord}, specs.declared.terminus.PlannedTerminus.{PlannedTerminus}}
use Rattle.pdr_record.{specs.Layouts.{NumericValue}, specs.Records.{RecordValue, BodyValue, Spelled}}
use Rattle.net_tables.{specs.Routing.{rows_of, IsBridge, Holds, IsHeld, Covers, HasRow, OfItem}, specs.Ownership.{IsOwnedBy, IsInPoolOf}, specs.Repositories.{terminus_of, records_of}}
use Rattle.net_rules.{specs.Moves.{Leads, IsEnd}, specs.Locators.{IsEidLocator}}
use Rattle.net_questions.specs.Ports.{IsPort}

-- ---- ports

-- n comes before m, or is m and p comes before q
abbrev pub IsEarlier : ℕ → ℕ → ℕ → ℕ → Type 0
IsEarlier n p m q = (n < m) ⊎ ((n ≡ m) × (p < q))

-- both ports are on one bus and have one address, which isn't empty
abbrev pub HaveOneAddress : Port → Port → Type 0
HaveOneAddress a b = (a.bus ≡ b.bus) × (a.address.items ≡ b.address.items) × (a.address.items ≢ [])

-- m has a port q that has the port's address, on its bus
abbrev pub HasItsAddress : Plan → Port → ℕ → ℕ → Type 0
HasItsAddress plan a m q = (b : Port) × IsPort plan m q b × HaveOneAddress a b

-- n's port p and m's port q have one address on one bus
abbrev pub HaveSharedAddress : Plan → ℕ → ℕ → ℕ → ℕ → Type 0
HaveSharedAddress plan n p m q = (a : Port) × IsPort plan n p a × HasItsAddress plan a m q

-- n's port p and a later port, m's port q, have one address on one bus
abbrev pub ShareAddress : Plan → ℕ → ℕ → ℕ → ℕ → Type 0
ShareAddress plan n p m q = IsEarlier n p m q × HaveSharedAddress plan n p m q

-- the port is on the bus and has an address
abbrev pub IsAddressedOn : ℕ → Port → Type 0
IsAddressedOn bus b = (b.bus ≡ bus) × (b.address.items ≢ [])

-- some port of m on the bus has an address
abbrev pub HasAddressOn : Plan → ℕ → ℕ → Type 0
HasAddressOn plan bus m = (q : ℕ) × (b : Port) × IsPort plan m q b × IsAddressedOn bus b

-- some port on the bus has an address
abbrev pub HasAddresses : Plan → ℕ → Type 0
HasAddresses plan bus = (m : ℕ) × HasAddressOn plan bus m

-- the port has an empty address, and some port on its bus has another
abbrev pub IsWithoutAddress : Plan → Port → Type 0
IsWithoutAddress plan a = (a.address.items ≡ []) × HasAddresses plan a.bus

-- n's port p is such a port
abbrev pub LacksAddress : Plan → ℕ → ℕ → Type 0
LacksAddress plan n p = (a : Port) × IsPort plan n p a × IsWithoutAddress plan a

-- m's port q is on the bus, and isn't n's port p
abbrev pub IsOtherOn : ℕ → ℕ → ℕ → ℕ → ℕ → Port → Type 0
IsOtherOn bus m n p q b = (b.bus ≡ bus) × ¬ ((m ≡ n) × (q ≡ p))

-- some port of m is on the bus, and isn't n's port p
abbrev pub HasOtherOn : Plan → ℕ → ℕ → ℕ → ℕ → Type 0
HasOtherOn plan bus m n p = (q : ℕ) × (b : Port) × IsPort plan m q b × IsOtherOn bus m n p q b

-- no other port than n's port p is on the bus
abbrev pub IsOnlyPort : Plan → ℕ → ℕ → ℕ → Type 0
IsOnlyPort plan bus n p = (m : ℕ) → ¬ HasOtherOn plan bus m n p

-- no other port is on the bus of n's port p
abbrev pub IsAloneOnBus : Plan → ℕ → ℕ → Type 0
IsAloneOnBus plan n p = (a : Port) × IsPort plan n p a × IsOnlyPort plan a.bus n p

-- ---- termini

-- both termini have one terminus ID; 0 is none
abbrev pub HaveOneTid : PlannedTerminus → PlannedTerminus → Type 0
HaveOneTid t u = (t.tid ≡ u.tid) × (t.tid ≢ 0)

-- m has a terminus of the terminus' ID
abbrev pub HasItsTid : Plan → PlannedTerminus → ℕ → Type 0
HasItsTid plan t m = (u : PlannedTerminus) × (terminus_of plan m ≡ Some u) × HaveOneTid t u

-- n and m have termini of one terminus ID
abbrev pub HaveSharedTid : Plan → ℕ → ℕ → Type 0
HaveSharedTid plan n m = (t : PlannedTerminus) × (terminus_of plan n ≡ Some t) × HasItsTid plan t m

-- n and a later node m have termini of one terminus ID
abbrev pub ShareTid : Plan → ℕ → ℕ → Type 0
ShareTid plan n m = (n < m) × HaveSharedTid plan n m

-- one of n's records is a valid locator of the TID and of e
abbrev pub HasLocator : Plan → ℕ → ℕ → ℕ → Type 0
HasLocator plan n tid e =
    (j : ℕ) × (r : PlannedRecord) × (slice_get (records_of plan n) j ≡ Some r) × IsEidLocator r.bytes.items tid (e ∷ [])

-- n has no valid locator of the TID and of its EID
abbrev pub IsUnlocated : Plan → ℕ → ℕ → Type 0
IsUnlocated plan n tid = (e : ℕ) × Holds plan n e × ¬ HasLocator plan n tid e

-- n has a terminus, and no valid locator of its own TID and EID
abbrev pub LacksLocator : Plan → ℕ → Type 0
LacksLocator plan n = (t : PlannedTerminus) × (terminus_of plan n ≡ Some t) × IsUnlocated plan n t.tid

-- ---- sensors

-- the sensor ID of a body, if it is a numeric or state sensor's
abbrev pub sensor_id_of : BodyValue → Option ℕ
sensor_id_of (BodyValue.Terminus t) = None
sensor_id_of (BodyValue.Numeric n) = Some n.sensor.sensor_id
sensor_id_of (BodyValue.State s) = Some s.sensor.sensor_id
sensor_id_of (BodyValue.Association a) = None
sensor_id_of (BodyValue.Other number bytes) = None

-- the bytes are those of a numeric or state sensor's record, which has this sensor ID
pub record IsSensorRecord (bytes : List ℕ) (id : ℕ) : Type 0 where
  pub whole : RecordValue
  pub spelled : Spelled whole bytes
  pub id_is : sensor_id_of whole.body ≡ Some id

-- a record of n's before record j is one of the sensor ID
abbrev pub HasEarlierSensor : Plan → ℕ → ℕ → ℕ → Type 0
HasEarlierSensor plan n j id =
    (i : ℕ) × (r : PlannedRecord) × (slice_get (records_of plan n) i ≡ Some r)
    × ((i < j) × IsSensorRecord r.bytes.items id)

-- the bytes are those of a sensor's record, and a record of n's before record j is one of the same sensor ID
abbrev pub RepeatsSensorId : Plan → ℕ → ℕ → List ℕ → Type 0
RepeatsSensorId plan n j bytes = (id : ℕ) × IsSensorRecord bytes id × HasEarlierSensor plan n j id

-- n's record j is a sensor's, and an earlier one of n's is one of the same sensor ID
abbrev pub SharesSensorId : Plan → ℕ → ℕ → Type 0
SharesSensorId plan n j =
    (r : PlannedRecord) × (slice_get (records_of plan n) j ≡ Some r) × RepeatsSensorId plan n j r.bytes.items

-- the number that the bytes spell, the lowest byte first
abbrev pub number_of : List ℕ → ℕ
number_of [] = 0
number_of (b ∷ bs) = b + 256 * number_of bs

-- A signed number whose sign bit, of this weight, is flipped. Flipped numbers, taken as unsigned, stand in the order of
-- the signed ones: the least one, the sign bit alone, is flipped to 0.
abbrev pub flipped : ℕ → ℕ → ℕ
flipped sign k = if nat_lt k sign then k + sign else k - sign

-- The position of a number among those of its data size, in their order, from 0. Data sizes 1, 3 and 5 are the signed
-- ones, in two's complement of 8, 16 and 32 bits.
abbrev pub position_of : ℕ → ℕ → ℕ
position_of size k =
    if nat_eq size 1 then flipped (2 ^ 7) k
    else if nat_eq size 3 then flipped (2 ^ 15) k
    else if nat_eq size 5 then flipped (2 ^ 31) k
    else k

-- the bytes a are a number of the data size that is over the number that the bytes b are
abbrev pub IsOver : ℕ → List ℕ → List ℕ → Type 0
IsOver size a b = position_of size (number_of b) < position_of size (number_of a)

-- the bytes are those of a numeric sensor's record
pub record IsNumericSensor (bytes : List ℕ) (sensor : NumericValue) : Type 0 where
  pub whole : RecordValue
  pub spelled : Spelled whole bytes
  pub body : whole.body ≡ BodyValue.Numeric sensor

-- the bytes are those of a numeric sensor's record, whose minReadable is over its maxReadable
abbrev pub HasEmptyRange : List ℕ → Type 0
HasEmptyRange bytes =
    (s : NumericValue) × IsNumericSensor bytes s × IsOver s.data_size s.min_readable s.max_readable

-- n's record j is such a record
abbrev pub HasEmptyReadableRange : Plan → ℕ → ℕ → Type 0
HasEmptyReadableRange plan n j =
    (r : PlannedRecord) × (slice_get (records_of plan n) j ≡ Some r) × HasEmptyRange r.bytes.items

-- ---- rows

-- no node holds any of the row's EIDs, and none lies in a pool
abbrev pub LeadsToNobody : Plan → Row → Type 0
LeadsToNobody plan row = (e m : ℕ) → Covers row e → ¬ Holds plan m e × ¬ IsInPoolOf plan m e

-- n's row r is such a row
abbrev pub HasIdleRow : Plan → ℕ → ℕ → Type 0
HasIdleRow plan n r = (row : Row) × (slice_get (rows_of plan n) r ≡ Some row) × LeadsToNobody plan row

-- the bridge n has e in its pool, another node holds e, and n has no row for it
abbrev pub LeavesHeld : Plan → ℕ → ℕ → Type 0
LeavesHeld plan n e =
    IsBridge plan n × IsInPoolOf plan n e × IsHeld plan e × ¬ Holds plan n e × ¬ HasRow plan n e

-- no node has a row for e
abbrev pub NobodyHasRow : Plan → ℕ → Type 0
NobodyHasRow plan e = (m : ℕ) → ¬ HasRow plan m e

-- no node has a row for n's EID
abbrev pub IsUnknown : Plan → ℕ → Type 0
IsUnknown plan n = (e : ℕ) × Holds plan n e × NobodyHasRow plan e

-- n has no rows, and no node has a row for its EID
abbrev pub IsIsolated : Plan → ℕ → Type 0
IsIsolated plan n = (rows_of plan n ≡ []) × IsUnknown plan n

-- ---- ways

-- the row is for e, and no earlier one of n's is
abbrev pub IsFirstRowFor : Plan → ℕ → ℕ → Row → Type 0
IsFirstRowFor plan n e row =
    (r : ℕ) × (slice_get (rows_of plan n) r ≡ Some row) × Covers row e
    × ((i : ℕ) → i < r → OfItem (rows_of plan n) i (λ other. ¬ Covers other e))

-- what is for e goes on from n to m: n doesn't hold e, and n's first row for e leads to m
abbrev pub IsForwardedTo : Plan → ℕ → ℕ → ℕ → Type 0
IsForwardedTo plan e n m = ¬ Holds plan n e × (row : Row) × IsFirstRowFor plan n e row × (row.next ≡ m)

-- what is put in at a node for e comes to another one
abbrev pub ComesTo : Plan → ℕ → ℕ → ℕ → Type 0
ComesTo plan e from to = (moves : ℕ) × Leads (IsForwardedTo plan e) from moves to

-- what is put in at a node for the EID of another one comes to that one
abbrev pub HasWayTo : Plan → ℕ → ℕ → Type 0
HasWayTo plan from to = (e : ℕ) × Holds plan to e × ComesTo plan e from to

-- nobody owns top, which is n, or n's owner, or that one's owner, and so on
abbrev pub OwnersEndAt : Plan → ℕ → ℕ → Type 0
OwnersEndAt plan n top = (k : ℕ) × Leads (IsOwnedBy plan) n k top × IsEnd (IsOwnedBy plan) top

-- nobody owns top, which is n's owner, or that one's owner, and so on
abbrev pub IsTopmostOwner : Plan → ℕ → ℕ → Type 0
IsTopmostOwner plan n top = (k : ℕ) × Leads (IsOwnedBy plan) n (suc k) top × IsEnd (IsOwnedBy plan) top

-- n's topmost owner is top, which has no way to n
abbrev pub HasNoWayFromOwner : Plan → ℕ → ℕ → Type 0
HasNoWayFromOwner plan n top = IsTopmostOwner plan n top × ¬ HasWayTo plan top n

-- n's topmost owner is top, to which n has no way
abbrev pub HasNoWayToOwner : Plan → ℕ → ℕ → Type 0
HasNoWayToOwner plan n top = IsTopmostOwner plan n top × ¬ HasWayTo plan n top

-- What the record of a sensor says (DSP0248).
use Rattle.std.specs.Prelude.{◌≡◌, ◌≢◌, ℕ, ◌<◌, ◌≤◌, ◌/◌, ◌%◌, nat_eq, ◌&&◌, Bool, true, false, List, [], ◌∷◌, Option, Some, None, slice_get, unwrap_or, Contains}
use Rattle.plan_values.{specs.declared.plan.Plan.{Plan}, specs.declared.terminus.PlannedRecord.{PlannedRecord}}
use Rattle.net_tables.specs.Repositories.{records_of}
use Rattle.pdr_record.{specs.Layouts.{SensorValue, EntityValue, NumericValue, TerminusValue, AssociationValue}, specs.Records.{RecordValue, BodyValue, Spelled}}
use Rattle.net_questions.specs.Lint.{IsOver, IsNumericSensor}

-- the bytes are those of a record with this body
pub record HasBody (bytes : List ℕ) (body : BodyValue) : Type 0 where
  pub whole : RecordValue
  pub spelled : Spelled whole bytes
  pub body_is : whole.body ≡ body

-- how the body of a numeric or state sensor begins
abbrev pub sensor_of : BodyValue → Option SensorValue
sensor_of (BodyValue.Terminus t) = None
sensor_of (BodyValue.Numeric n) = Some n.sensor
sensor_of (BodyValue.State s) = Some s.sensor
sensor_of (BodyValue.Association a) = None
sensor_of (BodyValue.Other number bytes) = None

-- the bytes are those of a numeric or state sensor's record, which begins so
abbrev pub IsSensor : List ℕ → SensorValue → Type 0
IsSensor bytes sensor = (body : BodyValue) × HasBody bytes body × (sensor_of body ≡ Some sensor)

-- ---- terminus handles

-- the bytes are those of a terminus locator with this terminus handle
abbrev pub IsLocatorOf : List ℕ → ℕ → Type 0
IsLocatorOf bytes handle =
    (locator : TerminusValue) × HasBody bytes (BodyValue.Terminus locator) × (locator.terminus_handle ≡ handle)

-- one of n's records is a terminus locator with this terminus handle
abbrev pub HasLocatorOf : Plan → ℕ → ℕ → Type 0
HasLocatorOf plan n handle =
    (j : ℕ) × (r : PlannedRecord) × (slice_get (records_of plan n) j ≡ Some r) × IsLocatorOf r.bytes.items handle

-- the bytes are those of a sensor's record, and none of n's records locates its terminus handle
abbrev pub HasUnknownHandle : Plan → ℕ → List ℕ → Type 0
HasUnknownHandle plan n bytes =
    (sensor : SensorValue) × IsSensor bytes sensor × ¬ HasLocatorOf plan n sensor.terminus_handle

-- n's record j is such a one
abbrev pub NamesNoTerminus : Plan → ℕ → ℕ → Type 0
NamesNoTerminus plan n j =
    (r : PlannedRecord) × (slice_get (records_of plan n) j ≡ Some r) × HasUnknownHandle plan n r.bytes.items

-- ---- entities

-- the bytes are those of an entity association, which has the entity among those that are contained
abbrev pub Associates : List ℕ → EntityValue → Type 0
Associates bytes entity =
    (a : AssociationValue) × HasBody bytes (BodyValue.Association a) × Contains a.contained_entities entity

-- one of n's records is such a one
abbrev pub HasAssociationOf : Plan → ℕ → EntityValue → Type 0
HasAssociationOf plan n entity =
    (j : ℕ) × (r : PlannedRecord) × (slice_get (records_of plan n) j ≡ Some r) × Associates r.bytes.items entity

-- the entity's container has another ID than 0, the system, and none of n's associations contains the entity
abbrev pub IsUncontained : Plan → ℕ → EntityValue → Type 0
IsUncontained plan n entity = (entity.container_id ≢ 0) × ¬ HasAssociationOf plan n entity

-- the bytes are those of a sensor's record, whose entity is such a one
abbrev pub HasUncontainedEntity : Plan → ℕ → List ℕ → Type 0
HasUncontainedEntity plan n bytes =
    (sensor : SensorValue) × IsSensor bytes sensor × IsUncontained plan n sensor.entity

-- n's record j is such a one
abbrev pub MeasuresUncontained : Plan → ℕ → ℕ → Type 0
MeasuresUncontained plan n j =
    (r : PlannedRecord) × (slice_get (records_of plan n) j ≡ Some r) × HasUncontainedEntity plan n r.bytes.items

-- ---- thresholds

-- whether the bit of this weight is set
abbrev pub has_bit : ℕ → ℕ → Bool
has_bit bits weight = nat_eq ((bits / weight) % 2) 1

-- the value, where it is given
abbrev pub given : Bool → List ℕ → Option (List ℕ)
given true value = Some value
given false value = None

-- The thresholds of a numeric sensor from the lowest to the highest: those that supportedThresholds has, and of
-- critical and fatal ones those that rangeFieldSupport has too. It has no bits for warnings.
abbrev pub thresholds_of : NumericValue → List (Option (List ℕ))
thresholds_of s =
    given (has_bit s.timing.supported_thresholds 32 && has_bit s.range_support 64) s.ranges.fatal_low
    ∷ given (has_bit s.timing.supported_thresholds 16 && has_bit s.range_support 16) s.ranges.critical_low
    ∷ given (has_bit s.timing.supported_thresholds 8) s.ranges.warning_low
    ∷ given (has_bit s.timing.supported_thresholds 1) s.ranges.warning_high
    ∷ given (has_bit s.timing.supported_thresholds 2 && has_bit s.range_support 8) s.ranges.critical_high
    ∷ given (has_bit s.timing.supported_thresholds 4 && has_bit s.range_support 32) s.ranges.fatal_high
    ∷ []

-- the threshold at an index, if there is one
abbrev pub threshold_of : NumericValue → ℕ → Option (List ℕ)
threshold_of s k = unwrap_or (slice_get (thresholds_of s) k) None

-- the thresholds at two indices are there, and the first one is over the second one
abbrev pub AreCrossed : NumericValue → ℕ → ℕ → Type 0
AreCrossed s i j = (low high : List ℕ) × (threshold_of s i ≡ Some low) × (threshold_of s j ≡ Some high)
    × IsOver s.range_format low high

-- a threshold is over one of the later ones
abbrev pub CrossesLater : NumericValue → ℕ → Type 0
CrossesLater s i = (j : ℕ) × ((i < j) × AreCrossed s i j)

-- some threshold is; those that are no integers are not compared
abbrev pub HasCrossed : NumericValue → Type 0
HasCrossed s = (s.range_format ≤ 5) × (i : ℕ) × CrossesLater s i

-- the bytes are those of a numeric sensor's record, whose thresholds are crossed
abbrev pub AreOfCrossed : List ℕ → Type 0
AreOfCrossed bytes = (s : NumericValue) × IsNumericSensor bytes s × HasCrossed s

-- n's record j is such a one
abbrev pub HasCrossedThresholds : Plan → ℕ → ℕ → Type 0
HasCrossedThresholds plan n j =
    (r : PlannedRecord) × (slice_get (records_of plan n) j ≡ Some r) × AreOfCrossed r.bytes.items

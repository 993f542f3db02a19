-- The fields of records by their names (DSP0248), and what they hold.
use Rattle.std.specs.Prelude.{ℕ, ◌+◌, ◌*◌, List, [], ◌∷◌, ◌++◌, length, map, codes, get_or, nat_eq, if◌then◌else◌}
use Rattle.pdr_record.{specs.Fields.{bytes_of}, specs.Layouts.{EntityValue, SensorValue, TerminusValue, StateSetValue, StateValue, AssociationValue, UnitsValue, PrecisionValue, TimingValue, RangesValue, NumericValue}, specs.Records.{BodyValue, Terminus, Numeric, State, Association, Other, RecordValue, type_of, body_fields}}

-- what a field holds: a number; the bits of a number of a data size, by its code; bytes; a state set; an entity
pub data Holding : Type 0 where
  Number : ℕ → Holding
  Sized : ℕ → ℕ → Holding
  Bytes : List ℕ → Holding
  Set : StateSetValue → Holding
  Thing : EntityValue → Holding

-- a field of a record
pub record Named : Type 0 where
  pub name : List ℕ
  pub held : Holding

abbrev pub number : List ℕ → ℕ → Named
number name n = record { name = name; held = Number n }

-- the number that at most four bytes are, the lowest first
abbrev pub bits_of : List ℕ → ℕ
bits_of bytes =
    get_or bytes 0 0 + 256 * get_or bytes 1 0 + 65536 * get_or bytes 2 0 + 16777216 * get_or bytes 3 0

-- a number of a data size in its bits, and the same in its bytes
abbrev pub bits : List ℕ → ℕ → ℕ → Named
bits name code n = record { name = name; held = Sized code n }

abbrev pub sized : List ℕ → ℕ → List ℕ → Named
sized name code bytes = bits name code (bits_of bytes)

-- a real number of 32 bits
abbrev pub real : List ℕ → ℕ → Named
real name n = bits name 6 n

abbrev pub raw : List ℕ → List ℕ → Named
raw name bytes = record { name = name; held = Bytes bytes }

-- ---- the common header

abbrev pub header_named : RecordValue → List Named
header_named r =
    number (codes "handle") r.handle ∷ number (codes "type") (type_of r.body) ∷ number (codes "change") r.change
    ∷ number (codes "length") (length (bytes_of (body_fields r.body))) ∷ []

-- ---- terminus locators

-- the locator's value: an endpoint ID, where the type is 1 and the value one byte, else its bytes
abbrev pub locator_named : ℕ → List ℕ → Named
locator_named type (e ∷ []) =
    if nat_eq type 1 then number (codes "eid") e else raw (codes "locator-value") (e ∷ [])
locator_named type value = raw (codes "locator-value") value

abbrev pub terminus_named : TerminusValue → List Named
terminus_named t =
    number (codes "terminus-handle") t.terminus_handle ∷ number (codes "validity") t.validity
    ∷ number (codes "tid") t.tid ∷ number (codes "container-id") t.container_id
    ∷ number (codes "locator-type") t.locator_type ∷ locator_named t.locator_type t.locator_value ∷ []

-- ---- sensors

abbrev pub sensor_named : SensorValue → List Named
sensor_named s =
    number (codes "terminus-handle") s.terminus_handle ∷ number (codes "sensor-id") s.sensor_id
    ∷ number (codes "entity-type") s.entity.entity_type ∷ number (codes "entity-instance") s.entity.instance_number
    ∷ number (codes "container-id") s.entity.container_id ∷ number (codes "sensor-init") s.sensor_init
    ∷ number (codes "auxiliary-names") s.auxiliary_names_pdr ∷ []

-- a state set and its possible states
abbrev pub state_set_named : StateSetValue → Named
state_set_named s = record { name = codes "state-set"; held = Set s }

abbrev pub state_named : StateValue → List Named
state_named s = sensor_named s.sensor ++ map state_set_named s.state_sets

abbrev pub units_named : UnitsValue → List Named
units_named u =
    number (codes "base-unit") u.base_unit ∷ bits (codes "unit-modifier") 1 u.unit_modifier
    ∷ number (codes "rate-unit") u.rate_unit ∷ number (codes "base-oem-unit") u.base_oem_unit_handle
    ∷ number (codes "aux-unit") u.aux_unit ∷ bits (codes "aux-unit-modifier") 1 u.aux_unit_modifier
    ∷ number (codes "aux-rate-unit") u.aux_rate_unit ∷ number (codes "rel") u.rel
    ∷ number (codes "aux-oem-unit") u.aux_oem_unit_handle ∷ number (codes "is-linear") u.is_linear ∷ []

abbrev pub precision_named : PrecisionValue → List Named
precision_named p =
    real (codes "resolution") p.resolution ∷ real (codes "offset") p.offset ∷ number (codes "accuracy") p.accuracy
    ∷ number (codes "plus-tolerance") p.plus_tolerance ∷ number (codes "minus-tolerance") p.minus_tolerance ∷ []

abbrev pub timing_named : TimingValue → List Named
timing_named t =
    number (codes "supported-thresholds") t.supported_thresholds ∷ number (codes "volatility") t.volatility
    ∷ real (codes "state-transition-interval") t.state_transition_interval
    ∷ real (codes "update-interval") t.update_interval ∷ []

abbrev pub ranges_named : ℕ → RangesValue → List Named
ranges_named format r =
    sized (codes "nominal-value") format r.nominal_value ∷ sized (codes "normal-max") format r.normal_max
    ∷ sized (codes "normal-min") format r.normal_min ∷ sized (codes "warning-high") format r.warning_high
    ∷ sized (codes "warning-low") format r.warning_low ∷ sized (codes "critical-high") format r.critical_high
    ∷ sized (codes "critical-low") format r.critical_low ∷ sized (codes "fatal-high") format r.fatal_high
    ∷ sized (codes "fatal-low") format r.fatal_low ∷ []

-- what a reading may be
abbrev pub readable_named : NumericValue → List Named
readable_named n =
    sized (codes "max-readable") n.data_size n.max_readable ∷ sized (codes "min-readable") n.data_size n.min_readable
    ∷ number (codes "range-format") n.range_format ∷ number (codes "range-support") n.range_support ∷ []

-- what stands behind the hysteresis
abbrev pub limits_named : NumericValue → List Named
limits_named n = timing_named n.timing ++ (readable_named n ++ ranges_named n.range_format n.ranges)

-- what stands between the units and these
abbrev pub sizes_named : NumericValue → List Named
sizes_named n = number (codes "data-size") n.data_size
    ∷ (precision_named n.precision ++ sized (codes "hysteresis") n.data_size n.hysteresis ∷ [])

abbrev pub numeric_named : NumericValue → List Named
numeric_named n = sensor_named n.sensor ++ (units_named n.units ++ (sizes_named n ++ limits_named n))

-- ---- entity associations

abbrev pub entity : List ℕ → EntityValue → Named
entity name e = record { name = name; held = Thing e }

abbrev pub contained_named : EntityValue → Named
contained_named e = entity (codes "contained-entity") e

-- what contains the others
abbrev pub container_named : AssociationValue → List Named
container_named a =
    number (codes "container-id") a.container_id ∷ number (codes "association-type") a.association_type
    ∷ entity (codes "container-entity") a.container_entity ∷ []

abbrev pub association_named : AssociationValue → List Named
association_named a = container_named a ++ map contained_named a.contained_entities

-- ---- records

abbrev pub body_named : BodyValue → List Named
body_named (Terminus t) = terminus_named t
body_named (Numeric n) = numeric_named n
body_named (State s) = state_named s
body_named (Association a) = association_named a
body_named (Other number bytes) = raw (codes "bytes") bytes ∷ []

-- every field of a record, in the order of its bytes
abbrev pub named_fields : RecordValue → List Named
named_fields r = header_named r ++ body_named r.body

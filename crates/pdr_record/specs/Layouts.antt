-- What records hold, and their fields in order (DSP0248).
use Rattle.std.specs.Prelude.{◌≡◌, ℕ, ◌≤◌, nat_lt, if◌then◌else◌, List, [], ◌∷◌, ◌++◌, length}
use Rattle.pdr_record.specs.Fields.{Field, U8, U16, U32, Raw}

-- what is identified by an entity type, an instance number and the container that the entity is in
pub record EntityValue : Type 0 where
  pub entity_type : ℕ
  pub instance_number : ℕ
  pub container_id : ℕ

abbrev pub entity_fields : EntityValue → List Field
entity_fields e = U16 e.entity_type ∷ U16 e.instance_number ∷ U16 e.container_id ∷ []

-- entities one after the other
abbrev pub entities_fields : List EntityValue → List Field
entities_fields [] = []
entities_fields (e ∷ es) = entity_fields e ++ entities_fields es

-- ---- terminus locator

pub record TerminusValue : Type 0 where
  pub terminus_handle : ℕ
  pub validity : ℕ
  pub tid : ℕ
  pub container_id : ℕ
  pub locator_type : ℕ
  pub locator_value : List ℕ

abbrev pub terminus_fields : TerminusValue → List Field
terminus_fields t =
    U16 t.terminus_handle ∷ U8 t.validity ∷ U8 t.tid ∷ U16 t.container_id ∷ U8 t.locator_type
    ∷ U8 (length t.locator_value) ∷ Raw t.locator_value ∷ []

-- ---- sensors

-- how the record of a sensor begins
pub record SensorValue : Type 0 where
  pub terminus_handle : ℕ
  pub sensor_id : ℕ
  pub entity : EntityValue
  pub sensor_init : ℕ
  pub auxiliary_names_pdr : ℕ

abbrev pub sensor_fields : SensorValue → List Field
sensor_fields s =
    U16 s.terminus_handle ∷ U16 s.sensor_id ∷ U16 s.entity.entity_type ∷ U16 s.entity.instance_number
    ∷ U16 s.entity.container_id ∷ U8 s.sensor_init ∷ U8 s.auxiliary_names_pdr ∷ []

-- ---- state sensor

-- a state set, and the bits of the states that a sensor can report of it
pub record StateSetValue : Type 0 where
  pub state_set_id : ℕ
  pub possible_states : List ℕ

abbrev pub state_sets_fields : List StateSetValue → List Field
state_sets_fields [] = []
state_sets_fields (s ∷ ss) =
    U16 s.state_set_id ∷ U8 (length s.possible_states) ∷ Raw s.possible_states ∷ state_sets_fields ss

pub record StateValue : Type 0 where
  pub sensor : SensorValue
  pub state_sets : List StateSetValue

abbrev pub state_fields : StateValue → List Field
state_fields s = sensor_fields s.sensor ++ U8 (length s.state_sets) ∷ state_sets_fields s.state_sets

-- ---- entity association

pub record AssociationValue : Type 0 where
  pub container_id : ℕ
  pub association_type : ℕ
  pub container_entity : EntityValue
  pub contained_entities : List EntityValue

abbrev pub association_fields : AssociationValue → List Field
association_fields a =
    U16 a.container_id ∷ U8 a.association_type ∷ U16 a.container_entity.entity_type
    ∷ U16 a.container_entity.instance_number ∷ U16 a.container_entity.container_id
    ∷ U8 (length a.contained_entities) ∷ entities_fields a.contained_entities

-- ---- numeric sensor

-- what a reading is measured in
pub record UnitsValue : Type 0 where
  pub base_unit : ℕ
  pub unit_modifier : ℕ
  pub rate_unit : ℕ
  pub base_oem_unit_handle : ℕ
  pub aux_unit : ℕ
  pub aux_unit_modifier : ℕ
  pub aux_rate_unit : ℕ
  pub rel : ℕ
  pub aux_oem_unit_handle : ℕ
  pub is_linear : ℕ

abbrev pub units_fields : UnitsValue → List Field
units_fields u =
    U8 u.base_unit ∷ U8 u.unit_modifier ∷ U8 u.rate_unit ∷ U8 u.base_oem_unit_handle ∷ U8 u.aux_unit
    ∷ U8 u.aux_unit_modifier ∷ U8 u.aux_rate_unit ∷ U8 u.rel ∷ U8 u.aux_oem_unit_handle ∷ U8 u.is_linear ∷ []

-- how a reading is turned into a value, and how exact it is; resolution and offset are the bits of a real32
pub record PrecisionValue : Type 0 where
  pub resolution : ℕ
  pub offset : ℕ
  pub accuracy : ℕ
  pub plus_tolerance : ℕ
  pub minus_tolerance : ℕ

abbrev pub precision_fields : PrecisionValue → List Field
precision_fields p = U32 p.resolution ∷ U32 p.offset ∷ U16 p.accuracy ∷ U8 p.plus_tolerance ∷ U8 p.minus_tolerance ∷ []

-- the thresholds that a sensor has, and its times, which are the bits of a real32
pub record TimingValue : Type 0 where
  pub supported_thresholds : ℕ
  pub volatility : ℕ
  pub state_transition_interval : ℕ
  pub update_interval : ℕ

abbrev pub timing_fields : TimingValue → List Field
timing_fields t =
    U8 t.supported_thresholds ∷ U8 t.volatility ∷ U32 t.state_transition_interval ∷ U32 t.update_interval ∷ []

-- the values that readings are compared with
pub record RangesValue : Type 0 where
  pub nominal_value : List ℕ
  pub normal_max : List ℕ
  pub normal_min : List ℕ
  pub warning_high : List ℕ
  pub warning_low : List ℕ
  pub critical_high : List ℕ
  pub critical_low : List ℕ
  pub fatal_high : List ℕ
  pub fatal_low : List ℕ

abbrev pub ranges_fields : RangesValue → List Field
ranges_fields r =
    Raw r.nominal_value ∷ Raw r.normal_max ∷ Raw r.normal_min ∷ Raw r.warning_high ∷ Raw r.warning_low
    ∷ Raw r.critical_high ∷ Raw r.critical_low ∷ Raw r.fatal_high ∷ Raw r.fatal_low ∷ []

pub record NumericValue : Type 0 where
  pub sensor : SensorValue
  pub units : UnitsValue
  pub data_size : ℕ
  pub precision : PrecisionValue
  pub hysteresis : List ℕ
  pub timing : TimingValue
  pub max_readable : List ℕ
  pub min_readable : List ℕ
  pub range_format : ℕ
  pub range_support : ℕ
  pub ranges : RangesValue

abbrev pub numeric_fields : NumericValue → List Field
numeric_fields n =
    sensor_fields n.sensor ++ units_fields n.units ++ U8 n.data_size ∷ precision_fields n.precision ++ Raw n.hysteresis
    ∷ timing_fields n.timing
    ++ Raw n.max_readable ∷ Raw n.min_readable ∷ U8 n.range_format ∷ U8 n.range_support ∷ ranges_fields n.ranges

-- the bytes of a value under a code: 0 and 1 are u8 and s8, 2 and 3 are u16 and s16, 4 and 5 are u32 and s32, and 6 is
-- real32
abbrev pub width_of : ℕ → ℕ
width_of code = if nat_lt code 2 then 1 else if nat_lt code 4 then 2 else 4

-- each of the values has the width of the range field format
pub record HaveWidth (width : ℕ) (r : RangesValue) : Type 0 where
  pub nominal_value : length r.nominal_value ≡ width
  pub normal_max : length r.normal_max ≡ width
  pub normal_min : length r.normal_min ≡ width
  pub warning_high : length r.warning_high ≡ width
  pub warning_low : length r.warning_low ≡ width
  pub critical_high : length r.critical_high ≡ width
  pub critical_low : length r.critical_low ≡ width
  pub fatal_high : length r.fatal_high ≡ width
  pub fatal_low : length r.fatal_low ≡ width

-- The codes are those of a data size, which has no real32, and of a range field format, and the values are as wide as
-- they say.
pub record IsNumeric (n : NumericValue) : Type 0 where
  pub data_size : n.data_size ≤ 5
  pub hysteresis : length n.hysteresis ≡ width_of n.data_size
  pub max_readable : length n.max_readable ≡ width_of n.data_size
  pub min_readable : length n.min_readable ≡ width_of n.data_size
  pub range_format : n.range_format ≤ 6
  pub ranges : HaveWidth (width_of n.range_format) n.ranges

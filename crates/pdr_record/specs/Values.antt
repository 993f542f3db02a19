-- What the records of the code stand for.
use Rattle.pdr_record.{specs.declared.entity.Entity.{Entity}, specs.declared.sensor.Sensor.{Sensor}, specs.declared.terminus_locator.TerminusLocator.{TerminusLocator}, specs.declared.units.Units.{Units}, specs.declared.precision.Precision.{Precision}, specs.declared.timing.Timing.{Timing}, specs.declared.ranges.Ranges.{Ranges}, specs.Layouts.{EntityValue, SensorValue, TerminusValue, UnitsValue, PrecisionValue, TimingValue, RangesValue}}

abbrev pub entity_value : Entity → EntityValue
entity_value e =
    record { entity_type = e.entity_type; instance_number = e.instance_number; container_id = e.container_id }

abbrev pub sensor_value : Sensor → SensorValue
sensor_value s = record {
  terminus_handle = s.terminus_handle;
  sensor_id = s.sensor_id;
  entity = entity_value s.entity;
  sensor_init = s.sensor_init;
  auxiliary_names_pdr = s.auxiliary_names_pdr;
}

abbrev pub terminus_value : TerminusLocator → TerminusValue
terminus_value t = record {
  terminus_handle = t.terminus_handle;
  validity = t.validity;
  tid = t.tid;
  container_id = t.container_id;
  locator_type = t.locator_type;
  locator_value = t.locator_value.now;
}

abbrev pub units_value : Units → UnitsValue
units_value u = record {
  base_unit = u.base_unit;
  unit_modifier = u.unit_modifier;
  rate_unit = u.rate_unit;
  base_oem_unit_handle = u.base_oem_unit_handle;
  aux_unit = u.aux_unit;
  aux_unit_modifier = u.aux_unit_modifier;
  aux_rate_unit = u.aux_rate_unit;
  rel = u.rel;
  aux_oem_unit_handle = u.aux_oem_unit_handle;
  is_linear = u.is_linear;
}

abbrev pub precision_value : Precision → PrecisionValue
precision_value p = record {
  resolution = p.resolution;
  offset = p.offset;
  accuracy = p.accuracy;
  plus_tolerance = p.plus_tolerance;
  minus_tolerance = p.minus_tolerance;
}

abbrev pub timing_value : Timing → TimingValue
timing_value t = record {
  supported_thresholds = t.supported_thresholds;
  volatility = t.threshold_and_hysteresis_volatility;
  state_transition_interval = t.state_transition_interval;
  update_interval = t.update_interval;
}

abbrev pub ranges_value : Ranges → RangesValue
ranges_value r = record {
  nominal_value = r.nominal_value.now;
  normal_max = r.normal_max.now;
  normal_min = r.normal_min.now;
  warning_high = r.warning_high.now;
  warning_low = r.warning_low.now;
  critical_high = r.critical_high.now;
  critical_low = r.critical_low.now;
  fatal_high = r.fatal_high.now;
  fatal_low = r.fatal_low.now;
}

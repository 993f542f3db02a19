-- What a numeric sensor of the code stands for.
use Rattle.pdr_record.{specs.declared.numeric_sensor.NumericSensor.{NumericSensor}, specs.Layouts.{NumericValue}, specs.Numbers.{size_code, format_code}, specs.Values.{sensor_value, units_value, precision_value, timing_value, ranges_value}}

abbrev pub numeric_value : NumericSensor → NumericValue
numeric_value n = record {
  sensor = sensor_value n.sensor;
  units = units_value n.units;
  data_size = size_code n.sensor_data_size;
  precision = precision_value n.precision;
  hysteresis = n.hysteresis.now;
  timing = timing_value n.timing;
  max_readable = n.max_readable.now;
  min_readable = n.min_readable.now;
  range_format = format_code n.range_field_format;
  range_support = n.range_field_support;
  ranges = ranges_value n.ranges;
}

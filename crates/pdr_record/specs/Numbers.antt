-- The codes of data sizes and range field formats.
use Rattle.std.specs.Prelude.{ℕ}
use Rattle.pdr_record.{specs.declared.sensor_data_size.SensorDataSize.{SensorDataSize}, specs.declared.sensor_data_size.SensorDataSize.TheVariants.{U8, S8, U16, S16, U32, S32}, specs.declared.range_field_format.RangeFieldFormat.{RangeFieldFormat}, specs.declared.range_field_format.RangeFieldFormat.TheVariants.{Integer, Real32}}

abbrev pub size_code : SensorDataSize → ℕ
size_code U8 = 0
size_code S8 = 1
size_code U16 = 2
size_code S16 = 3
size_code U32 = 4
size_code S32 = 5

abbrev pub format_code : RangeFieldFormat → ℕ
format_code (Integer size) = size_code size
format_code Real32 = 6

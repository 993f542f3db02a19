use Rattle.std.{proofs.Common.{◌≡◌, ◌≤◌, ◌∙◌, ap, ◌∷◌, inr, arith}, proofs.lemmas.Result.{err_from_is_err_and}}
use Rattle.pdr_record.{specs.Fields.{followed}, specs.Layouts.{width_of, NumericValue}, specs.Numbers.{size_code, format_code}, specs.Values.{sensor_value, units_value, precision_value, timing_value, ranges_value}, specs.LayoutLaws.{front}, proofs.Numeric.{other_format, ends_behind, numeric_fits, size_most, format_most}}
use Rattle.pdr_record.proofs.numeric_sensor.NumericSensor.take.Goals as goal

pub returns-in_err-range_field_format-clause-refused : goal.returns-in_err-range_field_format-clause-refused
returns-in_err-range_field_format-clause-refused c =
    let p = err_from_is_err_and c.from_residual-in_err-range_field_format.result c.from_residual-in_err-range_field_format.ensures.1 in
    let h = c.in_err-range_field_format.ensures.refused in
    let bytes = c.args.fields.now.rest.now in
    let e : bytes ≡ followed (front (sensor_value c.take-sensor.result) (units_value c.take-units.result) c.u8.result (precision_value c.take-precision.result) c.bytes-hysteresis.result.now
    (timing_value c.take-timing.result) c.bytes-max_readable.result.now c.bytes-min_readable.result.now) (c.u8-2.result ∷ c.u8-2.new.self.rest.now) = cc in
    let size : size_code c.in_ok-sensor_data_size.sensor_data_size ≡ c.u8.result = c.in_ok-sensor_data_size.ensures.ok in
    let width : c.width-width.result ≡ width_of c.u8.result = c.width-width.ensures ∙ ap width_of size in
    let known : c.u8.result ≤ 5 = rw (← size) (size_most c.in_ok-sensor_data_size.sensor_data_size) in
    rw (p.1, p.2, h.0) (inr (other_format _ _ _ _ _ _ _ _ _ bytes _ e known (c.bytes-hysteresis.ensures.count ∙ width) (c.bytes-max_readable.ensures.count ∙ width) (c.bytes-min_readable.ensures.count ∙ width) h.1))

pub returns-in_err-want-3-clause-refused : goal.returns-in_err-want-3-clause-refused
returns-in_err-want-3-clause-refused c =
    let p = err_from_is_err_and c.from_residual-in_err-want-3.result c.from_residual-in_err-want-3.ensures.1 in
    let h = c.in_err-want-3.ensures.refused in
    let bytes = c.args.fields.now.rest.now in
    let e : bytes ≡ followed (front (sensor_value c.take-sensor.result) (units_value c.take-units.result) c.u8.result (precision_value c.take-precision.result) c.bytes-hysteresis.result.now
    (timing_value c.take-timing.result) c.bytes-max_readable.result.now c.bytes-min_readable.result.now) (c.u8-2.result ∷ c.u8-2.new.self.rest.now) = cc in
    let size : size_code c.in_ok-sensor_data_size.sensor_data_size ≡ c.u8.result = c.in_ok-sensor_data_size.ensures.ok in
    let width : c.width-width.result ≡ width_of c.u8.result = c.width-width.ensures ∙ ap width_of size in
    let known : c.u8.result ≤ 5 = rw (← size) (size_most c.in_ok-sensor_data_size.sensor_data_size) in
    let format : format_code c.in_ok-range_field_format.range_field_format ≡ c.u8-2.result = c.in_ok-range_field_format.ensures.ok in
    let second : c.width-width-2.result ≡ width_of c.u8-2.result = c.width-width-2.ensures ∙ ap width_of format in
    rw (p.1, p.2, h.0) (ends_behind _ _ _ _ _ _ _ _ _ bytes _ e known (c.bytes-hysteresis.ensures.count ∙ width) (c.bytes-max_readable.ensures.count ∙ width) (c.bytes-min_readable.ensures.count ∙ width)
    (rw (← format) (format_most c.in_ok-range_field_format.range_field_format)) (omega (arith, h.1, second)))

pub returns-clause-fits : goal.returns-clause-fits
returns-clause-fits c =
    let n : NumericValue = record {
      sensor = sensor_value c.take-sensor.result;
      units = units_value c.take-units.result;
      data_size = size_code c.in_ok-sensor_data_size.sensor_data_size;
      precision = precision_value c.take-precision.result;
      hysteresis = c.bytes-hysteresis.result.now;
      timing = timing_value c.take-timing.result;
      max_readable = c.bytes-max_readable.result.now;
      min_readable = c.bytes-min_readable.result.now;
      range_format = format_code c.in_ok-range_field_format.range_field_format;
      range_support = c.u8-3.result;
      ranges = ranges_value c.take.result;
    } in
    numeric_fits n c.take-sensor.ensures.fits c.take-units.ensures.fits (omega (arith, size_most c.in_ok-sensor_data_size.sensor_data_size)) c.take-precision.ensures.fits
    c.take-timing.ensures.fits (omega (arith, format_most c.in_ok-range_field_format.range_field_format)) (omega arith)

-- Where the range field format of a numeric sensor stands.
use Rattle.std.proofs.Common.{◌≡◌, ℕ, ◌+◌, ◌*◌, ◌<◌, ◌≤◌, List, [], ◌∷◌, ◌++◌, length, arith}
use Rattle.pdr_record.{specs.Fields.{Field, U8, Raw, followed, Fit}, specs.NumericCodes.{HasOtherFormat}, specs.Endings.{EndsEarly, Tail}, specs.Layouts.{width_of, NumericValue, numeric_fields, ranges_fields, SensorValue, UnitsValue, PrecisionValue, TimingValue, sensor_fields, units_fields, precision_fields, timing_fields}, specs.Numbers.{size_code, format_code}, specs.declared.sensor_data_size.SensorDataSize.{SensorDataSize}, specs.declared.range_field_format.RangeFieldFormat.{RangeFieldFormat}, specs.declared.range_field_format.RangeFieldFormat.TheVariants.{Integer, Real32}, specs.LayoutLaws.{front, at_format}}
use Rattle.pdr_record.specs.declared.sensor_data_size.SensorDataSize.TheVariants as size

-- numbers that fit, after others that do
pub fit-append : (fs gs : List Field) → Fit fs → Fit gs → Fit (fs ++ gs)
fit-append [] gs h k = k
fit-append (f ∷ fs) gs h k = (h.0, fit-append fs gs h.1 k)

module _ (s : SensorValue) (u : UnitsValue) (code : ℕ) (p : PrecisionValue) (h : List ℕ) (t : TimingValue) (mx mn rest bytes : List ℕ) (format : ℕ)
    (e : bytes ≡ followed (front s u code p h t mx mn) (format ∷ rest)) (known : code ≤ 5) (eh : length h ≡ width_of code) (ex : length mx ≡ width_of code) (en : length mn ≡ width_of code) where
  -- the format is no format
  pub other_format : 6 < format → HasOtherFormat bytes
  other_format over =
      let at = at_format s u code p h t mx mn rest bytes format (width_of code) e eh ex en in
      rw (at.size, at.place) (known, omega (arith, at.long), over)

  -- the bytes end behind the format
  pub ends_behind : format ≤ 6 → length rest < 1 + 9 * width_of format → EndsEarly bytes
  ends_behind within short =
      let at = at_format s u code p h t mx mn rest bytes format (width_of code) e eh ex en in
      Tail (rw at.size known) (rw at.size (omega (arith, at.long))) (rw (at.size, at.place) within) (rw (at.size, at.place) (omega (arith, at.long)))

-- the codes of data sizes and of range field formats
pub size_most : (size : SensorDataSize) → size_code size ≤ 5
size_most size.U8 = omega arith
size_most size.S8 = omega arith
size_most size.U16 = omega arith
size_most size.S16 = omega arith
size_most size.U32 = omega arith
size_most size.S32 = omega arith

pub format_most : (format : RangeFieldFormat) → format_code format ≤ 6
format_most (Integer size) = let h = size_most size in omega (arith, h)
format_most Real32 = omega arith

-- the numbers of a numeric sensor fit where those of its parts do
pub numeric_fits : (n : NumericValue) → Fit (sensor_fields n.sensor) → Fit (units_fields n.units) → n.data_size < 256 → Fit (precision_fields n.precision) → Fit (timing_fields n.timing)
    → n.range_format < 256 → n.range_support < 256 → Fit (numeric_fields n)
numeric_fits n s u d p t f r =
    let tail : Fit (Raw n.max_readable ∷ Raw n.min_readable ∷ U8 n.range_format ∷ U8 n.range_support ∷ ranges_fields n.ranges) =
    (tt, (tt, (f, (r, (tt, (tt, (tt, (tt, (tt, (tt, (tt, (tt, (tt, tt))))))))))))) in
    let fourth : Fit (Raw n.hysteresis ∷ timing_fields n.timing ++ Raw n.max_readable ∷ Raw n.min_readable ∷ U8 n.range_format ∷ U8 n.range_support ∷ ranges_fields n.ranges) =
    (tt, fit-append (timing_fields n.timing) (Raw n.max_readable ∷ Raw n.min_readable ∷ U8 n.range_format ∷ U8 n.range_support ∷ ranges_fields n.ranges) t tail) in
    let third : Fit (U8 n.data_size ∷ precision_fields n.precision ++ Raw n.hysteresis ∷ timing_fields n.timing ++ Raw n.max_readable ∷ Raw n.min_readable ∷ U8 n.range_format ∷ U8 n.range_support ∷ ranges_fields n.ranges) =
    (d, fit-append (precision_fields n.precision) (Raw n.hysteresis ∷ timing_fields n.timing ++ Raw n.max_readable ∷ Raw n.min_readable ∷ U8 n.range_format ∷ U8 n.range_support ∷ ranges_fields n.ranges) p fourth) in
    let second : Fit (units_fields n.units ++ U8 n.data_size ∷ precision_fields n.precision ++ Raw n.hysteresis ∷ timing_fields n.timing ++ Raw n.max_readable ∷ Raw n.min_readable ∷ U8 n.range_format ∷ U8 n.range_support ∷ ranges_fields n.ranges) =
    fit-append (units_fields n.units) (U8 n.data_size ∷ precision_fields n.precision ++ Raw n.hysteresis ∷ timing_fields n.timing ++ Raw n.max_readable ∷ Raw n.min_readable ∷ U8 n.range_format ∷ U8 n.range_support ∷ ranges_fields n.ranges) u third in
    fit-append (sensor_fields n.sensor) (units_fields n.units ++ U8 n.data_size ∷ precision_fields n.precision ++ Raw n.hysteresis ∷ timing_fields n.timing ++ Raw n.max_readable ∷ Raw n.min_readable ∷ U8 n.range_format ∷ U8 n.range_support ∷ ranges_fields n.ranges) s second

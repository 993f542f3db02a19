-- The bytes of a layout tell what it holds, and where it ends.
use Rattle.std.{proofs.Common.{◌≡◌, ℕ, ◌+◌, ◌*◌, List, [], ◌∷◌, ◌++◌, length, get_or, Some, refl, sym, ap, ◌∙◌, arith, length-append}, specs.Prelude.{slice_index}}
use Rattle.pdr_record.{specs.Fields.{Field, U8, U16, Raw, followed, bytes_of, Fit}, specs.FieldLaws.{One, Two, Many, shapes, one_fields, fit_parts, same_rest, number, raw, followed-bytes, length-followed}, specs.ListsAt.{entities_of, state_sets_of, after_state_sets}, specs.ListLaws.{state_sets_again, after_again, entities_again}, specs.Layouts.{EntityValue, TerminusValue, SensorValue, StateValue, AssociationValue, UnitsValue, PrecisionValue, TimingValue, NumericValue, entities_fields, terminus_fields, sensor_fields, state_sets_fields, state_fields, association_fields, units_fields, precision_fields, timing_fields, ranges_fields, numeric_fields, width_of, IsNumeric}}

-- ---- terminus locators

abbrev terminus_in : List Field → TerminusValue
terminus_in fs =
    record {
      terminus_handle = number fs 0;
      validity = number fs 1;
      tid = number fs 2;
      container_id = number fs 3;
      locator_type = number fs 4;
      locator_value = raw fs 6;
    }

pub one_terminus : (m n : TerminusValue) (r s : List ℕ) → Fit (terminus_fields m) → Fit (terminus_fields n)
    → followed (terminus_fields m) r ≡ followed (terminus_fields n) s → (m ≡ n) × (r ≡ s)
one_terminus m n r s hm hn e =
    let len : length m.locator_value ≡ length n.locator_value = ap (λ (bs : List ℕ). slice_index bs 7) e in
    let same =
    one_fields (terminus_fields m) (terminus_fields n) r s hm hn
    (ap (λ (k : ℕ). Two ∷ One ∷ One ∷ Two ∷ One ∷ One ∷ Many k ∷ []) len) e in
    (ap terminus_in same.0, same.1)

-- ---- sensors

abbrev sensor_in : List Field → SensorValue
sensor_in fs = record {
  terminus_handle = number fs 0;
  sensor_id = number fs 1;
  entity = record { entity_type = number fs 2; instance_number = number fs 3; container_id = number fs 4 };
  sensor_init = number fs 5;
  auxiliary_names_pdr = number fs 6;
}

pub one_state : (m n : StateValue) (r s : List ℕ) → Fit (state_fields m) → Fit (state_fields n)
    → followed (state_fields m) r ≡ followed (state_fields n) s → (m ≡ n) × (r ≡ s)
one_state m n r s hm hn e =
    let fs = sensor_fields m.sensor ++ U8 (length m.state_sets) ∷ [] in
    let gs = sensor_fields n.sensor ++ U8 (length n.state_sets) ∷ [] in
    let x = followed (state_sets_fields m.state_sets) r in
    let y = followed (state_sets_fields n.state_sets) s in
    let fm = fit_parts fs (state_sets_fields m.state_sets) hm in
    let fn = fit_parts gs (state_sets_fields n.state_sets) hn in
    let same = one_fields fs gs x y fm.0 fn.0 refl e in
    let len : length m.state_sets ≡ length n.state_sets = ap (λ (fields : List Field). number fields 7) same.0 in
    let sets : m.state_sets ≡ n.state_sets =
    sym (state_sets_again m.state_sets r fm.1) ∙ ap (state_sets_of (length m.state_sets)) same.1
    ∙ ap (λ (k : ℕ). state_sets_of k y) len ∙ state_sets_again n.state_sets s fn.1 in
    let rests : Some r ≡ Some s =
    sym (after_again m.state_sets r) ∙ ap (after_state_sets (length m.state_sets)) same.1
    ∙ ap (λ (k : ℕ). after_state_sets k y) len ∙ after_again n.state_sets s in
    (λ i. record { sensor = sensor_in (same.0 i); state_sets = sets i }, cc)

-- ---- entity associations

abbrev container_in : List Field → EntityValue
container_in fs = record { entity_type = number fs 2; instance_number = number fs 3; container_id = number fs 4 }

pub one_association : (m n : AssociationValue) (r s : List ℕ) → Fit (association_fields m) → Fit (association_fields n)
    → followed (association_fields m) r ≡ followed (association_fields n) s → (m ≡ n) × (r ≡ s)
one_association m n r s hm hn e =
    let fs =
    U16 m.container_id ∷ U8 m.association_type ∷ U16 m.container_entity.entity_type
    ∷ U16 m.container_entity.instance_number ∷ U16 m.container_entity.container_id
    ∷ U8 (length m.contained_entities) ∷ [] in
    let gs =
    U16 n.container_id ∷ U8 n.association_type ∷ U16 n.container_entity.entity_type
    ∷ U16 n.container_entity.instance_number ∷ U16 n.container_entity.container_id
    ∷ U8 (length n.contained_entities) ∷ [] in
    let x = followed (entities_fields m.contained_entities) r in
    let y = followed (entities_fields n.contained_entities) s in
    let fm = fit_parts fs (entities_fields m.contained_entities) hm in
    let fn = fit_parts gs (entities_fields n.contained_entities) hn in
    let same = one_fields fs gs x y fm.0 fn.0 refl e in
    let len : length m.contained_entities ≡ length n.contained_entities =
    ap (λ (fields : List Field). number fields 5) same.0 in
    let entities : m.contained_entities ≡ n.contained_entities =
    sym (entities_again m.contained_entities r fm.1) ∙ ap (entities_of (length m.contained_entities)) same.1
    ∙ ap (λ (k : ℕ). entities_of k y) len ∙ entities_again n.contained_entities s fn.1 in
    let rests : r ≡ s =
    same_rest (entities_fields m.contained_entities) r s
    (same.1 ∙ ap (λ (es : List EntityValue). followed (entities_fields es) s) (sym entities)) in (
      λ i. record {
        container_id = number (same.0 i) 0;
        association_type = number (same.0 i) 1;
        container_entity = container_in (same.0 i);
        contained_entities = entities i;
      },
      rests,
    )

-- ---- numeric sensors

-- the fields before the range field format
abbrev pub front : SensorValue → UnitsValue → ℕ → PrecisionValue → List ℕ → TimingValue → List ℕ → List ℕ → List Field
front s u code p h t mx mn =
    sensor_fields s ++ units_fields u ++ U8 code ∷ precision_fields p ++ Raw h ∷ timing_fields t ++ Raw mx ∷ Raw mn ∷ []

-- the byte behind others
at_length : (xs ys : List ℕ) (b : ℕ) → get_or (xs ++ b ∷ ys) (length xs) 0 ≡ b
at_length [] ys b = refl
at_length (x ∷ xs) ys b = at_length xs ys b

-- what the bytes have at the places of the codes, and how many they are
pub record AtFormat (bytes rest : List ℕ) (code format width : ℕ) : Type 0 where
  pub size : slice_index bytes 22 ≡ code
  pub place : slice_index bytes (45 + 3 * width) ≡ format
  pub long : length bytes ≡ 46 + 3 * width + length rest

pub at_format : (s : SensorValue) (u : UnitsValue) (code : ℕ) (p : PrecisionValue) (h : List ℕ) (t : TimingValue)
    (mx mn rest bytes : List ℕ) (format width : ℕ)
    → bytes ≡ followed (front s u code p h t mx mn) (format ∷ rest) → length h ≡ width → length mx ≡ width
    → length mn ≡ width → AtFormat bytes rest code format width
at_format s u code p h t mx mn rest bytes format width e eh ex en =
    let fs = front s u code p h t mx mn in
    let long : length (bytes_of fs) ≡ 45 + 3 * width = simp length-append (omega arith) in
    let split : bytes ≡ bytes_of fs ++ format ∷ rest = e ∙ followed-bytes fs (format ∷ rest) in
    record {
      size = ap (λ (bs : List ℕ). slice_index bs 22) e;
      place =
          ap (λ (bs : List ℕ). slice_index bs (45 + 3 * width)) split
          ∙ ap (λ (i : ℕ). slice_index (bytes_of fs ++ format ∷ rest) i) (sym long)
          ∙ at_length (bytes_of fs) rest format;
      long = omega (arith, ap length e, length-followed fs (format ∷ rest), long);
    }

-- what the bytes have at the places of the codes, and how many they are
pub record IsNumericFront (n : NumericValue) (bytes rest : List ℕ) : Type 0 where
  pub size : slice_index bytes 22 ≡ n.data_size
  pub place : slice_index bytes (45 + 3 * width_of n.data_size) ≡ n.range_format
  pub long : length bytes ≡ 47 + 3 * width_of n.data_size + 9 * width_of n.range_format + length rest

pub numeric_front : (n : NumericValue) (bytes rest : List ℕ) → IsNumeric n → bytes ≡ followed (numeric_fields n) rest
    → IsNumericFront n bytes rest
numeric_front n bytes rest h e =
    let at =
    at_format n.sensor n.units n.data_size n.precision n.hysteresis n.timing n.max_readable n.min_readable
    (n.range_support ∷ followed (ranges_fields n.ranges) rest) bytes n.range_format
    (width_of n.data_size) e h.hysteresis h.max_readable h.min_readable in
    let w = h.ranges in
    let tail : length (followed (ranges_fields n.ranges) rest) ≡ 9 * width_of n.range_format + length rest =
    simp length-append
    (omega (
      arith,
      w.nominal_value,
      w.normal_max,
      w.normal_min,
      w.warning_high,
      w.warning_low,
      w.critical_high,
      w.critical_low,
      w.fatal_high,
      w.fatal_low,
    )) in
    record { size = at.size; place = at.place; long = omega (arith, at.long, tail) }

abbrev numeric_in : List Field → NumericValue
numeric_in fs = record {
  sensor = sensor_in fs;
  units =
      record {
        base_unit = number fs 7;
        unit_modifier = number fs 8;
        rate_unit = number fs 9;
        base_oem_unit_handle =
            number fs 10;
        aux_unit =
            number fs 11;
        aux_unit_modifier =
            number fs 12;
        aux_rate_unit =
            number fs 13;
        rel = number fs 14;
        aux_oem_unit_handle = number fs 15;
        is_linear = number fs 16;
      };
  data_size = number fs 17;
  precision =
      record {
        resolution = number fs 18;
        offset = number fs 19;
        accuracy = number fs 20;
        plus_tolerance = number fs 21;
        minus_tolerance = number fs 22;
      };
  hysteresis = raw fs 23;
  timing =
      record {
        supported_thresholds = number fs 24;
        volatility = number fs 25;
        state_transition_interval = number fs 26;
        update_interval = number fs 27;
      };
  max_readable = raw fs 28;
  min_readable = raw fs 29;
  range_format = number fs 30;
  range_support = number fs 31;
  ranges =
      record {
        nominal_value = raw fs 32;
        normal_max = raw fs 33;
        normal_min = raw fs 34;
        warning_high = raw fs 35;
        warning_low =
            raw fs 36;
        critical_high = raw fs 37;
        critical_low = raw fs 38;
        fatal_high = raw fs 39;
        fatal_low = raw fs 40;
      };
}

-- numeric sensors of one data size and one range field format have fields of the same shapes
same_shapes : (m n : NumericValue) → IsNumeric m → IsNumeric n → m.data_size ≡ n.data_size
    → m.range_format ≡ n.range_format → shapes (numeric_fields m) ≡ shapes (numeric_fields n)
same_shapes m n hm hn size format =
    let d = ap width_of size in
    let f = ap width_of format in
    let a : length m.hysteresis ≡ length n.hysteresis = hm.hysteresis ∙ d ∙ sym hn.hysteresis in
    let b : length m.max_readable ≡ length n.max_readable = hm.max_readable ∙ d ∙ sym hn.max_readable in
    let c : length m.min_readable ≡ length n.min_readable = hm.min_readable ∙ d ∙ sym hn.min_readable in
    let r1 : length m.ranges.nominal_value ≡ length n.ranges.nominal_value =
    hm.ranges.nominal_value ∙ f ∙ sym hn.ranges.nominal_value in
    let r2 : length m.ranges.normal_max ≡ length n.ranges.normal_max =
    hm.ranges.normal_max ∙ f ∙ sym hn.ranges.normal_max in
    let r3 : length m.ranges.normal_min ≡ length n.ranges.normal_min =
    hm.ranges.normal_min ∙ f ∙ sym hn.ranges.normal_min in
    let r4 : length m.ranges.warning_high ≡ length n.ranges.warning_high =
    hm.ranges.warning_high ∙ f ∙ sym hn.ranges.warning_high in
    let r5 : length m.ranges.warning_low ≡ length n.ranges.warning_low =
    hm.ranges.warning_low ∙ f ∙ sym hn.ranges.warning_low in
    let r6 : length m.ranges.critical_high ≡ length n.ranges.critical_high =
    hm.ranges.critical_high ∙ f ∙ sym hn.ranges.critical_high in
    let r7 : length m.ranges.critical_low ≡ length n.ranges.critical_low =
    hm.ranges.critical_low ∙ f ∙ sym hn.ranges.critical_low in
    let r8 : length m.ranges.fatal_high ≡ length n.ranges.fatal_high =
    hm.ranges.fatal_high ∙ f ∙ sym hn.ranges.fatal_high in
    let r9 : length m.ranges.fatal_low ≡ length n.ranges.fatal_low =
    hm.ranges.fatal_low ∙ f ∙ sym hn.ranges.fatal_low in
    cc

pub one_numeric : (m n : NumericValue) (r s : List ℕ) → Fit (numeric_fields m) → Fit (numeric_fields n) → IsNumeric m
    → IsNumeric n → followed (numeric_fields m) r ≡ followed (numeric_fields n) s → (m ≡ n) × (r ≡ s)
one_numeric m n r s fm fn hm hn e =
    let a = numeric_front m (followed (numeric_fields m) r) r hm refl in
    let b = numeric_front n (followed (numeric_fields m) r) s hn e in
    let size : m.data_size ≡ n.data_size = sym a.size ∙ b.size in
    let format : m.range_format ≡ n.range_format =
    sym a.place ∙ ap (λ (k : ℕ). slice_index (followed (numeric_fields m) r) (45 + 3 * width_of k)) size
    ∙ b.place in
    let same = one_fields (numeric_fields m) (numeric_fields n) r s fm fn (same_shapes m n hm hn size format) e in
    (ap numeric_in same.0, same.1)

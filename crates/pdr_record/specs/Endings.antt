-- What the readers of the parts of a body say of bytes that they refuse.
use Rattle.std.specs.Prelude.{ℕ, ◌<◌, ◌≤◌, ◌+◌, ◌*◌, ◌⊎◌, List, length, slice_index}
use Rattle.pdr_record.{specs.declared.record_error.RecordError.{RecordError}, specs.Faults.{StartsWithBody, HasOtherCode}, specs.Layouts.{width_of}, specs.NumericCodes.{data_width, format_place, HasOtherDataSize, HasOtherFormat}}
use Rattle.pdr_record.specs.declared.record_error.RecordError.TheVariants as error

-- the bytes end at or before the data size, the range field format or the last value
pub data EndsEarly (bytes : List ℕ) : Type 0 where
  Head : length bytes < 23 → EndsEarly bytes
  Middle : slice_index bytes 22 ≤ 5 → length bytes ≤ format_place bytes → EndsEarly bytes
  Tail : slice_index bytes 22 ≤ 5 → format_place bytes < length bytes → slice_index bytes (format_place bytes) ≤ 6
      → length bytes < 47 + 3 * data_width bytes + 9 * width_of (slice_index bytes (format_place bytes))
      → EndsEarly bytes

abbrev pub IsNumericFault : RecordError → List ℕ → Type 0
IsNumericFault error.Short bytes = ⊥
IsNumericFault error.Version bytes = ⊥
IsNumericFault error.Length bytes = ⊥
IsNumericFault error.Ends bytes = EndsEarly bytes
IsNumericFault error.LeftOver bytes = ⊥
IsNumericFault error.Unsupported bytes = HasOtherDataSize bytes ⊎ HasOtherFormat bytes

-- why no body of the type stands at the front of bytes
abbrev pub IsFrontFault : RecordError → ℕ → List ℕ → Type 0
IsFrontFault error.Short number bytes = ⊥
IsFrontFault error.Version number bytes = ⊥
IsFrontFault error.Length number bytes = ⊥
IsFrontFault error.Ends number bytes =
    ((rest : List ℕ) → ¬ StartsWithBody number bytes rest) × ¬ HasOtherCode number bytes
IsFrontFault error.LeftOver number bytes = ⊥
IsFrontFault error.Unsupported number bytes = HasOtherCode number bytes

-- Why bytes are no record: each cause by itself.
use Rattle.std.specs.Prelude.{◌≡◌, ◌≢◌, ℕ, ◌<◌, ◌≤◌, ◌+◌, ◌⊎◌, List, [], length, drop, slice_index}
use Rattle.byteorder.specs.Endian.{little_number}
use Rattle.pdr_record.{specs.declared.record_error.RecordError.{RecordError}, specs.Fields.{followed}, specs.Records.{BodyValue, type_of, body_fields, IsBody, IsOtherType}, specs.NumericCodes.{HasOtherDataSize, HasOtherFormat}}
use Rattle.pdr_record.specs.declared.record_error.RecordError.TheVariants as error

-- A body of the type stands at the front of the bytes, and these follow it.
pub record StartsWithBody (number : ℕ) (bytes rest : List ℕ) : Type 0 where
  pub body : BodyValue
  pub type_is : type_of body ≡ number
  pub lawful : IsBody body
  pub front : bytes ≡ followed (body_fields body) rest

-- a numeric sensor's data size or range field format is none that is known
abbrev pub HasOtherCode : ℕ → List ℕ → Type 0
HasOtherCode number bytes = (number ≡ 2) × (HasOtherDataSize bytes ⊎ HasOtherFormat bytes)

-- Why bytes are no body of the type. They end before a body's last field where no body stands at their front and no
-- code is unknown; others follow the last field where one of the four layouts does.
abbrev pub IsBodyFault : RecordError → ℕ → List ℕ → Type 0
IsBodyFault error.Short number bytes = ⊥
IsBodyFault error.Version number bytes = ⊥
IsBodyFault error.Length number bytes = ⊥
IsBodyFault error.Ends number bytes =
    ((rest : List ℕ) → ¬ StartsWithBody number bytes rest) × ¬ HasOtherCode number bytes
IsBodyFault error.LeftOver number bytes =
    ¬ IsOtherType number × ((rest : List ℕ) × (rest ≢ []) × StartsWithBody number bytes rest)
IsBodyFault error.Unsupported number bytes = HasOtherCode number bytes

-- the header has all its bytes, version 1, and the right number of bytes behind it
pub record HasHeader (bytes : List ℕ) : Type 0 where
  pub long : 10 ≤ length bytes
  pub version : slice_index bytes 4 ≡ 1
  pub data_length : length bytes ≡ 10 + little_number 2 (drop 8 bytes)

-- why bytes are no record
abbrev pub IsFault : RecordError → List ℕ → Type 0
IsFault error.Short bytes = length bytes < 10
IsFault error.Version bytes = (10 ≤ length bytes) × (slice_index bytes 4 ≢ 1)
IsFault error.Length bytes =
    (10 ≤ length bytes) × (slice_index bytes 4 ≡ 1) × (length bytes ≢ 10 + little_number 2 (drop 8 bytes))
IsFault error.Ends bytes = HasHeader bytes × IsBodyFault error.Ends (slice_index bytes 5) (drop 10 bytes)
IsFault error.LeftOver bytes = HasHeader bytes × IsBodyFault error.LeftOver (slice_index bytes 5) (drop 10 bytes)
IsFault error.Unsupported bytes = HasHeader bytes × IsBodyFault error.Unsupported (slice_index bytes 5) (drop 10 bytes)

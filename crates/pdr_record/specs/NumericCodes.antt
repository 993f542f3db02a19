-- The codes of a numeric sensor that are not supported.
use Rattle.std.specs.Prelude.{ℕ, ◌<◌, ◌≤◌, ◌+◌, ◌*◌, List, length, slice_index}
use Rattle.pdr_record.specs.Layouts.{width_of}

-- the width that the data size, byte 22, stands for
abbrev pub data_width : List ℕ → ℕ
data_width bytes = width_of (slice_index bytes 22)

-- where the range field format stands
abbrev pub format_place : List ℕ → ℕ
format_place bytes = 45 + 3 * data_width bytes

-- byte 22 is there and no data size
abbrev pub HasOtherDataSize : List ℕ → Type 0
HasOtherDataSize bytes = (22 < length bytes) × (5 < slice_index bytes 22)

-- the data size is one, and the range field format is there and none
abbrev pub HasOtherFormat : List ℕ → Type 0
HasOtherFormat bytes =
    (slice_index bytes 22 ≤ 5) × (format_place bytes < length bytes) × (6 < slice_index bytes (format_place bytes))

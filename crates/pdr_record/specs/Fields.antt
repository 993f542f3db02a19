-- Fields that stand one after the other, and their bytes.
use Rattle.std.{specs.Prelude.{ℕ, ◌<◌, ◌^◌, List, [], ◌∷◌, ◌++◌, ⊤}, specs.List.{AllByRecursion}}
use Rattle.byteorder.specs.Endian.{little_bytes}

-- a number in one, two or four bytes, or bytes as they are
pub data Field : Type 0 where
  U8 : ℕ → Field
  U16 : ℕ → Field
  U32 : ℕ → Field
  Raw : List ℕ → Field

-- a field's bytes; of a number the lowest comes first
abbrev pub field_bytes : Field → List ℕ
field_bytes (U8 n) = n ∷ []
field_bytes (U16 n) = little_bytes 2 n
field_bytes (U32 n) = little_bytes 4 n
field_bytes (Raw bytes) = bytes

-- the bytes of fields in their order, and other bytes after them
abbrev pub followed : List Field → List ℕ → List ℕ
followed [] rest = rest
followed (f ∷ fs) rest = field_bytes f ++ followed fs rest

-- the bytes of fields in their order
abbrev pub bytes_of : List Field → List ℕ
bytes_of fs = followed fs []

-- a number fits its bytes
abbrev pub FitsField : Field → Type 0
FitsField (U8 n) = n < 256
FitsField (U16 n) = n < 2 ^ 16
FitsField (U32 n) = n < 2 ^ 32
FitsField (Raw bytes) = ⊤

-- each of the fields does
abbrev pub Fit : List Field → Type 0
Fit fs = AllByRecursion FitsField fs

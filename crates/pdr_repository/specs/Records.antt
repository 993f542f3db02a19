-- The records of a terminus, by place.
use Rattle.std.specs.Prelude.{◌≡◌, ◌≢◌, ℕ, ◌<◌, ◌≤◌, List, length, map, slice_get, Option, Some, None, MatchOption, Vec}
use Rattle.byteorder.specs.Endian.{little_from}
use Rattle.pdr_record.specs.Records.{RecordValue, Spelled}

-- a record with its handle
pub record Entry : Type 0 where
  pub handle : ℕ
  pub bytes : List ℕ

-- fields of the common header of a record, little-endian: the handle in bytes 0 to 3
abbrev pub handle_in : List ℕ → ℕ
handle_in bytes = little_from 0 4 bytes

-- the change number in bytes 6 and 7
abbrev pub change_in : List ℕ → ℕ
change_in bytes = little_from 6 2 bytes

-- the number of bytes after the header in bytes 8 and 9
abbrev pub data_length_in : List ℕ → ℕ
data_length_in bytes = little_from 8 2 bytes

-- the bytes are those of a record of this handle, all of them
abbrev pub IsRecordOf : ℕ → List ℕ → Type 0
IsRecordOf handle bytes = (r : RecordValue) × Spelled r bytes × (r.handle ≡ handle)

-- a list of records that a terminus can have: not empty, the handles distinct and not 0, each record's
-- bytes those of a record of its handle
pub record IsLawful (records : List Entry) : Type 0 where
  pub some : 0 < length records
  pub distinct : (i j : ℕ) (e f : Entry) → slice_get records i ≡ Some e → slice_get records j ≡ Some f
      → e.handle ≡ f.handle → i ≡ j
  pub handles : (i : ℕ) (e : Entry) → slice_get records i ≡ Some e → e.handle ≢ 0
  pub spelled : (i : ℕ) (e : Entry) → slice_get records i ≡ Some e → IsRecordOf e.handle e.bytes

-- the record at a place is lawful: its handle isn't 0 and no earlier record's, and its bytes are those of a record of
-- that handle
abbrev pub IsLawfulAt : List Entry → ℕ → Type 0
IsLawfulAt records place =
    (e : Entry) → slice_get records place ≡ Some e
    → (e.handle ≢ 0) × ((i : ℕ) (f : Entry) → slice_get records i ≡ Some f → f.handle ≡ e.handle → place ≤ i)
    × IsRecordOf e.handle e.bytes

-- the records that a list of handles and bytes holds
abbrev pub entry_of : {Z : Type 0} → (ℕ × Vec ℕ Z) → Entry
entry_of r = record { handle = r.0; bytes = r.1.items }

abbrev pub entries : {Z : Type 0} → List (ℕ × Vec ℕ Z) → List Entry
entries records = map entry_of records

-- the bytes of the records, by place
abbrev pub bytes_by_place : List Entry → List (List ℕ)
bytes_by_place records = map (λ e. e.bytes) records

-- a handle, or 0 where there is no record
abbrev pub handle_of : Option Entry → ℕ
handle_of None = 0
handle_of (Some e) = e.handle

-- the handle at a place, 0 past the end
abbrev pub handle_at : List Entry → ℕ → ℕ
handle_at records place = handle_of (slice_get records place)

-- the record that a handle means: 0 means the first
pub record Means (records : List Entry) (handle place : ℕ) (e : Entry) : Type 0 where
  pub stands : slice_get records place ≡ Some e
  pub first : handle ≡ 0 → place ≡ 0
  pub named : handle ≢ 0 → e.handle ≡ handle

-- a handle means a record
abbrev pub IsMeant : List Entry → ℕ → Type 0
IsMeant records handle = (place : ℕ) × (e : Entry) × Means records handle place e

-- the place of the record that a handle means, if it means one
abbrev pub Places : List Entry → ℕ → Option ℕ → Type 0
Places records handle place = MatchOption place (¬ IsMeant records handle) (λ p. (e : Entry) × Means records handle p e)

-- What was told of a terminus' records, read by the rules of a walk (DSP0248, GetPDR).
use Rattle.std.{specs.Prelude.{◌≡◌, ◌⊎◌, ℕ, ◌+◌, ◌<◌, ◌==◌, ◌||◌, ◌&&◌, Bool, not, true, false, List, length, drop, position, slice_get, Option, Some, None, Ok, Err}, specs.List.{list_any}}
use Rattle.pldm_message.specs.Pdrs.{Part}
use Rattle.pdr_repository.specs.Records.{Entry, handle_at}
use Rattle.audited_captures.{specs.RecordParts.{RecordPartValue}, specs.RecordPlans.{IsPartFrom, IsToldFrom}}

-- the place of the record that a handle means: 0 means the first one
abbrev pub is_meant_by : ℕ → Entry → Bool
is_meant_by handle e = handle == 0 || e.handle == handle

abbrev pub place_of : List Entry → (handle : ℕ) → Option ℕ
place_of records handle = position (is_meant_by handle) records

-- the answer is what the planned terminus tells of the record at a place from an offset on
abbrev pub IsToldAt : List Entry → (place offset : ℕ) → RecordPartValue → Type 0
IsToldAt records place offset x =
    (e : Entry) × (slice_get records place ≡ Some e) × IsToldFrom (handle_at records (place + 1)) e.bytes offset x

-- it is a part of the record, behind which bytes are left, or none
pub record IsPartAt (records : List Entry) (place offset : ℕ) (x : RecordPartValue) (p : Part) (goes_on : Bool)
    : Type 0 where
  pub entry : Entry
  pub stands : slice_get records place ≡ Some entry
  pub told : x.told ≡ Some (Ok p)
  pub is : IsPartFrom (handle_at records (place + 1)) entry.bytes x.asked offset p
  pub left : goes_on ≡ not (length p.bytes == length (drop offset entry.bytes))

-- Exchange i of these asks for the record at a place from an offset on: for its first part; or for its next part, with
-- a transfer handle that an earlier answer handed out, a part of the record up to there behind which bytes are left.
-- That answer's request has to ask so too. So such exchanges are one reading of a record by the rules of a walk,
-- whoever asks and whatever comes between.
pub data Begins (records : List Entry) (parts : List RecordPartValue) : (i place offset : ℕ) → Type 0 where
  First : (i place : ℕ) (x : RecordPartValue) → slice_get parts i ≡ Some x → x.asked.operation ≡ 1
      → place_of records x.asked.handle ≡ Some place → Begins records parts i place 0
  Next : (i j place offset : ℕ) (x y : RecordPartValue) (p : Part) → slice_get parts i ≡ Some x
      → x.asked.operation ≡ 0 → place_of records x.asked.handle ≡ Some place → j < i → slice_get parts j ≡ Some y
      → Begins records parts j place offset → IsPartAt records place offset y p true
      → p.transfer ≡ x.asked.transfer → Begins records parts i place (offset + length p.bytes)

-- the answer fails
abbrev pub IsRefused : RecordPartValue → Type 0
IsRefused x = (code : ℕ) × (x.told ≡ Some (Err code))

-- The answer to exchange i is as planned. Of a record that isn't planned nothing is told. Else, where it is known from
-- which byte on it was asked, what is told is the planned record's from such a byte on.
pub record IsAnsweredAsPlanned (records : List Entry) (parts : List RecordPartValue) (i : ℕ) (x : RecordPartValue)
    : Type 0 where
  pub unplanned : place_of records x.asked.handle ≡ None → IsRefused x
  pub planned : (place offset : ℕ) → Begins records parts i place offset
      → (other : ℕ) × Begins records parts i place other × IsToldAt records place other x

-- it was laid beside the plan
abbrev pub IsComparedAt : List Entry → List RecordPartValue → (i : ℕ) → RecordPartValue → Type 0
IsComparedAt records parts i x =
    (place_of records x.asked.handle ≡ None) ⊎ ((place offset : ℕ) × Begins records parts i place offset)

-- a walk through all records begins: the first part of the first record is asked for
abbrev pub begins_walk : RecordPartValue → Bool
begins_walk x = x.asked.handle == 0 && x.asked.operation == 1

-- some exchange reads the record at a place to its end
abbrev pub IsReadToEnd : List Entry → List RecordPartValue → (place : ℕ) → Type 0
IsReadToEnd records parts place =
    (i offset : ℕ) × (x : RecordPartValue) × (p : Part) × (slice_get parts i ≡ Some x)
    × Begins records parts i place offset × IsPartAt records place offset x p false

-- Records are told as planned: each answer is as planned, and where a walk begins, each planned record is read to its
-- end.
pub record AreToldAsPlanned (records : List Entry) (parts : List RecordPartValue) : Type 0 where
  pub each : (i : ℕ) (x : RecordPartValue) → slice_get parts i ≡ Some x → IsAnsweredAsPlanned records parts i x
  pub whole : list_any begins_walk parts ≡ true → (place : ℕ) → place < length records → IsReadToEnd records parts place

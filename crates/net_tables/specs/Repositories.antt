-- The records of a plan's termini, and their order by the certificate's places.
use Rattle.std.{specs.Prelude.{◌≡◌, ◌≢◌, ◌⊎◌, ℕ, ◌+◌, ◌<◌, List, [], length, map, find, position, slice_get, Option, Some, None, option_map, unwrap_or, ◌==◌}, specs.List.{filter_map, range_with_len}, specs.Option.{option_and_then}}
use Rattle.plan_values.{specs.declared.plan.Plan.{Plan}, specs.declared.certificate.Certificate.{Certificate}, specs.declared.certificate.NodePlaces.{NodePlaces}, specs.declared.terminus.PlannedTerminus.{PlannedTerminus}, specs.declared.terminus.PlannedRecord.{PlannedRecord}}
use Rattle.pdr_repository.specs.Records.{Entry, IsRecordOf}
use Rattle.net_tables.specs.Routing.{node_at}

abbrev pub terminus_of : Plan → ℕ → Option PlannedTerminus
terminus_of plan n = option_and_then (λ node. node.terminus) (node_at plan n)

-- the records of n's terminus, as the plan lists them; none where it has no terminus
abbrev pub records_of : Plan → ℕ → List PlannedRecord
records_of plan n = unwrap_or (option_map (λ t. t.records.items) (terminus_of plan n)) []

-- the places that the list gives the records of n, in the same order; none where it gives none
abbrev pub places_given : List NodePlaces → ℕ → List ℕ
places_given places n =
    unwrap_or (option_map (λ given. map (λ p. p.value) given.places.items) (find (λ given. given.node == n) places)) []

abbrev pub places_of : Certificate → ℕ → List ℕ
places_of cert n = places_given cert.places.items n

-- a record as a terminus answers it
abbrev pub entry_of : PlannedRecord → Entry
entry_of r = record { handle = r.handle; bytes = r.bytes.items }

-- the first record that is given the place
abbrev pub record_at : List PlannedRecord → List ℕ → ℕ → Option PlannedRecord
record_at records places place = option_and_then (λ j. slice_get records j) (position (λ given. given == place) places)

-- the records one place after another: at each place the one that is given it
abbrev pub by_place : List PlannedRecord → List ℕ → List Entry
by_place records places =
    filter_map (λ place. option_map entry_of (record_at records places place)) (range_with_len 0 (length records))

abbrev pub records_by_place : Plan → Certificate → ℕ → List Entry
records_by_place plan cert n = by_place (records_of plan n) (places_of cert n)

-- the record's handle isn't 0, nor that of an earlier one
abbrev pub HasNewHandle : List PlannedRecord → ℕ → PlannedRecord → Type 0
HasNewHandle records j r =
    (r.handle ≢ 0)
    × ((i : ℕ) (other : PlannedRecord) → i < j → slice_get records i ≡ Some other → other.handle ≢ r.handle)

-- the handle is that of a record at the place
abbrev pub IsHandleAt : List PlannedRecord → List ℕ → ℕ → ℕ → Type 0
IsHandleAt records places place handle = (k : ℕ) × (r : PlannedRecord)
    × (slice_get records k ≡ Some r) × (slice_get places k ≡ Some place) × (handle ≡ r.handle)

-- The record is given a place, which is below the number of records and not an earlier one's. Its next handle is that
-- of a record at the following place, or, at the last place, 0.
pub record IsChained (records : List PlannedRecord) (places : List ℕ) (j : ℕ) (r : PlannedRecord) : Type 0 where
  pub place : ℕ
  pub given : slice_get places j ≡ Some place
  pub within : place < length records
  pub new : (i : ℕ) → i < j → slice_get places i ≢ Some place
  pub next : IsHandleAt records places (place + 1) r.next ⊎ ((place + 1 ≡ length records) × (r.next ≡ 0))

-- n's terminus, if it has one, has records
unfoldable pub HasRecords : Plan → ℕ → Type 0
HasRecords plan n = terminus_of plan n ≢ None → 0 < length (records_of plan n)

-- The records are some, each with a new handle, with bytes that are those of a record of that handle, and chained to
-- the next.
pub record HaveOrder (records : List PlannedRecord) (places : List ℕ) : Type 0 where
  pub some : 0 < length records
  pub handles : (j : ℕ) (r : PlannedRecord) → slice_get records j ≡ Some r → HasNewHandle records j r
  pub spelled : (j : ℕ) (r : PlannedRecord) → slice_get records j ≡ Some r → IsRecordOf r.handle r.bytes.items
  pub chained : (j : ℕ) (r : PlannedRecord) → slice_get records j ≡ Some r → IsChained records places j r

-- each terminus has such records
abbrev pub RecordsHaveOrder : Plan → Certificate → Type 0
RecordsHaveOrder plan cert = (n : ℕ) → terminus_of plan n ≢ None → HaveOrder (records_of plan n) (places_of cert n)

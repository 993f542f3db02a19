-- The handles of a list of records, each with the place that its record is given.
use Rattle.std.{specs.Prelude.{◌≡◌, ◌≢◌, ℕ, ◌<◌, List, length, map, slice_get, Option, Some, None}, specs.declared.cmp.Ordering.{Ordering}, specs.List.{zip}, specs.Ordering.{nat_cmp, ordering_then}}
use Rattle.plan_values.{specs.declared.terminus.PlannedRecord.{PlannedRecord}, specs.declared.certificate.RecordPlace.{RecordPlace}}
use Rattle.net_tables.specs.Repositories.{IsHandleAt}

-- the order of pairs of a place and a handle: by place, then by handle
abbrev pub by_place_and_handle : (ℕ × ℕ) → (ℕ × ℕ) → Ordering
by_place_and_handle p q = ordering_then (nat_cmp p.0 q.0) (nat_cmp p.1 q.1)

-- each place with the handle of the record that is given it
abbrev pub pairs : List RecordPlace → List PlannedRecord → List (ℕ × ℕ)
pairs places records = map (λ x. (x.0.value, x.1.handle)) (zip places records)

-- Handles in the order of the places, of the first so many records: each of these has a place of its own, and at a
-- place stands the handle of a record that is given it.
pub record AreFiled (records : List PlannedRecord) (places : List ℕ) (count : ℕ)
    (handles : List (Option ℕ)) : Type 0 where
  pub long : length handles ≡ length records
  pub own : (j : ℕ) → j < count
      → (place : ℕ) × (slice_get places j ≡ Some place) × (place < length records)
      × ((i : ℕ) → i < j → slice_get places i ≢ Some place)
  pub taken : (j place : ℕ) → j < count → slice_get places j ≡ Some place → slice_get handles place ≢ Some None
  pub found : (place handle : ℕ) → slice_get handles place ≡ Some (Some handle) → IsHandleAt records places place handle

-- An index of records by handle.
use Rattle.std.{specs.Prelude.{◌≡◌, ◌≢◌, ℕ, List, map, slice_get, All, Option, Some, MatchOption, IsTrue, option_map, ◌==◌, Vec}, specs.List.{enumerate_from, list_any}, specs.List.Sorted.{IsSortedByKey}, specs.Ordering.{nat_cmp}}
use Rattle.pdr_repository.{specs.declared.handle_index.IndexRow.{IndexRow}, specs.Records.{Entry}}

-- a record of this handle stands at the place
abbrev pub HasHandleAt : List Entry → ℕ → ℕ → Type 0
HasHandleAt records place handle = option_map (λ (e : Entry). e.handle) (slice_get records place) ≡ Some handle

-- an index of records: rows in ascending order of their handles, a record of a row's handle stands at its
-- place, and each record's handle has a row
pub record IsIndexOf (records : List Entry) (rows : List IndexRow) : Type 0 where
  pub ascending : IsSortedByKey (λ (row : IndexRow). row.handle) nat_cmp rows
  pub standing : All (λ (row : IndexRow). HasHandleAt records row.place row.handle) rows
  pub whole : (place : ℕ) (e : Entry) → slice_get records place ≡ Some e
      → IsTrue (list_any (λ (row : IndexRow). row.handle == e.handle) rows)

-- a row for each record, by place
abbrev pub rows_of : {Z : Type 0} → List (ℕ × Vec ℕ Z) → List IndexRow
rows_of records = map (λ r. record { handle = r.1.0; place = r.0 }) (enumerate_from 0 records)

-- the place of the record that has this handle, if one has
abbrev pub Locates : List Entry → ℕ → Option ℕ → Type 0
Locates records handle place =
    MatchOption place ((p : ℕ) (e : Entry) → slice_get records p ≡ Some e → e.handle ≢ handle)
    (λ p. (e : Entry) × (slice_get records p ≡ Some e) × (e.handle ≡ handle))

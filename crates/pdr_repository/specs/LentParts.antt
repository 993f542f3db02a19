-- Parts of records that are lent.
use Rattle.std.specs.Prelude.{◌≡◌, ◌≢◌, ℕ, ◌-◌, ◌<◌, ◌≤◌, min, List, length, take, drop, slice_get, Option, Some, MatchOption}
use Rattle.pdr_repository.specs.Records.{Entry, IsLawful}

-- the bytes of the record that has a handle, if one has
abbrev pub HoldsRecord : List Entry → ℕ → Option (List ℕ) → Type 0
HoldsRecord records handle bytes =
    MatchOption bytes ((place : ℕ) (e : Entry) → slice_get records place ≡ Some e → e.handle ≢ handle)
    (λ bs. (place : ℕ) × (e : Entry) × (slice_get records place ≡ Some e) × (e.handle ≡ handle) × (bs ≡ e.bytes))

-- the bytes of a record from an offset below its length on: as many as asked for, or all that are left if they are
-- fewer
abbrev pub IsPartFrom : List ℕ → ℕ → ℕ → List ℕ → Type 0
IsPartFrom bytes offset count part =
    (offset < length bytes) × (part ≡ take (min count (length bytes - offset)) (drop offset bytes))

-- the part of the record that has a handle; none where no record has it, or the offset isn't below the record's length
abbrev pub LendsPart : List Entry → ℕ → ℕ → ℕ → Option (List ℕ) → Type 0
LendsPart records handle offset count part =
    MatchOption part
    ((place : ℕ) (e : Entry) → slice_get records place ≡ Some e → e.handle ≡ handle → length e.bytes ≤ offset)
    (λ bytes. (place : ℕ) × (e : Entry) × (slice_get records place ≡ Some e) × (e.handle ≡ handle)
    × IsPartFrom e.bytes offset count bytes)

-- over a lawful list one part is lent
abbrev pub OneLentPart : Type 0
OneLentPart =
    (records : List Entry) (handle offset count : ℕ) (a b : Option (List ℕ)) → IsLawful records
    → LendsPart records handle offset count a → LendsPart records handle offset count b → a ≡ b

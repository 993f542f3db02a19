-- The bytes of a repository.
use Rattle.std.{specs.Prelude.{ℕ, List}, specs.List.{flat_map}}
use Rattle.pdr_repository.specs.Records.{Entry}

-- the bytes of each record, one record after another
abbrev pub joined_bytes : List Entry → List ℕ
joined_bytes records = flat_map (λ entry. entry.bytes) records

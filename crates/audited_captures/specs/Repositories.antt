-- The records of a plan's nodes.
use Rattle.std.specs.Prelude.{ℕ, List, map, Vec}
use Rattle.pdr_repository.specs.Records.{Entry, entries}

abbrev pub repository_values : {Z Y : Type 0} → List (Vec (ℕ × Vec ℕ Z) Y) → List (List Entry)
repository_values repositories = map (λ records. entries records.items) repositories

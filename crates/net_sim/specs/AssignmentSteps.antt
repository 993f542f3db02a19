-- The beginnings of an assignment.
use Rattle.std.specs.Prelude.{◌≡◌, ◌⊎◌, ℕ, ◌<◌, List}
use Rattle.plan_values.{specs.declared.plan.Plan.{Plan}, specs.declared.certificate.Certificate.{Certificate}}
use Rattle.net_tables.specs.Ownership.{level}
use Rattle.net_sim.specs.Assignments.{AssignmentValue, IsOwned, AsksInOrder}

-- n is owned, and of a lower level than this, or of this level and before the index
unfoldable pub IsAskedUpTo : Plan → Certificate → ℕ → ℕ → ℕ → Type 0
IsAskedUpTo plan cert reached index n =
    IsOwned plan n × ((level plan cert n < reached) ⊎ ((level plan cert n ≡ reached) × (n < index)))

-- those are asked, and no others
abbrev pub HasAskedUpTo : Plan → Certificate → ℕ → ℕ → List AssignmentValue → Type 0
HasAskedUpTo plan cert reached index list = AsksInOrder plan cert (IsAskedUpTo plan cert reached index) list

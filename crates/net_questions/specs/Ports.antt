-- The ports of a plan's nodes.
use Rattle.std.specs.Prelude.{◌≡◌, ℕ, Some, slice_get}
use Rattle.plan_values.{specs.declared.plan.Plan.{Plan}, specs.declared.nodes.Port.{Port}}
use Rattle.net_tables.specs.Routing.{ports_of}

-- this is n's port p
abbrev pub IsPort : Plan → ℕ → ℕ → Port → Type 0
IsPort plan n p port = slice_get (ports_of plan n) p ≡ Some port

-- Where flights are in a network of an accepted plan.
use Rattle.std.specs.Prelude.{◌+◌, ◌<◌, ◌≤◌, length}
use Rattle.plan_values.{specs.declared.plan.Plan.{Plan}, specs.declared.certificate.Certificate.{Certificate}}
use Rattle.net_tables.specs.Ranks.{rank}
use Rattle.net_runs.specs.States.{Flight, destination}

-- the flight is at a node of the plan, within its certified hops
abbrev pub IsPlaced : Plan → Certificate → Flight → Type 0
IsPlaced plan cert f =
    (f.node < length plan.nodes.items)
    × (f.hops + rank cert f.node (destination f) ≤ rank cert f.origin (destination f))

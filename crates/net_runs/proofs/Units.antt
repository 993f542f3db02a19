-- The bounds of a plan's transmission unit, and of a part whose answer is of five packets at most.
use Rattle.std.proofs.Common.{ℕ, ◌+◌, ◌*◌, ◌≤◌, arith}
use Rattle.plan_values.specs.declared.plan.Plan.{Plan}
use Rattle.net_runs.{specs.States.{unit_of}, specs.Walkers.{five_packets}}

pub least_unit : (plan : Plan) → 64 ≤ unit_of plan
least_unit plan = plan.least_unit

pub most_unit : (plan : Plan) → unit_of plan ≤ 1024
most_unit plan = plan.most_unit

-- its answer fits in five packets
pub five_fit : (plan : Plan) (count : ℕ) → count ≤ five_packets (unit_of plan) → count + 17 ≤ 5 * unit_of plan
five_fit plan count most = let least = least_unit plan in omega arith

-- and in a message
pub part_fits : (plan : Plan) (count : ℕ) → count ≤ five_packets (unit_of plan) → count ≤ 4079
part_fits plan count most = omega arith

use Rattle.std.proofs.Common.{◌≡◌, map, take}
use Rattle.plan_values.specs.NodeValues.{row_value}
use Rattle.net_rollout.proofs.changed_plan.are_same.Given as goal

abbrev pub invariant-loop-index : goal.invariant-loop-index
invariant-loop-index l = map row_value (take l.index l.rows) ≡ map row_value (take l.index l.others)

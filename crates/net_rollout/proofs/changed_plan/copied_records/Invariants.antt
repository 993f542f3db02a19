use Rattle.std.proofs.Common.{◌≡◌, length, map, take}
use Rattle.plan_values.specs.NodeValues.{record_value}
use Rattle.net_rollout.proofs.changed_plan.copied_records.Given as goal

abbrev pub invariant-loop-listed : goal.invariant-loop-listed
invariant-loop-listed l = (map record_value l.copies.items ≡ map record_value (take l.listed-index l.records)) × (length l.copies.items ≡ l.listed-index)

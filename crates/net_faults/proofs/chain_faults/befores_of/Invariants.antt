use Rattle.std.proofs.Common.{◌≡◌, map, take}
use Rattle.plan_values.specs.declared.terminus.PlannedRecord.{PlannedRecord}
use Rattle.net_faults.specs.Chains.{found_in}
use Rattle.net_faults.proofs.chain_faults.befores_of.Given as goal

abbrev pub invariant-loop-record : goal.invariant-loop-record
invariant-loop-record l = l.before.items ≡ map (λ (r : PlannedRecord). found_in l.nexts r.handle) (take l.record-index l.records)

use Rattle.std.proofs.Common.{ℕ, ◌<◌, Option}
use Rattle.net_tables.specs.TwoPlans.{moving}
use Rattle.net_rules.{specs.Rules.{AtRowEid}, specs.HeldEids.{IsLedOn}}
use Rattle.net_rules.proofs.first_move_fault.first_without_way_on.Given as goal

abbrev pub invariant-loop-node : goal.invariant-loop-node
invariant-loop-node l =
    (k : ℕ) → k < l.node → (entry eid : Option ℕ) → AtRowEid l.whose k (λ row e. IsLedOn (moving l.fn.index l.fn.new_index) k e row.next) entry eid

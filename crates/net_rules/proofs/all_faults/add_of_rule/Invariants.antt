use Rattle.std.proofs.Common.{[], ◌∷◌}
use Rattle.net_rules.{specs.Faults.{order_of}, specs.FaultLists.{AreFaultsBefore}}
use Rattle.net_rules.proofs.all_faults.add_of_rule.Given as goal

abbrev pub invariant-loop-node : goal.invariant-loop-node
invariant-loop-node l = AreFaultsBefore l.judge.plan.now l.judge.ranks (order_of l.rule ∷ l.node ∷ []) l.runs.items

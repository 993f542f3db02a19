use Rattle.std.proofs.Common.{[], ◌∷◌}
use Rattle.net_rules.specs.FaultLists.{AreFaultsBefore}
use Rattle.net_rules.proofs.all_faults.faults.Given as goal

abbrev pub invariant-loop-rule : goal.invariant-loop-rule
invariant-loop-rule l = AreFaultsBefore l.judge.plan.now l.judge.ranks (l.rule-index ∷ []) l.runs.items

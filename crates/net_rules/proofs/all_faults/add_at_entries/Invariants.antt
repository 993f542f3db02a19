use Rattle.std.proofs.Common.{[], ◌∷◌, suc}
use Rattle.net_rules.{specs.Faults.{order_of}, specs.FaultLists.{AreFaultsBefore}}
use Rattle.net_rules.proofs.all_faults.add_at_entries.Given as goal

abbrev pub invariant-loop-entry : goal.invariant-loop-entry
invariant-loop-entry l = AreFaultsBefore l.judge.plan.now l.judge.ranks (order_of l.rule ∷ l.node ∷ suc l.entry ∷ []) l.runs.items

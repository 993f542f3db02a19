use Rattle.std.proofs.Common.{[], ◌∷◌, ◌+◌, ◌-◌, ◌≤◌}
use Rattle.net_rules.{specs.Faults.{order_of, order_of_number}, specs.FaultLists.{AreFaultsBefore}}
use Rattle.net_rules.proofs.all_faults.add_at_eids.Given as goal

abbrev pub invariant-loop-first : goal.invariant-loop-first
invariant-loop-first l = record {
  from : l.bounds.first ≤ l.start;
  lists : AreFaultsBefore l.site.judge.now.plan.now l.site.judge.now.ranks (order_of l.site.rule ∷ l.site.node ∷ order_of_number l.site.entry ∷ (l.start + 1) ∷ []) l.runs.items;
}

abbrev pub decreases-loop-first : goal.decreases-loop-first
decreases-loop-first l = l.bounds.end - l.start

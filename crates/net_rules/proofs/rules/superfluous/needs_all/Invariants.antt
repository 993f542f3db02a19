use Rattle.std.proofs.Common.{ℕ, ◌<◌}
use Rattle.net_tables.{specs.Routing.{Holds, OfItem}, specs.TwoPlans.{HasRowEver}}
use Rattle.net_rules.{specs.PlanTables.{plans_value}, specs.Spans.{IsInSpan}, proofs.RanksByEid.{Has}}
use Rattle.net_rules.proofs.rules.superfluous.needs_all.Given as goal

abbrev pub invariant-loop-range : goal.invariant-loop-range
invariant-loop-range l = record {
  span : (e : ℕ) → IsInSpan l.span e → HasRowEver (plans_value l.plans) l.node e;
  needed : (k : ℕ) → k < l.range-index
      → OfItem l.ranges k (λ range. (e : ℕ) → Has range e → ¬ Holds (plans_value l.plans).plan l.node e × HasRowEver (plans_value l.plans) l.node e);
}

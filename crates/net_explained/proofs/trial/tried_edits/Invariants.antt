use Rattle.std.{proofs.Common.{◌≡◌, ◌≢◌, ◌≤◌, None, length}, specs.List.{All}}
use Rattle.plan_values.specs.PlanValues.{plan_value}
use Rattle.net_explained.{specs.Obstacles.{IsTried}, specs.declared.trial.Tried.{Tried}}
use Rattle.net_explained.proofs.trial.tried_edits.Given as goal

abbrev pub invariant-loop-edit : goal.invariant-loop-edit
invariant-loop-edit l = All (IsTried (plan_value l.plan) l.obstacle) l.whole.items × All (IsTried (plan_value l.plan) l.obstacle) l.partial.items
    × (length l.whole.items ≤ 3) × (length l.partial.items ≤ 3)
    × All (λ (t : Tried). t.left ≡ None) l.whole.items × All (λ (t : Tried). t.left ≢ None) l.partial.items

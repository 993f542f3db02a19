use Rattle.net_rollout.specs.Steps.{AreSteps}
use Rattle.net_rollout.proofs.steps.by_steps.Given as goal

abbrev pub invariant-loop : goal.invariant-loop
invariant-loop l = AreSteps l.before l.after l.steps.items

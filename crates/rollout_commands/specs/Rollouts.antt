-- What `rollout` prints of two plans.
use Rattle.std.specs.Prelude.{◌≡◌, ℕ, List, Some}
use Rattle.plan_values.specs.declared.plan.Plan.{Plan}
use Rattle.net_rollout.{specs.declared.change.Rollout.{Rollout}, specs.Steps.{IsRollout}}
use Rattle.command_answers.specs.declared.status.Status.{Status}
use Rattle.plan_texts.specs.MoveSteps.{rollout_text}
use Rattle.net_rollout.specs.declared.change.Rollout.TheVariants as way
use Rattle.command_answers.specs.declared.status.Status.TheVariants as status

-- how a run ends that tells it: as an answer where the steps lead to the end, as a fault where they don't
abbrev pub status_of_rollout : Rollout → Status
status_of_rollout (way.AnyOrder cert) = status.Yes
status_of_rollout (way.Steps steps last) = status.Yes
status_of_rollout (way.Stuck steps obstacle) = status.Fault
status_of_rollout (way.Unfit obstacle) = status.Fault

-- What is found holds of the plans, and the text is its lines.
pub record IsRolledOut (before after : Plan) (found : Rollout) (ended : Status) (text : List ℕ) : Type 0 where
  pub holds : IsRollout before after found
  pub written : rollout_text before found ≡ Some text
  pub ends : ended ≡ status_of_rollout found

-- the text answers for the plans, in a run that ends so
abbrev pub RollsOut : Plan → Plan → Status → List ℕ → Type 0
RollsOut before after ended text = (found : Rollout) × IsRolledOut before after found ended text

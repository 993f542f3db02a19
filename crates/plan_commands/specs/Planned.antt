-- What answers a question about a plan.
use Rattle.std.specs.Prelude.{◌≡◌, ℕ, List}
use Rattle.plan_values.specs.declared.plan.Plan.{Plan}
use Rattle.command_questions.specs.declared.planned.PlanQuestion.{PlanQuestion}
use Rattle.command_answers.{specs.declared.status.Status.{Status}, specs.Answers.{Stream, GavePlanText}, specs.Certifying.{Certifies}}
use Rattle.plan_commands.{specs.FaultListing.{IsListed}, specs.Linting.{IsLinted}, specs.Making.{IsRowed}}
use Rattle.command_questions.specs.declared.planned.PlanQuestion.TheVariants as question
use Rattle.command_answers.specs.declared.status.Status.TheVariants as status

-- the lines answer the question about the plan, which stands in this text, in a run that ends so
abbrev pub IsSaidOf : PlanQuestion → List ℕ → Plan → Status → List ℕ → Type 0
IsSaidOf question.Certify text plan ended lines = Certifies plan ended lines
IsSaidOf (question.Draw rows) text plan ended lines = ended ≡ status.Yes
IsSaidOf (question.Faults name) text plan ended lines = IsListed name.now text plan ended lines
IsSaidOf question.Lint text plan ended lines = IsLinted plan ended lines
IsSaidOf question.Rows text plan ended lines = IsRowed text plan ended lines

-- so they do of the plan that was given
abbrev pub SaysSo : PlanQuestion → Stream → Status → List ℕ → Type 0
SaysSo asked plans ended lines =
    (text : List ℕ) × (plan : Plan) × GavePlanText plans text plan × IsSaidOf asked text plan ended lines

-- What is answered in JSON of a plan alone.
use Rattle.std.specs.Prelude.{◌≡◌, ◌⊎◌, ℕ, List}
use Rattle.serde_json.specs.Data.{Data}
use Rattle.plan_values.specs.declared.plan.Plan.{Plan}
use Rattle.command_answers.{specs.declared.inputs.Unread.{Unread}, specs.declared.status.Status.{Status}, specs.Answers.{Stream, GavePlanText}, specs.UnreadInputs.{IsNoPlanBy}}
use Rattle.command_questions.{specs.declared.form.Form.{Form}, specs.declared.form.Form.TheVariants.{Json}, specs.declared.planned.PlanJson.{PlanJson}}
use Rattle.json_commands.{specs.Answers.{IsLineOf}, specs.Explained.{IsExplainedSaid}, specs.Faults.{IsFaultsSaid}, specs.Findings.{IsLintSaid}, specs.Unread.{IsUnreadSaid}}
use Rattle.command_answers.specs.declared.status.Status.TheVariants as status
use Rattle.command_questions.specs.declared.planned.PlanJson.TheVariants as asks

-- the form of the answer
abbrev pub form_of : PlanJson → Form
form_of asks.Explain = Json
form_of (asks.Faults form) = form
form_of asks.Lint = Json

-- the value answers of the plan, which stands in the text of this name, in a run that ends so
abbrev pub IsPlanSaid : PlanJson → (name text : List ℕ) → Plan → Status → Data → Type 0
IsPlanSaid asks.Explain name text plan ended d = IsExplainedSaid name text plan ended d
IsPlanSaid (asks.Faults form) name text plan ended d = IsFaultsSaid form name text plan ended d
IsPlanSaid asks.Lint name text plan ended d = IsLintSaid name text plan ended d

-- the value answers of the plan that was given, or tells why none was
abbrev pub IsSaidOfSource : PlanJson → List ℕ → Stream → Status → Data → Type 0
IsSaidOfSource asked name plans ended d =
    ((text : List ℕ) × (plan : Plan) × GavePlanText plans text plan × IsPlanSaid asked name text plan ended d)
    ⊎ ((why : Unread) × IsNoPlanBy plans why × (ended ≡ status.Unreadable)
    × IsUnreadSaid (form_of asked) name why d)

-- the text is the line of such a value
abbrev pub SaysInJson : PlanJson → List ℕ → Stream → Status → List ℕ → Type 0
SaysInJson asked name plans ended text =
    (d : Data) × IsSaidOfSource asked name plans ended d × IsLineOf d text

-- What `lint` prints of a plan.
use Rattle.std.specs.Prelude.{◌≡◌, ◌≢◌, ℕ, List, []}
use Rattle.plan_values.specs.declared.plan.Plan.{Plan}
use Rattle.net_questions.{specs.declared.finding.Finding.{Finding}, specs.Findings.{AreFindings, IsSo}}
use Rattle.command_answers.{specs.declared.status.Status.{Status}, specs.Statuses.{clean_line}}
use Rattle.question_texts.specs.FindingLines.{findings_text}
use Rattle.command_answers.specs.declared.status.Status.TheVariants as status

-- No sentence on what looks wrong is so of anything in the plan, and the text says that the plan is clean.
pub record IsCleanText (plan : Plan) (text : List ℕ) : Type 0 where
  pub none : (f : Finding) → ¬ IsSo plan f
  pub written : text ≡ clean_line

-- The text is the lines of all that looks wrong in the plan, by code and then in plan order, and something does.
pub record IsFindingsText (plan : Plan) (text : List ℕ) : Type 0 where
  pub findings : List Finding
  pub found : AreFindings plan findings
  pub some : findings ≢ []
  pub written : text ≡ findings_text plan findings

-- a run that says so of the plan ends so
abbrev pub IsLinted : Plan → Status → List ℕ → Type 0
IsLinted plan status.Yes text = IsCleanText plan text
IsLinted plan status.Fault text = IsFindingsText plan text
IsLinted plan status.Unreadable text = ⊥
IsLinted plan status.NoMemory text = ⊥

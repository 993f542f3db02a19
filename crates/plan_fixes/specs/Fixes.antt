-- Edits of a plan and of its text, one after the other.
use Rattle.std.specs.Prelude.{◌≡◌, ℕ, List, [], ◌++◌, Option, Some, None, string_bytes}
use Rattle.net_explained.{specs.Edits.{IsEdited}, specs.Obstacles.{IsTried}, specs.declared.edit.Edit.{Edit}, specs.declared.trial.Tried.{Tried}}
use Rattle.net_plan.{specs.PlanText.{IsPlanOf}, specs.Texts.{IsJsonTextOf}}
use Rattle.plan_values.{specs.PlanValues.{plan_value}, specs.declared.certificate.Certificate.{Certificate}, specs.declared.plan.Plan.{Plan}}
use Rattle.net_rules.{specs.Certificates.{HasNoCertificate, NamesObstacle}, specs.Rules.{Accepts}, specs.declared.certify_error.CertifyError.{CertifyError}}
use Rattle.plan_fixes.{specs.Splices.{IsSpliced}, specs.declared.fixing.Draft.{Draft}, specs.declared.fixing.Fixed.{Fixed}}
use Rattle.explanation_texts.specs.EditLines.{edit_text}

-- the text is that of the plan
abbrev pub IsTextOf : List ℕ → Plan → Type 0
IsTextOf text plan = IsJsonTextOf IsPlanOf text (plan_value plan)

-- No certificate fits the plan, and this comes first of what rules them out. The edit was tried on that, and the next
-- plan is this one with just its change.
pub record IsFix (plan : Plan) (tried : Tried) (next : Plan) : Type 0 where
  pub obstacle : CertifyError
  pub first : NamesObstacle plan obstacle
  pub none : HasNoCertificate plan
  pub tries : IsTried (plan_value plan) obstacle tried
  pub edited : IsEdited (plan_value plan) tried.edit (plan_value next)

-- The plan stands in the one text, and is the plan in the text before with just the edit's change.
pub record IsAsEdited (before after : List ℕ) (edit : Edit) (plan : Plan) : Type 0 where
  pub reads : IsTextOf after plan
  pub last : Plan
  pub was_read : IsTextOf before last
  pub edited : IsEdited (plan_value last) edit (plan_value plan)

-- Edits that lead from a plan and its text to others, one after the other, each with its line, which tells it of the
-- plan before it. Nothing else of the plan is changed, nor of the text but the values in which the changes are made.
pub data AreFixes (text : List ℕ) (plan : Plan) : List ℕ → List ℕ → Plan → Type 0 where
  none : AreFixes text plan [] text plan
  more : {lines before after : List ℕ} {last next : Plan} (tried : Tried) → AreFixes text plan lines before last
      → IsFix last tried next → IsSpliced before tried.edit after → IsTextOf after next
      → AreFixes text plan (lines ++ edit_text last tried.edit) after next

-- The next draft is the last one with this edit, which is told behind the lines before.
pub record IsMadeBy (last : Draft) (edit : Edit) (next : Draft) : Type 0 where
  pub edited : IsEdited (plan_value last.plan) edit (plan_value next.plan)
  pub spliced : IsSpliced last.text.items edit next.text.items
  pub reads : IsTextOf next.text.items next.plan
  pub told : string_bytes next.lines ≡ string_bytes last.lines ++ edit_text last.plan edit

-- the next draft is the last one with an edit that was tried on what comes first
abbrev pub LeadsOn : Draft → Draft → Type 0
LeadsOn last next = (tried : Tried) × IsMadeBy last tried.edit next × IsFix last.plan tried next.plan

-- So far edits led from the plan and its text.
pub record IsDraftOf (text : List ℕ) (plan : Plan) (draft : Draft) : Type 0 where
  pub edits : AreFixes text plan (string_bytes draft.lines) draft.text.items draft.plan
  pub reads : IsTextOf draft.text.items draft.plan

-- what is left of a plan: a certificate fits it, or none does, and this comes first of what rules them out
abbrev pub IsLeftOf : Plan → Option CertifyError → Type 0
IsLeftOf plan None = (certificate : Certificate) × Accepts plan certificate
IsLeftOf plan (Some obstacle) = NamesObstacle plan obstacle × HasNoCertificate plan

-- where edits led from the plan and its text, and what is left then
abbrev pub IsFixed : List ℕ → Plan → Fixed → Type 0
IsFixed text plan fixed = IsDraftOf text plan fixed.draft × IsLeftOf fixed.draft.plan fixed.left

-- What is answered of a plan that is to have rows.
use Rattle.std.specs.Prelude.{◌≡◌, ℕ, List, string_bytes}
use Rattle.plan_values.{specs.declared.plan.Plan.{Plan}, specs.declared.certificate.Certificate.{Certificate}, specs.PlanValues.{plan_value}}
use Rattle.net_plan.{specs.PlanText.{IsPlanOf}, specs.Texts.{IsJsonTextOf}}
use Rattle.board_kept.specs.Rowed.{IsRowedFrom}
use Rattle.board_made.{specs.declared.rowed.RowsAnswer.{RowsAnswer}, specs.declared.rowed.RowsAnswer.TheVariants.{Made, NoPlan}, specs.Reasons.{IsRowsReason}}

-- The text reads as a plan that is the given one with rows, by a certificate.
pub record IsRowedText (before : Plan) (text : List ℕ) : Type 0 where
  pub plan : Plan
  pub certificate : Certificate
  pub reads : IsJsonTextOf IsPlanOf text (plan_value plan)
  pub rowed : IsRowedFrom before plan certificate

-- the answer is this text
abbrev pub IsText : List ℕ → RowsAnswer → Type 0
IsText text (Made made) = string_bytes made ≡ text
IsText text (NoPlan reason) = ⊥

-- what is answered of the plan
abbrev pub IsRowsAnswer : Plan → RowsAnswer → Type 0
IsRowsAnswer before (Made text) = IsRowedText before (string_bytes text)
IsRowsAnswer before (NoPlan reason) = IsRowsReason before (string_bytes reason)

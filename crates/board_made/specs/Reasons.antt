-- Why no plan is made of a board, or of a plan that is to have rows.
use Rattle.std.specs.Prelude.{◌≡◌, ◌⊎◌, ℕ, List, ◌++◌, codes, Some}
use Rattle.toml.specs.Data.{Data}
use Rattle.plan_values.specs.declared.plan.Plan.{Plan}
use Rattle.net_rules.{specs.declared.certify_error.CertifyError.{CertifyError}, specs.Certificates.{NamesObstacle, HasNoCertificate}}
use Rattle.plan_texts.specs.Lines.{obstacle_text}
use Rattle.board.{specs.declared.board.RecordFile.{RecordFile}, specs.declared.making.NoPlan.{NoPlan}}
use Rattle.board_values.specs.Lacks.{Lacks}
use Rattle.board_kept.{specs.Kept.{Keeps}, specs.Rowed.{IsSameButRows}}

-- The text tells this obstacle: its line, and behind that a place in the board or none, and an explanation, of which
-- nothing is promised here.
pub record TellsObstacle (plan : Plan) (obstacle : CertifyError) (text : List ℕ) : Type 0 where
  pub line : List ℕ
  pub place : List ℕ
  pub told : List ℕ
  pub worded : obstacle_text plan obstacle ≡ Some line
  pub written : text ≡ codes "no plan: " ++ (line ++ (place ++ told))

-- The text tells what comes first, in the order of the rules, of what rules certificates out of a plan of which this
-- holds.
pub record IsRuledOut (IsGiven : Plan → Type 0) (text : List ℕ) : Type 0 where
  pub plan : Plan
  pub obstacle : CertifyError
  pub given : IsGiven plan
  pub first : NamesObstacle plan obstacle
  pub none : HasNoCertificate plan
  pub told : TellsObstacle plan obstacle text

-- The text says that the board lacks something, and so it does. Of the words behind that nothing is promised.
pub record IsLackTold (board : Data) (text : List ℕ) : Type 0 where
  pub why : NoPlan
  pub lacks : Lacks board why
  pub words : List ℕ
  pub written : text ≡ codes "no plan: no " ++ (words ++ codes "\n")

-- a line that says that no way leads from one node to another; that it is so is not promised
abbrev pub IsWayLine : List ℕ → Type 0
IsWayLine text = (one other : List ℕ) × (text ≡ codes "no plan: no way over buses, bridges and given rows leads from "
    ++ (one ++ (codes " to " ++ (other ++ codes "\n"))))

-- a line that says that no plan was found; of what stands behind that nothing is promised
abbrev pub IsUnfound : List ℕ → Type 0
IsUnfound text = (words : List ℕ) × (text ≡ codes "no plan: none was found: no " ++ (words ++ codes "\n"))

-- why no plan is made of a board
abbrev pub IsReason : List RecordFile → Data → List ℕ → Type 0
IsReason files board text =
    IsRuledOut (Keeps files board) text ⊎ IsWayLine text ⊎ IsLackTold board text ⊎ IsUnfound text

-- ---- rows PLAN

-- why no plan with rows is made
abbrev pub IsRowsReason : Plan → List ℕ → Type 0
IsRowsReason before text = IsRuledOut (IsSameButRows before) text ⊎ IsWayLine text ⊎ IsUnfound text

-- What `certifymove` prints of two plans.
use Rattle.std.specs.Prelude.{◌≡◌, ◌≤◌, ℕ, List, length}
use Rattle.plan_values.{specs.declared.plan.Plan.{Plan}, specs.declared.certificate.Certificate.{Certificate}, specs.CertificateValues.{certificate_value}, specs.PlanValues.{node_names, plan_value}, specs.WellFormed.{IsWellFormed}}
use Rattle.net_plan.{specs.CertificateJson.{certificate_text}, specs.CertificateText.{IsCertificateOf}, specs.Texts.{IsJsonTextOf}}
use Rattle.net_rules.{specs.declared.move_obstacle.MoveObstacle.{MoveObstacle}, specs.MoveObstacles.{IsExactForMove}, specs.MoveRules.{AcceptsMove}}
use Rattle.command_answers.specs.declared.status.Status.{Status}
use Rattle.fault_texts.specs.RuledOutMoves.{IsMoveRuledOutBy}
use Rattle.command_answers.specs.declared.status.Status.TheVariants as status

-- Every rule of a move holds of the plans and the certificate; the certificate gives each level and place as the plan
-- before has them and each rank as the rows of both have it; and the text is the certificate's, read for the plan
-- before it stands for the certificate, and it has at most 2,097,152 bytes.
pub record IsMoveCertifiedBy (before after : Plan) (certificate : Certificate) (text : List ℕ) : Type 0 where
  pub accepted : AcceptsMove before after certificate
  pub exact : IsExactForMove before after certificate
  pub well_formed : IsWellFormed (plan_value before) (certificate_value certificate)
  pub written : text ≡ certificate_text (node_names (plan_value before).nodes) (certificate_value certificate)
  pub reads_back : IsJsonTextOf (IsCertificateOf (plan_value before)) text (certificate_value certificate)
  pub short : length text ≤ 2097152

-- the text answers for the move, in a run that ends so: it is that of a certificate of it, or the line of what rules
-- certificates of it out
abbrev pub CertifiesMove : Plan → Plan → Status → List ℕ → Type 0
CertifiesMove before after status.Yes text =
    (certificate : Certificate) × IsMoveCertifiedBy before after certificate text
CertifiesMove before after status.Fault text = (obstacle : MoveObstacle) × IsMoveRuledOutBy before after obstacle text
CertifiesMove before after status.Unreadable text = ⊥
CertifiesMove before after status.NoMemory text = ⊥

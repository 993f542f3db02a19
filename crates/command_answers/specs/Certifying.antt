-- What `certify` prints of a plan.
use Rattle.std.specs.Prelude.{◌≡◌, ◌≤◌, ◌-◌, ℕ, List, length, Some}
use Rattle.plan_values.{specs.declared.plan.Plan.{Plan}, specs.declared.certificate.Certificate.{Certificate}, specs.CertificateValues.{certificate_value}, specs.PlanValues.{node_names, plan_value}, specs.WellFormed.{IsWellFormed}}
use Rattle.net_plan.{specs.CertificateJson.{certificate_text}, specs.CertificateText.{IsCertificateOf}, specs.Texts.{IsJsonTextOf}}
use Rattle.net_rules.{specs.declared.certify_error.CertifyError.{CertifyError}, specs.Certificates.{IsExact, NamesObstacle, HasNoCertificate}, specs.Rules.{Accepts}}
use Rattle.command_answers.specs.declared.status.Status.{Status}
use Rattle.plan_texts.specs.Lines.{obstacle_text}
use Rattle.net_rules.specs.declared.certify_error.CertifyError.TheVariants as error
use Rattle.command_answers.specs.declared.status.Status.TheVariants as status

-- Every rule holds of the plan and the certificate; the certificate gives each level, place and rank as
-- the plan has them; and the text is the certificate's, read for the plan it stands for the
-- certificate, and it has at most 2,097,152 bytes.
pub record IsCertifiedBy (plan : Plan) (certificate : Certificate) (text : List ℕ) : Type 0 where
  pub accepted : Accepts plan certificate
  pub exact : IsExact plan certificate
  pub well_formed : IsWellFormed (plan_value plan) (certificate_value certificate)
  pub written : text ≡ certificate_text (node_names (plan_value plan).nodes) (certificate_value certificate)
  pub reads_back : IsJsonTextOf (IsCertificateOf (plan_value plan)) text (certificate_value certificate)
  pub short : length text ≤ 2097152

-- The text tells what comes first, in the order of the rules, of what rules certificates of the plan out, and there is
-- none.
pub record IsRuledOutBy (plan : Plan) (obstacle : CertifyError) (text : List ℕ) : Type 0 where
  pub first : NamesObstacle plan obstacle
  pub none : HasNoCertificate plan
  pub written : obstacle_text plan obstacle ≡ Some text

-- the text answers for the plan, in a run that ends so: it is that of a certificate of it, or the line of what rules
-- certificates of it out
abbrev pub Certifies : Plan → Status → List ℕ → Type 0
Certifies plan status.Yes text = (certificate : Certificate) × IsCertifiedBy plan certificate text
Certifies plan status.Fault text = (obstacle : CertifyError) × IsRuledOutBy plan obstacle text
Certifies plan status.Unreadable text = ⊥
Certifies plan status.NoMemory text = ⊥

-- how many of so many lines of faults are there beside what is told, which is one of them where it is a fault
abbrev pub others_of : CertifyError → ℕ → ℕ
others_of (error.Fault fault) count = count - 1
others_of _ count = count

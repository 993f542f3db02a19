-- What `report` prints of a plan, alone or with its certificate, and how its run ends.
use Rattle.std.specs.Prelude.{◌≡◌, ℕ, List, Option, MatchOption, codes, length}
use Rattle.plan_values.{specs.declared.certificate.Certificate.{Certificate}, specs.declared.plan.Plan.{Plan}}
use Rattle.net_tables.specs.Routing.{OfItem}
use Rattle.net_rules.{specs.declared.certify_error.CertifyError.{CertifyError}, specs.Rules.{Accepts}}
use Rattle.net_reached.specs.Wishes.{ComesTo, ReachesNode}
use Rattle.command_answers.{specs.Answers.{IsFaultText}, specs.Certifying.{IsRuledOutBy}, specs.declared.status.Status.{Status}}
use Rattle.plan_pages.specs.Pages.{TellsVerdict}
use Rattle.command_answers.specs.declared.status.Status.TheVariants as status

-- A page of a plan alone, in a run that ends so. It tells that a certificate fits, and one does; or there is none, and
-- the verdict is the line of `certify`.
abbrev pub Reports : Plan → Status → List ℕ → Type 0
Reports plan status.Yes page = (certificate : Certificate) × Accepts plan certificate
    × TellsVerdict (codes "yes") (codes "yes: a certificate fits the plan") page
Reports plan status.Fault page = (obstacle : CertifyError) × (line : List ℕ) × IsRuledOutBy plan obstacle line
    × TellsVerdict (codes "no") line page
Reports plan status.Unreadable page = ⊥
Reports plan status.NoMemory page = ⊥

-- A page of a plan and a certificate, in a run that ends so. It tells that the certificate fits, and it does; or the
-- verdict is the line of the first fault, as `check` prints it.
abbrev pub ReportsWith : Plan → Certificate → Status → List ℕ → Type 0
ReportsWith plan certificate status.Yes page =
    Accepts plan certificate × TellsVerdict (codes "yes") (codes "yes: the certificate fits the plan") page
ReportsWith plan certificate status.Fault page =
    (line : List ℕ) × IsFaultText plan certificate line × TellsVerdict (codes "no") line page
ReportsWith plan certificate status.Unreadable page = ⊥
ReportsWith plan certificate status.NoMemory page = ⊥

-- So many hops a packet of a makes to b; none where it doesn't arrive.
abbrev pub AreHopsTo : Plan → ℕ → ℕ → Option ℕ → Type 0
AreHopsTo plan a b hops = MatchOption hops (¬ ReachesNode plan a b) (ComesTo plan a b)

-- so it is of each node, in the plan's order
abbrev pub AreHopsFrom : Plan → ℕ → List (Option ℕ) → Type 0
AreHopsFrom plan a hops =
    (length hops ≡ length plan.nodes.items) × ((b : ℕ) → OfItem hops b (AreHopsTo plan a b))

-- What is answered in JSON of a plan and its certificate.
use Rattle.std.specs.Prelude.{◌≡◌, ◌⊎◌, ℕ, List, Some, ⊤}
use Rattle.mctp_transport.specs.declared.address.Eid.{Eid}
use Rattle.serde_json.specs.Data.{Data}
use Rattle.plan_values.{specs.declared.certificate.Certificate.{Certificate}, specs.declared.plan.Plan.{Plan}}
use Rattle.net_rules.{specs.declared.fault.Fault.{Fault}, specs.Faults.{IsFirstFault, site_of}, specs.Rules.{Accepts}}
use Rattle.command_answers.{specs.declared.inputs.Unread.{Unread}, specs.declared.status.Status.{Status}, specs.Answers.{Stream, GavePlanText, GaveCertificate}, specs.Naming.{IsDestination, IsFirstNamed, NameTheEnds}, specs.UnreadInputs.{IsNoPlanBy, IsNoCertificateBy}}
use Rattle.command_questions.{specs.declared.certified.CertifiedJson.{CertifiedJson}, specs.declared.form.Form.{Form}, specs.declared.form.Form.TheVariants.{Json}}
use Rattle.json_commands.{specs.Answers.{IsAnswer, IsLineOf}, specs.Explained.{IsFaultExplained, IsSound}, specs.Faults.{AreFaultsSaid, IsObstacleAlone}, specs.Unread.{IsUnknownSaid, IsUnreadSaid}, specs.Values.{empty_data}, specs.Ways.{IsReachSaid, IsTraceSaid}}
use Rattle.net_rules.specs.declared.certify_error.CertifyError.TheVariants as error
use Rattle.command_answers.specs.declared.status.Status.TheVariants as status
use Rattle.command_questions.specs.declared.certified.CertifiedJson.TheVariants as asks

-- the form of the answer
abbrev pub form_of : CertifiedJson → Form
form_of asks.Explain = Json
form_of (asks.Faults form) = form
form_of asks.Reach = Json
form_of (asks.Trace from to) = Json

-- the plan has what is named: both ends of a way
abbrev pub IsNamedIn : CertifiedJson → Plan → Type 0
IsNamedIn asks.Explain plan = ⊤
IsNamedIn (asks.Faults form) plan = ⊤
IsNamedIn asks.Reach plan = ⊤
IsNamedIn (asks.Trace from to) plan = NameTheEnds from.now to.now plan

-- the way from the first node of the one name to the destination that the other word names
abbrev pub IsWaySaid : (name text : List ℕ) → (from to : List ℕ) → Plan → Certificate → Data → Type 0
IsWaySaid name text from to plan certificate d = (n : ℕ) × (eid : Eid) × IsFirstNamed plan from n
    × IsDestination plan to eid.value × IsTraceSaid name text plan certificate n eid d

-- the value answers, where every rule holds of the plan, which stands in the text of this name, and the certificate
abbrev pub AreCheckedSaid : CertifiedJson → (name text : List ℕ) → Plan → Certificate → Data → Type 0
AreCheckedSaid asks.Explain name text plan certificate d = IsSound d
AreCheckedSaid (asks.Faults form) name text plan certificate d = IsAnswer form status.Yes empty_data d
AreCheckedSaid asks.Reach name text plan certificate d = IsReachSaid plan certificate d
AreCheckedSaid (asks.Trace from to) name text plan certificate d =
    IsWaySaid name text from.now to.now plan certificate d

-- the value answers with this fault alone
abbrev pub IsFaultAlone : (name text : List ℕ) → Plan → Fault → Data → Type 0
IsFaultAlone name text plan fault d = (results : Data)
    × IsObstacleAlone Json name text plan (error.Fault fault) results × IsAnswer Json status.Fault results d

-- the value answers of the plan and the certificate, which have this fault
abbrev pub IsFaultSaid : CertifiedJson → (name text : List ℕ) → Plan → Certificate → Fault → Data → Type 0
IsFaultSaid asks.Explain name text plan certificate fault d = IsFaultExplained name text plan fault d
IsFaultSaid (asks.Faults form) name text plan certificate fault d =
    AreFaultsSaid form name text plan (Some certificate) d
IsFaultSaid asks.Reach name text plan certificate fault d = IsFaultAlone name text plan fault d
IsFaultSaid (asks.Trace from to) name text plan certificate fault d = IsFaultAlone name text plan fault d

-- the same of the first fault
abbrev pub IsFirstFaultSaid : CertifiedJson → (name text : List ℕ) → Plan → Certificate → Data → Type 0
IsFirstFaultSaid asked name text plan certificate d = (fault : Fault)
    × IsFirstFault plan certificate (site_of fault) × IsFaultSaid asked name text plan certificate fault d

-- The value answers of the plan, which stands in the text of this name, and the certificate, in a run that ends so:
-- every rule holds of both; or it tells of the first fault, or of all; or the plan has nothing of a name.
abbrev pub AreBothSaid : CertifiedJson → (name text : List ℕ) → Plan → Certificate → Status → Data → Type 0
AreBothSaid asked name text plan certificate ended d =
    ((ended ≡ status.Yes) × Accepts plan certificate × AreCheckedSaid asked name text plan certificate d)
    ⊎ (((ended ≡ status.Fault) × IsNamedIn asked plan × IsFirstFaultSaid asked name text plan certificate d)
    ⊎ ((ended ≡ status.Unreadable) × (¬ IsNamedIn asked plan) × IsUnknownSaid (form_of asked) name d))

-- the value answers of the plan and the certificate that was given, or tells why none was
abbrev pub IsCertificateSaid : CertifiedJson → (name certified_by text : List ℕ) → Plan → Stream → Status → Data
    → Type 0
IsCertificateSaid asked name certified_by text plan certificates ended d =
    ((certificate : Certificate) × GaveCertificate plan certificates certificate
    × AreBothSaid asked name text plan certificate ended d)
    ⊎ ((why : Unread) × IsNoCertificateBy plan certificates why × (ended ≡ status.Unreadable)
    × IsUnreadSaid (form_of asked) certified_by why d)

-- the same of the sources of both
abbrev pub AreSourcesSaid : CertifiedJson → (name certified_by : List ℕ) → Stream → Stream → Status → Data → Type 0
AreSourcesSaid asked name certified_by plans certificates ended d =
    ((text : List ℕ) × (plan : Plan) × GavePlanText plans text plan
    × IsCertificateSaid asked name certified_by text plan certificates ended d)
    ⊎ ((why : Unread) × IsNoPlanBy plans why × (ended ≡ status.Unreadable)
    × IsUnreadSaid (form_of asked) name why d)

-- the text is the line of such a value
abbrev pub AnswersInJson : CertifiedJson → (name certified_by : List ℕ) → Stream → Stream → Status → List ℕ → Type 0
AnswersInJson asked name certified_by plans certificates ended text =
    (d : Data) × AreSourcesSaid asked name certified_by plans certificates ended d × IsLineOf d text

-- What `explain` prints of a plan, its certificate and events.
use Rattle.std.specs.Prelude.{◌≡◌, ◌⊎◌, ℕ, List}
use Rattle.plan_values.{specs.declared.certificate.Certificate.{Certificate}, specs.declared.event.Event.{Event}, specs.declared.plan.Plan.{Plan}}
use Rattle.net_rules.specs.Rules.{Accepts}
use Rattle.command_answers.{specs.declared.status.Status.{Status}, specs.Answers.{Stream, GavePlanText, GaveCertificate}, specs.Inputs.{GaveEvents}, specs.UnreadTexts.{IsUnreadText, IsUnreadCertificateText, IsUnreadEventsText}}
use Rattle.explain_commands.specs.Explaining.{IsFaultExplained, IsYesExplained}
use Rattle.command_answers.specs.declared.status.Status.TheVariants as status

-- The plan and the certificate meet every rule, and a run that says so of the source of events ends so: yes, and what
-- sums the plan up, where it gave events; or why it gave none.
abbrev pub AreEventsExplained : Plan → Certificate → Stream → Status → List ℕ → Type 0
AreEventsExplained plan certificate happenings status.Yes lines =
    ((es : List Event) × GaveEvents plan happenings es) × IsYesExplained plan certificate lines
AreEventsExplained plan certificate happenings status.Unreadable lines =
    Accepts plan certificate × IsUnreadEventsText plan happenings lines
AreEventsExplained plan certificate happenings status.Fault lines = ⊥
AreEventsExplained plan certificate happenings status.NoMemory lines = ⊥

-- The same of a plan and a certificate whether they are accepted or not. Where they are not, that is told as without
-- the events.
abbrev pub AreAllExplained : (name certified_by text : List ℕ) → Plan → Certificate → Stream → Status → List ℕ → Type 0
AreAllExplained name certified_by text plan certificate happenings ended lines =
    AreEventsExplained plan certificate happenings ended lines
    ⊎ ((ended ≡ status.Fault) × IsFaultExplained name certified_by text plan certificate lines)

-- a run that says so of the plan and the sources of its certificate and of events ends so
abbrev pub IsExplainedWithEvents : (name certified_by text : List ℕ) → Plan → Stream → Stream → Status → List ℕ
    → Type 0
IsExplainedWithEvents name certified_by text plan certificates happenings ended lines =
    ((certificate : Certificate) × GaveCertificate plan certificates certificate
    × AreAllExplained name certified_by text plan certificate happenings ended lines)
    ⊎ ((ended ≡ status.Unreadable) × IsUnreadCertificateText plan certificates lines)

-- the lines answer for the sources of a plan, its certificate and events, in a run that ends so: they explain what was
-- given, or why something was not
abbrev pub ExplainsAllSo : (name certified_by : List ℕ) → Stream → Stream → Stream → Status → List ℕ → Type 0
ExplainsAllSo name certified_by plans certificates happenings ended lines =
    ((text : List ℕ) × (plan : Plan) × GavePlanText plans text plan
    × IsExplainedWithEvents name certified_by text plan certificates happenings ended lines)
    ⊎ ((ended ≡ status.Unreadable) × IsUnreadText plans lines)

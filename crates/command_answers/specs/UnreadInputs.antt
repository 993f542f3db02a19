-- What is known of a source that gave no plan, no certificate or no events.
use Rattle.std.specs.Prelude.{◌≡◌, ℕ, List, ⊤, Result}
use Rattle.serde_json.specs.Data.{Data}
use Rattle.net_plan.{specs.CertificateReading.{certificate}, specs.CertificateText.{IsCertificateOf}, specs.EventReading.{events}, specs.EventText.{AreEventsOf}, specs.declared.error.ValueFault.{ValueFault}, specs.declared.stream.TextFault.{TextFault}, specs.PlanReading.{plan}, specs.PlanText.{IsPlanOf}, specs.Stream.{TakesMoreThan}, specs.Texts.{Gave, IsJsonTextOf}, specs.Limits.{most_text_bytes}}
use Rattle.plan_values.{specs.declared.plan.Plan.{Plan}, specs.PlanValues.{plan_value, node_names}}
use Rattle.command_answers.{specs.declared.inputs.Unread.{Unread}, specs.declared.inputs.Unread.TheVariants.{NoMemory, Failed, TooLong, Text}, specs.Answers.{Stream, Fails}}
use Rattle.net_pointers.specs.Asks.{Sort, plan_text, certificate_text, events_text}
use Rattle.reading_texts.{specs.TextErrors.{IsToldAs}, specs.declared.text_error.TextError.TheVariants.{Faulty}}
use Rattle.net_plan.specs.declared.stream.TextFault.TheVariants as text_fault

-- the text is that of the plan
abbrev pub IsTextOf : List ℕ → Plan → Type 0
IsTextOf text plan = IsJsonTextOf IsPlanOf text (plan_value plan)

-- why there is nothing where there is no text
abbrev pub unread_of : TextFault → Unread
unread_of text_fault.TooLong = TooLong
unread_of text_fault.Device = Failed
unread_of text_fault.OutOfMemory = NoMemory

-- what is known of bytes of a sort that are refused
abbrev pub IsUnreadAs : {A : Type 0} → Sort → (Data → Result A ValueFault) → (Data → A → Type 0) → List ℕ → Unread
    → Type 0
IsUnreadAs s said R bytes NoMemory = ⊤
IsUnreadAs s said R bytes Failed = ⊥
IsUnreadAs s said R bytes TooLong = ⊥
IsUnreadAs s said R bytes (Text text fault) = (text.items ≡ bytes) × IsToldAs s said R bytes (Faulty fault)

-- what is known of a source whose bytes are refused, or that gave none
abbrev pub IsUnreadBy : {A : Type 0} → Sort → (Data → Result A ValueFault) → (Data → A → Type 0) → Stream → Unread
    → Type 0
IsUnreadBy s said R source NoMemory = ⊤
IsUnreadBy s said R source Failed = Fails source
IsUnreadBy s said R source TooLong = TakesMoreThan most_text_bytes source.before.bytes source.after.bytes
IsUnreadBy s said R source (Text text fault) =
    Gave most_text_bytes source.before.bytes source.after.bytes (λ bytes. IsUnreadAs s said R bytes (Text text fault))

abbrev pub IsNoPlanIn : List ℕ → Unread → Type 0
IsNoPlanIn bytes unread = IsUnreadAs plan_text plan IsPlanOf bytes unread

abbrev pub IsNoPlanBy : Stream → Unread → Type 0
IsNoPlanBy plans unread = IsUnreadBy plan_text plan IsPlanOf plans unread

abbrev pub IsNoCertificateIn : Plan → List ℕ → Unread → Type 0
IsNoCertificateIn p bytes unread = let nodes = node_names (plan_value p).nodes in
    IsUnreadAs (certificate_text nodes) (certificate nodes) (IsCertificateOf (plan_value p)) bytes unread

abbrev pub IsNoCertificateBy : Plan → Stream → Unread → Type 0
IsNoCertificateBy p certificates unread = let nodes = node_names (plan_value p).nodes in
    IsUnreadBy (certificate_text nodes) (certificate nodes) (IsCertificateOf (plan_value p)) certificates unread

-- why bytes are no events at the plan's nodes
abbrev pub AreNoEventsIn : Plan → List ℕ → Unread → Type 0
AreNoEventsIn p bytes unread = let nodes = node_names (plan_value p).nodes in
    IsUnreadAs (events_text nodes) (events nodes) (AreEventsOf (plan_value p)) bytes unread

-- why a source gave no events
abbrev pub AreNoEventsBy : Plan → Stream → Unread → Type 0
AreNoEventsBy p happenings unread = let nodes = node_names (plan_value p).nodes in
    IsUnreadBy (events_text nodes) (events nodes) (AreEventsOf (plan_value p)) happenings unread

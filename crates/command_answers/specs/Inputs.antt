-- Events and lines that sources gave, or why they gave none.
use Rattle.std.specs.Prelude.{◌≡◌, ℕ, List, map, IsUtf8}
use Rattle.plan_values.{specs.declared.plan.Plan.{Plan}, specs.declared.certificate.Certificate.{Certificate}, specs.declared.event.Event.{Event}, specs.EventValues.{event_entry}, specs.PlanValues.{plan_value}}
use Rattle.net_plan.{specs.declared.error.PlanError.{PlanError}, specs.EventText.{AreEventsOf}, specs.Texts.{Gave, IsJsonTextOf}, specs.Unread.{GaveNoEvents}, specs.Stream.{TakesMoreThan}, specs.declared.stream.TextFault.{TextFault}, specs.Limits.{most_text_bytes}}
use Rattle.command_answers.{specs.declared.refused.Input.{Input}, specs.declared.refused.Refused.{Refused}, specs.Answers.{Stream, GaveNothing, Fails}, specs.Statuses.{HasCause}}
use Rattle.command_answers.specs.declared.refused.Input.TheVariants as input
use Rattle.net_plan.specs.declared.error.PlanError.TheVariants as error
use Rattle.net_plan.specs.declared.stream.TextFault.TheVariants as fault

-- the source gave the events at the nodes of the plan
abbrev pub GaveEvents : Plan → Stream → List Event → Type 0
GaveEvents plan stream events =
    Gave most_text_bytes stream.before.bytes stream.after.bytes
    (λ text. IsJsonTextOf (AreEventsOf (plan_value plan)) text (map event_entry events))

-- why an input, which is the events at the nodes of the plan, can't be read
abbrev pub AreUnreadEvents : Plan → Input → PlanError → Stream → Type 0
AreUnreadEvents plan input.Plan cause happenings = ⊥
AreUnreadEvents plan input.Certificate cause happenings = ⊥
AreUnreadEvents plan input.Events cause happenings = GaveNothing (GaveNoEvents (plan_value plan)) happenings cause
AreUnreadEvents plan input.Lines cause happenings = ⊥

-- why the events at the nodes of the plan were not read
abbrev pub AreEventsUnread : Refused → Plan → Stream → Type 0
AreEventsUnread why plan happenings =
    HasCause (λ unread cause. AreUnreadEvents plan unread cause happenings) ⊥ ⊥ ⊥ why

-- the source gave these bytes
abbrev pub GaveBytes : Stream → List ℕ → Type 0
GaveBytes stream bytes = Gave most_text_bytes stream.before.bytes stream.after.bytes (λ given. given ≡ bytes)

-- why a source gave none: too many, or it failed
abbrev pub GaveNoBytes : Stream → TextFault → Type 0
GaveNoBytes stream fault.TooLong = TakesMoreThan most_text_bytes stream.before.bytes stream.after.bytes
GaveNoBytes stream fault.Device = Fails stream
GaveNoBytes stream fault.OutOfMemory = ⊥

-- why a source gave no text of lines: it failed, it gave too many bytes, or they are no UTF-8
abbrev pub GaveNoLines : Stream → PlanError → Type 0
GaveNoLines stream error.Device = Fails stream
GaveNoLines stream error.OverLimit = TakesMoreThan most_text_bytes stream.before.bytes stream.after.bytes
GaveNoLines stream error.NotJson = Gave most_text_bytes stream.before.bytes stream.after.bytes (λ text. ¬ IsUtf8 text)
GaveNoLines stream _ = ⊥

-- why an input, which is the lines, can't be read
abbrev pub IsUnreadAsLines : Input → PlanError → Stream → Type 0
IsUnreadAsLines input.Lines cause expectations = GaveNoLines expectations cause
IsUnreadAsLines _ cause expectations = ⊥

-- why the lines were not read
abbrev pub AreLinesUnread : Refused → Stream → Type 0
AreLinesUnread why expectations = HasCause (λ unread cause. IsUnreadAsLines unread cause expectations) ⊥ ⊥ ⊥ why

-- What the end of `explain` tells of an answer on events.
use Rattle.std.{proofs.Common.{◌≡◌, List, ℕ, Result, Ok, Err, inl, inr, sym, subst}, specs.Prelude.{IfOk}, specs.Cow.{cow_str_bytes}}
use Rattle.net_rules.specs.Rules.{Accepts}
use Rattle.plan_values.{specs.declared.certificate.Certificate.{Certificate}, specs.declared.plan.Plan.{Plan}}
use Rattle.command_answers.{specs.declared.answer.Answer.{Answer}, specs.declared.inputs.Unread.{Unread}, specs.declared.refused.Refused.{Refused}, specs.declared.status.Status.{Status}, specs.Answers.{Stream, GavePlanText, GaveCertificate}, specs.UnreadInputs.{IsNoPlanBy, IsNoCertificateBy, AreNoEventsBy}, proofs.UnreadTexts.{IsUnreadAnswer, plan_told, certificate_told, events_told}}
use Rattle.explain_commands.{specs.Explaining.{IsFaultExplained}, specs.ExplainingEvents.{AreEventsExplained, AreAllExplained, IsExplainedWithEvents, ExplainsAllSo}}
use Rattle.command_answers.specs.declared.status.Status.TheVariants as status
use Rattle.command_answers.specs.declared.refused.Input.TheVariants as input

-- the answer where no events were given
pub no_events : (plan : Plan) (cert : Certificate) (happenings : Stream) (u : Unread) (result : Result Answer Refused) → Accepts plan cert → AreNoEventsBy plan happenings u
    → IfOk result (IsUnreadAnswer input.Events u)
    → IfOk result (λ (a : Answer). AreEventsExplained plan cert happenings a.status (cow_str_bytes a.text))
no_events plan cert happenings u (Ok a) accepted by h =
    let S : Status → Type 0 = λ s. AreEventsExplained plan cert happenings s (cow_str_bytes a.text) in
    subst S (sym h.0) (accepted, events_told plan happenings u _ by h.1)
no_events plan cert happenings u (Err why) accepted by h = tt

module _ (name certified_by text : List ℕ) where
  -- the answer where the plan and the certificate are accepted
  pub accepted_all : (plan : Plan) (cert : Certificate) (happenings : Stream) (result : Result Answer Refused)
      → IfOk result (λ (a : Answer). AreEventsExplained plan cert happenings a.status (cow_str_bytes a.text))
      → IfOk result (λ (a : Answer). AreAllExplained name certified_by text plan cert happenings a.status (cow_str_bytes a.text))
  accepted_all plan cert happenings (Ok a) h = inl h
  accepted_all plan cert happenings (Err why) h = tt

  -- the answer where they are not
  pub refused_all : (plan : Plan) (cert : Certificate) (happenings : Stream) (result : Result Answer Refused)
      → IfOk result (λ (a : Answer). (a.status ≡ status.Fault) × IsFaultExplained name certified_by text plan cert (cow_str_bytes a.text))
      → IfOk result (λ (a : Answer). AreAllExplained name certified_by text plan cert happenings a.status (cow_str_bytes a.text))
  refused_all plan cert happenings (Ok a) h = inr h
  refused_all plan cert happenings (Err why) h = tt

  -- the answer on a certificate that was given
  pub with_certificate : (plan : Plan) (certificates happenings : Stream) (cert : Certificate) (result : Result Answer Refused) → GaveCertificate plan certificates cert
      → IfOk result (λ (a : Answer). AreAllExplained name certified_by text plan cert happenings a.status (cow_str_bytes a.text))
      → IfOk result (λ (a : Answer). IsExplainedWithEvents name certified_by text plan certificates happenings a.status (cow_str_bytes a.text))
  with_certificate plan certificates happenings cert (Ok a) given h = inl (cert, given, h)
  with_certificate plan certificates happenings cert (Err why) given h = tt

  -- the answer where none was given
  pub without_certificate : (plan : Plan) (certificates happenings : Stream) (u : Unread) (result : Result Answer Refused) → IsNoCertificateBy plan certificates u
      → IfOk result (IsUnreadAnswer input.Certificate u)
      → IfOk result (λ (a : Answer). IsExplainedWithEvents name certified_by text plan certificates happenings a.status (cow_str_bytes a.text))
  without_certificate plan certificates happenings u (Ok a) by h = inr (h.0, certificate_told plan certificates u _ by h.1)
  without_certificate plan certificates happenings u (Err why) by h = tt

  -- the answer on a plan that was given
  pub with_plan : (plans certificates happenings : Stream) (plan : Plan) (result : Result Answer Refused) → GavePlanText plans text plan
      → IfOk result (λ (a : Answer). IsExplainedWithEvents name certified_by text plan certificates happenings a.status (cow_str_bytes a.text))
      → IfOk result (λ (a : Answer). ExplainsAllSo name certified_by plans certificates happenings a.status (cow_str_bytes a.text))
  with_plan plans certificates happenings plan (Ok a) given h = inl (text, plan, given, h)
  with_plan plans certificates happenings plan (Err why) given h = tt

-- the answer where none was given
pub without_plan : (name certified_by : List ℕ) (plans certificates happenings : Stream) (u : Unread) (result : Result Answer Refused) → IsNoPlanBy plans u
    → IfOk result (IsUnreadAnswer input.Plan u)
    → IfOk result (λ (a : Answer). ExplainsAllSo name certified_by plans certificates happenings a.status (cow_str_bytes a.text))
without_plan name certified_by plans certificates happenings u (Ok a) by h = inr (h.0, plan_told plans u _ by h.1)
without_plan name certified_by plans certificates happenings u (Err why) by h = tt

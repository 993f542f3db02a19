-- A plan that was given with its text, or was not.
use Rattle.std.{proofs.Common.{◌≤◌, List, length, ℕ, Result, Err, refl}, specs.Io.KnownBytes.{Consumes, IsAtEnd}}
use Rattle.net_plan.{specs.declared.error.PlanError.{PlanError}, specs.PlanReading.{plan}, specs.PlanText.{IsPlanOf}, specs.Refusals.{IsRefused}, specs.Unread.{GaveNoPlan}, proofs.Refusing.{answer_given}}
use Rattle.plan_values.{specs.declared.certificate.Certificate.{Certificate}, specs.declared.plan.Plan.{Plan}}
use Rattle.command_answers.{specs.Answers.{Stream, GavePlan, GavePlanText, AreGiven, AreTextsGiven, IsPlanUnread}, specs.Statuses.{refused_at}}
use Rattle.net_plan.specs.declared.error.PlanError.TheVariants as cause_of
use Rattle.command_answers.specs.declared.refused.Input.TheVariants as input

pub gave_plan : (plans : Stream) (text : List ℕ) (p : Plan) → GavePlanText plans text p → GavePlan plans p
gave_plan plans text p h = (h.0, h.1, h.2, h.3, h.4.1)

pub are_given : (plans certificates : Stream) (text : List ℕ) (p : Plan) (cert : Certificate) → AreTextsGiven plans certificates text p cert → AreGiven plans certificates p cert
are_given plans certificates text p cert h = record { plan_text = gave_plan plans text p h.plan_text; certificate_text = h.certificate_text }

-- why a text that was given is none of a plan, as a refusal
no_plan_for : (plans : Stream) (bytes : List ℕ) (cause : PlanError) → IsRefused plan IsPlanOf bytes cause → GaveNoPlan plans.before.bytes plans.after.bytes cause
    → IsPlanUnread (refused_at input.Plan cause) plans
no_plan_for plans bytes cause_of.NotJson refused none = none
no_plan_for plans bytes cause_of.WrongKind refused none = none
no_plan_for plans bytes cause_of.MissingKey refused none = none
no_plan_for plans bytes cause_of.UnknownKey refused none = none
no_plan_for plans bytes cause_of.OutOfRange refused none = none
no_plan_for plans bytes cause_of.UnknownName refused none = none
no_plan_for plans bytes cause_of.BadHex refused none = none
no_plan_for plans bytes cause_of.OverLimit refused none = none
no_plan_for plans bytes cause_of.Doubled refused none = none
no_plan_for plans bytes cause_of.Device refused none = absurd refused
no_plan_for plans bytes cause_of.OutOfMemory refused none = tt

-- the source gave a text that is none of a plan
pub no_plan : (plans : Stream) (bytes : List ℕ) (cause : PlanError) → Consumes plans.before.bytes plans.after.bytes bytes → IsAtEnd plans.after.bytes → length bytes ≤ 16777216
    → IsRefused plan IsPlanOf bytes cause → IsPlanUnread (refused_at input.Plan cause) plans
no_plan plans bytes cause took end few refused =
    let unread : Result (List ℕ) PlanError = Err cause in
    no_plan_for plans bytes cause refused (answer_given plan IsPlanOf plans.before.bytes plans.after.bytes bytes bytes unread took end few refl refused)

-- What answers a question about a plan and its certificate.
use Rattle.std.specs.Prelude.{◌≡◌, ◌⊎◌, ℕ, List, ⊤}
use Rattle.net_rules.specs.Rules.{Accepts}
use Rattle.plan_values.{specs.declared.certificate.Certificate.{Certificate}, specs.declared.plan.Plan.{Plan}}
use Rattle.net_reached.specs.Matrices.{IsMatrix}
use Rattle.command_questions.specs.declared.certified.Question.{Question}
use Rattle.command_answers.{specs.declared.refused.Refused.{Refused}, specs.declared.status.Status.{Status}, specs.Answers.{Stream, AreGiven, AreTextsGiven, AreUnread, IsFaultText}, specs.Statuses.{HasCause, yes_line}, specs.Naming.{NameTheEnds, HasTerminusNamed}}
use Rattle.plan_commands.{specs.Assigning.{IsAssignmentText}, specs.FaultListing.{IsFaultListOf}, specs.Reaching.{IsReachText}, specs.Tracing.{IsTraceText}, specs.Walking.{IsWalkText, HasTooManyBytes}}
use Rattle.command_questions.specs.declared.certified.Question.TheVariants as question
use Rattle.command_answers.specs.declared.status.Status.TheVariants as status

-- the text answers the question, where every rule holds of the plan and the certificate
abbrev pub IsAnswer : Question → Plan → Certificate → List ℕ → Type 0
IsAnswer question.Check plan certificate text = text ≡ yes_line
IsAnswer (question.Faults name) plan certificate text = text ≡ yes_line
IsAnswer question.Assign plan certificate text = IsAssignmentText plan certificate text
IsAnswer question.Reach plan certificate text = IsReachText plan certificate text
IsAnswer question.Matrix plan certificate text = IsMatrix plan text
IsAnswer (question.Draw rows) plan certificate text = ⊤
IsAnswer (question.Walk node part) plan certificate text = IsWalkText node.now part.bytes plan certificate text
IsAnswer (question.Trace from to) plan certificate text = IsTraceText from.now to.now plan certificate text

-- the plan has what the question names: a walk's terminus, or both ends of a way
abbrev pub IsNamedIn : Question → Plan → Type 0
IsNamedIn question.Check plan = ⊤
IsNamedIn (question.Faults name) plan = ⊤
IsNamedIn question.Assign plan = ⊤
IsNamedIn question.Reach plan = ⊤
IsNamedIn question.Matrix plan = ⊤
IsNamedIn (question.Draw rows) plan = ⊤
IsNamedIn (question.Walk node part) plan = HasTerminusNamed plan node.now
IsNamedIn (question.Trace from to) plan = NameTheEnds from.now to.now plan

-- what is asked for is more than a walk collects
abbrev pub IsTooMuch : Question → Plan → Certificate → Type 0
IsTooMuch question.Check plan certificate = ⊥
IsTooMuch (question.Faults name) plan certificate = ⊥
IsTooMuch question.Assign plan certificate = ⊥
IsTooMuch question.Reach plan certificate = ⊥
IsTooMuch question.Matrix plan certificate = ⊥
IsTooMuch (question.Draw rows) plan certificate = ⊥
IsTooMuch (question.Walk node part) plan certificate = HasTooManyBytes node.now plan certificate
IsTooMuch (question.Trace from to) plan certificate = ⊥

-- the lines tell of a plan, which stands in this text, and a certificate that are not accepted: their first fault, or
-- all of their faults where these are asked for
abbrev pub IsFaultAnswer : Question → List ℕ → Plan → Certificate → List ℕ → Type 0
IsFaultAnswer (question.Faults name) text plan certificate lines = IsFaultListOf name.now text plan certificate lines
IsFaultAnswer question.Check text plan certificate lines = IsFaultText plan certificate lines
IsFaultAnswer question.Assign text plan certificate lines = IsFaultText plan certificate lines
IsFaultAnswer question.Reach text plan certificate lines = IsFaultText plan certificate lines
IsFaultAnswer question.Matrix text plan certificate lines = IsFaultText plan certificate lines
IsFaultAnswer (question.Draw rows) text plan certificate lines = IsFaultText plan certificate lines
IsFaultAnswer (question.Walk node part) text plan certificate lines = IsFaultText plan certificate lines
IsFaultAnswer (question.Trace from to) text plan certificate lines = IsFaultText plan certificate lines

-- The lines answer on the plan, which stands in this text, and the certificate, in a run that ends so: they answer the
-- question, and every rule holds of both; or the plan has what the question names, and they tell of the faults.
abbrev pub AnswersOn : Question → List ℕ → Plan → Certificate → Status → List ℕ → Type 0
AnswersOn asked text plan certificate status.Yes lines =
    Accepts plan certificate × IsAnswer asked plan certificate lines
AnswersOn asked text plan certificate status.Fault lines =
    IsNamedIn asked plan × IsFaultAnswer asked text plan certificate lines
AnswersOn asked text plan certificate status.Unreadable lines = ⊥
AnswersOn asked text plan certificate status.NoMemory lines = ⊥

-- so they do of the plan and the certificate that were given
abbrev pub AnswersSo : Question → Stream → Stream → Status → List ℕ → Type 0
AnswersSo asked plans certificates ended lines = (text : List ℕ) × (plan : Plan) × (certificate : Certificate)
    × AreTextsGiven plans certificates text plan certificate × AnswersOn asked text plan certificate ended lines

-- why there is no answer on a plan and a certificate: the plan lacks what the question names, or every rule holds and
-- what is asked for is too much
abbrev pub IsUnansweredOn : Question → Plan → Certificate → Refused → Type 0
IsUnansweredOn asked plan certificate why = HasCause (λ unread cause. ⊥) (¬ IsNamedIn asked plan) ⊥
    (Accepts plan certificate × IsTooMuch asked plan certificate) why

-- why there is none: the inputs were not read; or they were, and there is none on them
abbrev pub IsUnansweredFor : Question → Stream → Stream → Refused → Type 0
IsUnansweredFor asked plans certificates why = AreUnread why plans certificates
    ⊎ ((plan : Plan) × (certificate : Certificate) × AreGiven plans certificates plan certificate
    × IsUnansweredOn asked plan certificate why)

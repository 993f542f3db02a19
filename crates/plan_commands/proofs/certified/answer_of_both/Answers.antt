use Rattle.std.{proofs.Common.{rules, ◌≡◌, Err, sym, ap, subst}, specs.Cow.{cow_str_bytes}}
use Rattle.plan_values.{specs.declared.certificate.Certificate.{Certificate}, specs.declared.plan.Plan.{Plan}}
use Rattle.command_answers.specs.declared.status.Status.{Status}
use Rattle.plan_commands.{specs.Certified.{IsAnswer, IsNamedIn, AnswersOn}, proofs.Questions.{unfound_so, fault_so, fault_untold}}
use Rattle.plan_commands.proofs.certified.answer_of_both.Goals as goal

pub text_of_checked-requires : goal.text_of_checked-requires
text_of_checked-requires c =
    subst (λ (p : Plan). IsNamedIn c.args.question.now p) (sym (ap (λ r. r.0) c.in-Ok.ensures.checked)) (c.is_named_in.ensures.yes (search rules))

pub returns-in_err-text_of_checked-in-Ok-clause-unanswered : goal.returns-in_err-text_of_checked-in-Ok-clause-unanswered
returns-in_err-text_of_checked-in-Ok-clause-unanswered c =
    let failed = c.in_err-text_of_checked-in-Ok in
    let ended : c.from_residual.result ≡ Err failed.field-0.0 = search rules in
    rw ended (unfound_so c.args.question.now c.args.given.now.plan c.args.certificate.now c.in-Ok.checked failed.field-0.0 c.in-Ok.ensures.checked c.in-Ok.ensures.accepted
    failed.ensures.early)

pub returns-in_ok-text_of_checked-in-Ok-clause-answers : goal.returns-in_ok-text_of_checked-in-Ok-clause-answers
returns-in_ok-text_of_checked-in-Ok-clause-answers c =
    let asked = c.args.question.now in
    let plan = c.args.given.now.plan in
    let cert = c.args.certificate.now in
    let text = cow_str_bytes c.said.result.text in
    let S : Status → Type 0 = λ s. AnswersOn asked c.args.given.now.text.items plan cert s text in
    let told = subst (IsAnswer asked c.in-Ok.checked.0 c.in-Ok.checked.1) (sym c.said.ensures.text) c.in_ok-text_of_checked-in-Ok.ensures.text in
    subst S (sym c.said.ensures.status) (c.in-Ok.ensures.accepted, subst (λ (p : Plan × Certificate). IsAnswer asked p.0 p.1 text) c.in-Ok.ensures.checked told)

pub returns-in-Err-clause-answers : goal.returns-in-Err-clause-answers
returns-in-Err-clause-answers c =
    fault_so c.args.question.now c.args.given.now.text.items c.args.given.now.plan c.args.certificate.now (c.is_named_in.ensures.yes (search rules)) c.answer_of_fault.result
    c.answer_of_fault.ensures.answers

pub returns-in-Err-clause-unanswered : goal.returns-in-Err-clause-unanswered
returns-in-Err-clause-unanswered c =
    fault_untold c.args.question.now c.args.given.now.plan c.args.certificate.now c.answer_of_fault.result c.answer_of_fault.ensures.refused

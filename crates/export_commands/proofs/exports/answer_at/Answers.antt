use Rattle.std.proofs.Common.{sym, ap, subst}
use Rattle.plan_values.{specs.declared.certificate.Certificate.{Certificate}, specs.declared.plan.Plan.{Plan}}
use Rattle.command_answers.{specs.Answers.{IsFaultText}, specs.declared.status.Status.{Status}}
use Rattle.export_commands.{specs.Exporting.{AnswersAt, HasForm, IsExported}, proofs.Answered.{first_told}}
use Rattle.export_commands.proofs.exports.answer_at.Goals as goal

pub exported-requires : goal.exported-requires
exported-requires c =
    subst (λ (p : Plan). HasForm c.args.kind p c.args.node) (sym (ap (λ r. r.0) c.in-Ok.ensures.checked)) c.requires

pub returns-in_ok-exported-in-Ok-clause-answers : goal.returns-in_ok-exported-in-Ok-clause-answers
returns-in_ok-exported-in-Ok-clause-answers c =
    let kind = c.args.kind in
    let links = c.args.links.now in
    let n = c.args.node in
    let bytes = c.whole.result.bytes.items in
    let S : Status → Type 0 = λ s. AnswersAt kind links c.args.plan.now c.args.certificate.now n s bytes in
    let is = subst (IsExported kind links c.in-Ok.checked.0 c.in-Ok.checked.1 n) (sym c.whole.ensures.bytes) c.in_ok-exported-in-Ok.ensures in
    subst S (sym c.whole.ensures.status) (c.in-Ok.ensures.accepted, subst (λ (p : Plan × Certificate). IsExported kind links p.0 p.1 n bytes) c.in-Ok.ensures.checked is)

pub returns-in_ok-fault_text-in-Err-clause-answers : goal.returns-in_ok-fault_text-in-Err-clause-answers
returns-in_ok-fault_text-in-Err-clause-answers c =
    let plan = c.args.plan.now in
    let cert = c.args.certificate.now in
    let bytes = c.fault.result.bytes.items in
    let S : Status → Type 0 = λ s. AnswersAt c.args.kind c.args.links.now plan cert c.args.node s bytes in
    let told = first_told plan cert c.in-Err.error _ c.in-Err.ensures.first_fault c.in_ok-fault_text-in-Err.ensures.text in
    subst S (sym c.fault.ensures.status) (subst (IsFaultText plan cert) (sym c.fault.ensures.bytes) told)

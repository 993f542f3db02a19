use Rattle.command_answers.proofs.FirstFaults.{first_told}
use Rattle.audit_commands.proofs.Audited.{checked_so, fault_so}
use Rattle.audit_commands.proofs.audit.answer_bytes.Goals as goal

pub returns-in-Ok-clause-answers : goal.returns-in-Ok-clause-answers
returns-in-Ok-clause-answers c =
    checked_so c.args.plan.now c.args.certificate.now c.args.bus c.args.is_complete c.in-Ok.checked c.args.bytes.now c.answer_checked.result c.in-Ok.ensures.checked c.in-Ok.ensures.accepted
    c.answer_checked.ensures.answers

pub returns-in-Err-clause-answers : goal.returns-in-Err-clause-answers
returns-in-Err-clause-answers c =
    fault_so c.args.plan.now c.args.certificate.now c.args.bus c.args.is_complete c.args.bytes.now c.fault_answer.result
    (first_told c.args.plan.now c.args.certificate.now c.in-Err.error c.fault_answer.result c.in-Err.ensures.first_fault c.fault_answer.ensures.answers)

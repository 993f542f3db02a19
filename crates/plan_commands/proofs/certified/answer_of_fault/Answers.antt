use Rattle.command_answers.proofs.FirstFaults.{first_told}
use Rattle.plan_commands.proofs.FaultListed.{others_told}
use Rattle.plan_commands.proofs.certified.answer_of_fault.Goals as goal

pub returns-in_default-clause-answers : goal.returns-in_default-clause-answers
returns-in_default-clause-answers c =
    let given = c.args.given.now in
    let cert = c.args.certificate.now in
    others_told c.args.question.now given.text.items given.plan cert c.fault_answer.result c.in_default.not-Faults (first_told given.plan cert c.args.error.now c.fault_answer.result c.requires c.fault_answer.ensures.answers)

use Rattle.export_commands.proofs.Answered.{answered_on, unanswered_on}
use Rattle.export_commands.proofs.exports.answer_of_both.Goals as goal

pub returns-in-Some-clause-answers : goal.returns-in-Some-clause-answers
returns-in-Some-clause-answers c =
    answered_on c.args.export.now c.args.links.now c.args.plan.now c.args.certificate.now c.in-Some.node c.in-Some.ensures c.answer_at.result c.answer_at.ensures.answers

pub returns-in-Some-clause-unanswered : goal.returns-in-Some-clause-unanswered
returns-in-Some-clause-unanswered c =
    unanswered_on c.args.export.now c.args.links.now c.args.plan.now c.args.certificate.now c.answer_at.result c.answer_at.ensures.unanswered

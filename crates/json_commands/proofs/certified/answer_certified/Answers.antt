use Rattle.std.proofs.Common.{sym, subst}
use Rattle.serde_json.specs.View.{view}
use Rattle.command_answers.{specs.declared.status.Status.{Status}, specs.Answers.{stream}}
use Rattle.json_commands.specs.Certified.{AreSourcesSaid}
use Rattle.json_commands.proofs.certified.answer_certified.Goals as goal

pub returns-clause-answers : goal.returns-clause-answers
returns-clause-answers g c =
    let plans = stream g.P.Source.account c.args.plan.now c.said_of_sources.new.plan in
    let certificates = stream g.C.Source.account c.args.certificate.now c.said_of_sources.new.certificate in
    let d = view c.in_ok-said.said.value in
    let made = c.in_ok-answer_of in
    (d, subst (λ (s : Status). AreSourcesSaid c.args.asked.now c.args.name.now c.args.certified_by.now plans certificates s d) (sym made.ensures.0) c.in_ok-said.ensures.says, made.ensures.1)

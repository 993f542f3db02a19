use Rattle.std.proofs.Common.{sym, subst}
use Rattle.serde_json.specs.View.{view}
use Rattle.command_answers.{specs.declared.status.Status.{Status}, specs.Answers.{stream}}
use Rattle.json_commands.specs.Planned.{IsSaidOfSource}
use Rattle.json_commands.proofs.planned.answer_planned.Goals as goal

pub returns-clause-answers : goal.returns-clause-answers
returns-clause-answers g c =
    let plans = stream g.P.Source.account c.args.plan.now c.said_of_source.new.plan in
    let d = view c.in_ok-said.said.value in
    let made = c.in_ok-answer_of in
    (d, subst (λ (s : Status). IsSaidOfSource c.args.asked c.args.name.now plans s d) (sym made.ensures.0) c.in_ok-said.ensures, made.ensures.1)

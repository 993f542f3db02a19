use Rattle.std.proofs.Common.{rules, ◌≡◌, Err, inr}
use Rattle.command_answers.{specs.Answers.{stream}, proofs.GivenTexts.{gave_plan}}
use Rattle.command_answers.proofs.inputs.read_texts.Goals as goal

pub returns-in_err-certificate-clause-unread : goal.returns-in_err-certificate-clause-unread
returns-in_err-certificate-clause-unread g c =
    let failed = c.in_err-certificate in
    let given = c.in_ok-given.given in
    let ended : c.from_residual-in_err-certificate.result ≡ Err failed.field-0.0 = search rules in
    let plans = stream g.P.Source.account c.args.plan.now c.given_plan_text.new.plan in
    rw ended (inr (given.plan, gave_plan plans given.text.items given.plan c.in_ok-given.ensures.given, failed.ensures.unread))

pub returns-in_err-certificate-clause-in_order : goal.returns-in_err-certificate-clause-in_order
returns-in_err-certificate-clause-in_order g c = λ without.
    let given = c.in_ok-given.given in
    let plans = stream g.P.Source.account c.args.plan.now c.given_plan_text.new.plan in
    absurd (without given.plan (gave_plan plans given.text.items given.plan c.in_ok-given.ensures.given))

pub returns-clause-in_order : goal.returns-clause-in_order
returns-clause-in_order g c = λ without.
    let given = c.in_ok-given.given in
    let plans = stream g.P.Source.account c.args.plan.now c.given_plan_text.new.plan in
    absurd (without given.plan (gave_plan plans given.text.items given.plan c.in_ok-given.ensures.given))

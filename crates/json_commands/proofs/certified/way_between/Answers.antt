use Rattle.std.proofs.Common.{subst}
use Rattle.plan_values.specs.declared.plan.Plan.{Plan}
use Rattle.command_answers.specs.Naming.{IsDestination, IsFirstNamed}
use Rattle.json_commands.proofs.certified.way_between.Goals as goal

pub returns-in_ok-traced-in-Some : goal.returns-in_ok-traced-in-Some
returns-in_ok-traced-in-Some c =
    let n = c.in-Some.sender in
    let eid = c.in-Some.destination in
    let told = c.in_ok-traced-in-Some in
    let Named : Plan → Type 0 = λ p. IsFirstNamed p c.args.from.now n × IsDestination p c.args.to.now eid.value in
    let ends = subst Named c.plan.ensures.plan c.in-Some.ensures in
    (told.ensures.0, (n, eid, ends.0, ends.1, told.ensures.1))

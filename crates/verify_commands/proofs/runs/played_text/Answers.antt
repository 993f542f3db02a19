use Rattle.std.{proofs.Common.{◌∙◌, length, map, string_bytes, arith}, proofs.lemmas.List.{length-map}}
use Rattle.net_tables.specs.TwoPlans.{one_plan}
use Rattle.net_sim.{specs.Networks.{checked_of}, specs.Outcomes.{event_value, outcome_value}}
use Rattle.play_commands.specs.Expecting.{given_only}
use Rattle.verify_commands.proofs.Played.{lines_of_all, shows_walks, walks_in}
use Rattle.command_answers.proofs.Places.{starts_in}
use Rattle.verify_commands.proofs.runs.played_text.Goals as goal

pub returns : goal.returns
returns c =
    let plan = c.args.checked.0 in
    let cert = c.args.checked.1 in
    let events = map event_value c.args.events.now in
    let outcomes = c.in_ok-played.played.outcomes.items in
    let played = c.in_ok-played.ensures in
    let network = c.in_ok-network in
    let went = walks_in (one_plan plan, cert) (checked_of network.network) _ _ _ _ (network.ensures.checked ∙ c.of_plan.ensures)
    (starts_in (one_plan plan, cert) c.of_plan.result _ c.of_plan.ensures network.ensures.stands) played.walks in
    let all = played.whole c.if-played.false in
    shows_walks (one_plan plan) cert events (given_only (string_bytes c.in_ok-lines.lines)) _ (length outcomes) (map outcome_value outcomes) (length outcomes)
    (omega (arith, all, length-map c.args.events.now event_value)) (omega (arith, length-map outcomes outcome_value)) went.0 went.1
    (lines_of_all plan c.plan-plan.result.now outcomes c.deref.result.now (length outcomes) (string_bytes c.in_ok-lines.lines) c.plan-plan.ensures.plan c.deref.ensures.value
    (omega (arith, length-map outcomes outcome_value)) c.in_ok-lines.ensures)

use Rattle.std.{proofs.Common.{◌∙◌, length, map, arith}, proofs.lemmas.List.{length-map}}
use Rattle.net_tables.specs.TwoPlans.{one_plan}
use Rattle.net_sim.{specs.Networks.{checked_of}, specs.Outcomes.{event_value, outcome_value}}
use Rattle.command_answers.proofs.Places.{starts_in}
use Rattle.play_commands.{proofs.Scripted.{ends_with, last_taken, no_item}, proofs.Simulated.{walks_in}}
use Rattle.play_commands.proofs.script.judging.last_outcome.Goals as goal

pub returns-clause-ends : goal.returns-clause-ends
returns-clause-ends c =
    let plan = c.args.checked.0 in
    let cert = c.args.checked.1 in
    let events = map event_value c.args.events.now in
    let outcomes = c.in_ok-played.played.outcomes.items in
    let played = c.in_ok-played.ensures in
    let network = c.in_ok-network in
    let went = walks_in (one_plan plan, cert) (checked_of network.network) _ _ _ _ (network.ensures.checked ∙ c.of_plan.ensures)
    (starts_in (one_plan plan, cert) c.of_plan.result _ c.of_plan.ensures network.ensures.stands) played.walks in
    let all = played.whole c.if-played.false in
    ends_with plan cert events _ (length outcomes) (map outcome_value outcomes) _ (omega (arith, all, length-map c.args.events.now event_value)) went.0 went.1
    (last_taken outcome_value outcomes _ c.pop.result c.pop.ensures.items (λ some. no_item c.pop.result (c.pop.ensures.variant.1 (omega (arith, some, c.in_ok-played.played.outcomes.ok.0)))))

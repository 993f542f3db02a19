use Rattle.std.{proofs.Common.{◌∙◌, ap, subst, map, arith}, proofs.lemmas.List.{length-map}}
use Rattle.bus_commands.proofs.HopLaws.{added, captured_none, captured_next, captured_all}
use Rattle.command_answers.proofs.Places.{starts_in}
use Rattle.net_runs.specs.Walkers.{walked_at_start}
use Rattle.net_tables.specs.TwoPlans.{one_plan}
use Rattle.net_sim.{specs.Networks.{network_value}, specs.Outcomes.{event_value, outcome_value}, specs.WalkedStanding.{WalkedPlays}}
use Rattle.pdr_repository.specs.BlockTermini.{block_tid, block_records}
use Rattle.bus_commands.proofs.capture.captured.Goals as goal

pub loop-index-init : goal.loop-index-init
loop-index-init c =
    let network = c.in_ok-network in
    let started = starts_in (one_plan c.args.checked.0, c.args.checked.1) c.of_plan.result _ c.of_plan.ensures network.ensures.stands in
    (network.ensures.checked ∙ c.of_plan.ensures, captured_none c.args.checked.0 (walked_at_start c.args.checked.0 c.args.checked.1) _ _ started c.in_ok-file.ensures)

pub loop-index-preserved : goal.loop-index-preserved
loop-index-preserved c =
    let l = c.loop-index in
    let plan = c.args.checked.0 in
    let same = ap (λ r. r.0) l.invariant.0 in
    let went = c.in_ok-outcome.ensures in
    let plays = subst (λ t. WalkedPlays t (network_value block_tid block_records l.network) (event_value c.index-events-index.result) (outcome_value c.in_ok-outcome.outcome)
    (network_value block_tid block_records c.step.new.self)) same went.plays in (
      went.checked ∙ l.invariant.0,
      captured_next plan (walked_at_start plan c.args.checked.1) c.args.events.now l.index c.index-events-index.result c.loop-index-test.true c.index-events-index.is
          l.file.items c.add_hop.new.file.items _ _ (outcome_value c.in_ok-outcome.outcome) c.in_ok-departure.departure l.invariant.1 plays c.in_ok-departure.ensures
          (added plan c.plan-plan.result.now c.plan-plan.ensures.plan _ _ _ _ _ c.in_ok-add_hop.ensures),
    )

pub returns : goal.returns
returns c =
    let l = c.loop-index in
    let all = length-map c.args.events.now event_value in
    captured_all c.args.checked.0 c.args.checked.1 (map event_value c.args.events.now) l.index l.file.items _ (omega (arith, c.loop-index-test.false, all)) l.invariant.1

use Rattle.std.proofs.Common.{rules, ◌≡◌, map, Err, refl, subst}
use Rattle.plan_values.specs.declared.certificate.Certificate.{Certificate}
use Rattle.net_tables.specs.TwoPlans.{Tables}
use Rattle.net_sim.{specs.Dealing.{resting, at_rest}, specs.Networks.{network_value}, specs.Outcomes.{event_value}, specs.WalkedStanding.{StandsForWalked, without_walkers}, proofs.PlayedWalks.{promised}}
use Rattle.net_runs.specs.Walkers.{walked_at_start}
use Rattle.command_answers.specs.Answers.{stream}
use Rattle.play_commands.{specs.Simulating.{PlaysBy, PlaysFrom}, proofs.Simulated.{shows_nothing, shows_no_walks}}
use Rattle.command_answers.specs.declared.refused.Refused.TheVariants as refused
use Rattle.play_commands.proofs.sim.play_accepted.Goals as goal

pub returns-in_err-network-clause-plays : goal.returns-in_err-network-clause-plays
returns-in_err-network-clause-plays g c =
    let ended : c.from_residual.result ≡ Err refused.NoMemory = search rules in
    rw ended (λ planned. shows_no_walks c.args.accepted.0 c.args.accepted.1 _ _ refl)

pub returns-clause-plays : goal.returns-clause-plays
returns-clause-plays g c = λ planned.
    let network = c.in_ok-network in
    let value = network_value g.T.Terminus.tid g.T.Terminus.records network.network in
    let output = stream g.O.Sink.account c.args.output.now c.play_in.new.output in
    let P : Tables × Certificate → Type 0 = λ k. StandsForWalked value (walked_at_start k.0.plan k.1) → PlaysBy k.0 k.1 (map event_value c.args.events.now) c.play_in.result output in
    subst P network.ensures.checked c.play_in.ensures.walks (network.ensures.stands planned)

pub returns-in_err-network-clause-rests : goal.returns-in_err-network-clause-rests
returns-in_err-network-clause-rests g c =
    let ended : c.from_residual.result ≡ Err refused.NoMemory = search rules in
    rw ended (shows_nothing c.args.accepted.0 _ _ _ refl)

pub returns-clause-rests : goal.returns-clause-rests
returns-clause-rests g c =
    let network = c.in_ok-network in
    let output = stream g.O.Sink.account c.args.output.now c.play_in.new.output in
    let w = without_walkers (at_rest c.args.accepted.0.plan (map (resting g.T.Terminus.tid g.T.Terminus.records) c.args.termini.items)) in
    let P : Tables × Certificate → Type 0 = λ k. PlaysFrom k.0 w (map event_value c.args.events.now) c.play_in.result output in
    subst P network.ensures.checked (c.play_in.ensures.plays w network.ensures.at_rest)

pub returns-in_err-network-clause-promises : goal.returns-in_err-network-clause-promises
returns-in_err-network-clause-promises g c = promised c.args.accepted.0 c.args.accepted.1 c.plan-plan.ensures.accepted

pub returns-clause-promises : goal.returns-clause-promises
returns-clause-promises g c = promised c.args.accepted.0 c.args.accepted.1 c.plan-plan.ensures.accepted

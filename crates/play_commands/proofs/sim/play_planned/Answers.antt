use Rattle.std.proofs.Common.{rules, ◌≡◌, map, Ok, Err, inl, refl, subst}
use Rattle.plan_values.specs.declared.certificate.Certificate.{Certificate}
use Rattle.net_tables.specs.TwoPlans.{Tables}
use Rattle.net_sim.{specs.Networks.{network_value}, specs.Outcomes.{event_value}, specs.WalkedStanding.{StandsForWalked}, proofs.PlayedWalks.{promised}}
use Rattle.net_runs.specs.Walkers.{walked_at_start}
use Rattle.pdr_repository.specs.BlockTermini.{block_tid, block_records}
use Rattle.command_answers.specs.Answers.{stream}
use Rattle.play_commands.{specs.Simulating.{PlaysBy, RunsIn, IsTextIn}, proofs.Playing.{plays_part}}
use Rattle.command_answers.specs.declared.refused.Refused.TheVariants as refused
use Rattle.play_commands.proofs.sim.play_planned.Goals as goal

pub returns-in_err-network : goal.returns-in_err-network
returns-in_err-network g c =
    let ended : c.from_residual.result ≡ Err refused.NoMemory = search rules in
    rw ended (inl refl)

pub returns-in_err-play_in : goal.returns-in_err-play_in
returns-in_err-play_in g c =
    let tables = c.args.accepted.0 in
    let cert = c.args.accepted.1 in
    let events = map event_value c.args.events.now in
    let why = c.in_err-play_in.field-0.0 in
    let network = c.in_ok-network in
    let value = network_value block_tid block_records network.network in
    let output = stream g.O.Sink.account c.args.output.now c.play_in.new.output in
    let ended : c.from_residual-in_err-play_in.result ≡ Err why = search rules in
    let P : Tables × Certificate → Type 0 = λ k. StandsForWalked value (walked_at_start k.0.plan k.1) → PlaysBy {T = Unit {0}} k.0 k.1 events (Err why) output in
    rw ended (plays_part (RunsIn tables cert events) (λ text. ⊥) (IsTextIn tables cert events) (λ why. ⊥) _ output tables cert events why
    (subst P network.ensures.checked c.in_err-play_in.ensures.walks network.ensures.stands)
    (λ shown. (network.ensures.accepted, promised tables cert network.ensures.accepted, shown)) (λ text told. (network.ensures.accepted, told)))

pub returns : goal.returns
returns g c =
    let tables = c.args.accepted.0 in
    let cert = c.args.accepted.1 in
    let events = map event_value c.args.events.now in
    let network = c.in_ok-network in
    let value = network_value block_tid block_records network.network in
    let output = stream g.O.Sink.account c.args.output.now c.play_in.new.output in
    let P : Tables × Certificate → Type 0 = λ k. StandsForWalked value (walked_at_start k.0.plan k.1) → PlaysBy {T = Unit {0}} k.0 k.1 events (Ok tt) output in
    (network.ensures.accepted, promised tables cert network.ensures.accepted, subst P network.ensures.checked c.in_ok-play_in.ensures.walks network.ensures.stands)

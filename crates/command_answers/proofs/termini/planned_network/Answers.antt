use Rattle.std.{proofs.Common.{◌∙◌, ap}, proofs.lemmas.Result.{IfOk-weaker}}
use Rattle.pdr_repository.specs.BlockTermini.{block_tid, block_records}
use Rattle.net_check.proofs.Accepted.{orders}
use Rattle.net_runs.specs.Walkers.{walked_at_start}
use Rattle.net_sim.{specs.Networks.{network_value, StandsAtStart}, specs.WalkedStanding.{StandsForWalked}, specs.Dealing.{planned_termini}}
use Rattle.plan_values.{specs.declared.certificate.Certificate.{Certificate}, specs.declared.plan.Plan.{Plan}}
use Rattle.command_answers.proofs.Places.{same_order}
use Rattle.command_answers.proofs.termini.planned_network.Goals as goal

pub planned_termini-requires : goal.planned_termini-requires
planned_termini-requires c =
    let tables = c.args.accepted.0 in
    same_order tables.plan c.plan.result.now c.args.accepted.1 c.certificate.result.now (orders tables.plan tables.after c.args.accepted.1 c.plan.ensures.accepted)
    c.plan.ensures.plan c.certificate.ensures.certificate

pub returns-clause-stands : goal.returns-clause-stands
returns-clause-stands c =
    let plan = c.args.accepted.0.plan in
    let cert = c.args.accepted.1 in
    let planned = c.in_ok-termini.ensures ∙ (ap (λ (p : Plan). planned_termini p c.certificate.result.now) c.plan.ensures.plan
    ∙ ap (λ (k : Certificate). planned_termini plan k) c.certificate.ensures.certificate) in
    IfOk-weaker c.start.result (StandsAtStart block_tid block_records plan cert c.in_ok-termini.termini.items)
    (λ network. StandsForWalked (network_value block_tid block_records network) (walked_at_start plan cert)) (λ network stands. stands planned) c.start.ensures.stands

use Rattle.std.proofs.Common.{◌≡◌, map, subst}
use Rattle.plan_values.specs.declared.certificate.Certificate.{Certificate}
use Rattle.net_tables.specs.TwoPlans.{Tables}
use Rattle.net_sim.{specs.Dealing.{resting, planned_termini}, specs.Outcomes.{event_value}}
use Rattle.command_answers.specs.Answers.{stream}
use Rattle.play_commands.specs.Simulating.{SimulatesBy}
use Rattle.play_commands.proofs.sim.run_sim.Goals as goal

pub returns-clause-plays : goal.returns-clause-plays
returns-clause-plays g c =
    let output = stream g.O.Sink.account c.args.output.now c.run_accepted.new.output in
    let P : Tables × Certificate → Type 0 = λ k. map (resting g.T.Terminus.tid g.T.Terminus.records) c.args.termini.items ≡ planned_termini k.0.plan k.1
    → SimulatesBy k.0 k.1 (map event_value c.args.events.now) c.run_accepted.result output in
    subst P c.of_plan.ensures c.run_accepted.ensures.plays

use Rattle.std.proofs.Common.{map, ap}
use Rattle.net_sim.specs.Outcomes.{event_value}
use Rattle.network_tests.proofs.Alone.{started}
use Rattle.network_tests.proofs.tests.planned.run_planned.Goals as goal

pub returns : goal.returns
returns g c =
    let network = c.in_ok-network.ensures in
    started c.args.checked.0 c.args.checked.1 (map event_value c.args.events.now) c.run.result _ _ _ c.run.ensures.plays (ap (λ p. p.0) network.checked) (network.stands c.requires)
